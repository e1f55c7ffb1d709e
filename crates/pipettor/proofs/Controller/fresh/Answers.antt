use Rattle.std.proofs.Common.{rules}
use Rattle.pipettor.proofs.Controllers.{is_made}
use Rattle.pipettor.proofs.Returning.{made_returns}
use Rattle.pipettor.proofs.Controller.fresh.Goals as goal

ruleset laws = (rules, is_made, made_returns)

pub returns : goal.returns
returns c = search laws
