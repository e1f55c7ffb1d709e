use Rattle.std.proofs.Common.{rules}
use Rattle.pipettor.proofs.Controllers.{is_advanced}
use Rattle.pipettor.proofs.Returning.{advance_returns}
use Rattle.pipettor.proofs.Controller.advance.Goals as goal

ruleset laws = (rules, is_advanced, advance_returns)

pub returns : goal.returns
returns c = search laws
