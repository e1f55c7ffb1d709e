use Rattle.std.proofs.Common.{rules}
use Rattle.pipettor.proofs.Controllers.{is_ticked}
use Rattle.pipettor.proofs.Returning.{tick_returns}
use Rattle.pipettor.proofs.Controller.tick.Goals as goal

ruleset laws = (rules, is_ticked, tick_returns)

pub returns : goal.returns
returns c = search laws
