use Rattle.std.proofs.Common.{rules}
use Rattle.pipettor.proofs.Controllers.{is_stopped}
use Rattle.pipettor.proofs.Returning.{stop_keeps}
use Rattle.pipettor.proofs.Controller.stop.Goals as goal

ruleset laws = (rules, is_stopped, stop_keeps)

pub returns : goal.returns
returns c = search laws
