use Rattle.std.proofs.Common.{rules}
use Rattle.pipettor.proofs.Controllers.{is_run}
use Rattle.pipettor.proofs.Returning.{run_returns}
use Rattle.pipettor.proofs.Controller.run.Goals as goal

ruleset laws = (rules, is_run, run_returns)

pub returns : goal.returns
returns c = search laws
