use Rattle.host.proofs.Calls.{as_handed, is_running}
use Rattle.host.proofs.pipettor_run.Goals as goal

pub returns : goal.returns
returns c = search (as_handed, is_running, c.used_code.ensures, c.put.ensures, c.ran-ran.ensures, c.in-Some.is, c.pose_read.ensures.is, c.ranges.reading)
