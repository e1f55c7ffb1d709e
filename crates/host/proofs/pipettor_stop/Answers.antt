use Rattle.host.proofs.Calls.{is_stop}
use Rattle.host.proofs.pipettor_stop.Goals as goal

pub returns : goal.returns
returns c = search (is_stop, c.put.ensures, c.stopped.ensures, c.in-Some.is, c.pose_read.ensures.is)
