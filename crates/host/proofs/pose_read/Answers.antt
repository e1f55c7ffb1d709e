use Rattle.host.proofs.Calls.{readable}
use Rattle.host.proofs.pose_read.Goals as goal

pub returns-then-is_written-clause-valid : goal.returns-then-is_written-clause-valid
returns-then-is_written-clause-valid c = search (readable, c.is_written.ensures, c.if-is_written.true)
