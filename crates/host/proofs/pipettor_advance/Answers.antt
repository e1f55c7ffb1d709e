use Rattle.host.proofs.Calls.{as_handed, is_advance}
use Rattle.host.proofs.pipettor_advance.Goals as goal

pub returns : goal.returns
returns c = search (as_handed, is_advance, c.news_code.ensures, c.put.ensures, c.advanced-gone.ensures, c.in-Some.is, c.pose_read.ensures.is, c.ranges.reading)
