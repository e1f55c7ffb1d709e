use Rattle.host.proofs.Calls.{as_handed, is_tick}
use Rattle.host.proofs.pipettor_tick.Goals as goal

pub returns : goal.returns
returns c = search (as_handed, is_tick, c.news_code.ensures, c.put.ensures, c.advanced-gone.ensures, c.in-Some.is, c.pose_read.ensures.is, c.if-is_idle.false, c.is_idle.ensures, c.ranges.reading)
