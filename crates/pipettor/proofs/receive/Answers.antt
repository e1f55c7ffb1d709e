use Rattle.std.proofs.Common.{rules}
use Rattle.pipettor.proofs.Listening.{at_a_frame, goes_on, ends}
use Rattle.pipettor.proofs.receive.Goals as goal

ruleset laws = (rules, at_a_frame, goes_on, ends)

pub returns-then-is_whole : goal.returns-then-is_whole
returns-then-is_whole c = search laws

pub loop-n-preserved : goal.loop-n-preserved
loop-n-preserved c = search laws

pub returns : goal.returns
returns c = search laws
