use Rattle.std.proofs.Common.{rules}
use Rattle.pipettor.proofs.Frames.{gets, gets_not, gets_none}
use Rattle.pipettor.proofs.acting.get.Goals as goal

ruleset laws = (rules, gets, gets_not, gets_none)

pub returns-in-Nothing : goal.returns-in-Nothing
returns-in-Nothing c = search laws

pub returns-then-a-ours : goal.returns-then-a-ours
returns-then-a-ours c = search laws

pub returns-else-a-ours : goal.returns-else-a-ours
returns-else-a-ours c = search laws
