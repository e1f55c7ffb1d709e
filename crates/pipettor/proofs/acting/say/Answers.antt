use Rattle.std.proofs.Common.{rules}
use Rattle.pipettor.proofs.Tasks.{mute, spoken_case, says, says_short}
use Rattle.pipettor.proofs.acting.say.Goals as goal

ruleset laws = (rules, mute, spoken_case, says, says_short)

pub returns-in_default : goal.returns-in_default
returns-in_default c = search laws

pub returns-in-Some-answer : goal.returns-in-Some-answer
returns-in-Some-answer c = search laws

pub returns-in-None : goal.returns-in-None
returns-in-None c = search laws
