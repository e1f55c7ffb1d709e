use Rattle.std.proofs.Common.{rules}
use Rattle.printing.specs.Print.{added_of}
use Rattle.printing.proofs.Output.{says_nothing, says_too_much, says_bytes, says_s1}
use Rattle.printing.proofs.raw.Goals as goal

ruleset laws = (rules, says_nothing, says_bytes, says_s1)

pub returns-in-Ok-None : goal.returns-in-Ok-None
unfolding added_of
returns-in-Ok-None c = search laws

pub returns-then-n-answer : goal.returns-then-n-answer
unfolding added_of
returns-then-n-answer c = search laws

pub returns-else-n-answer : goal.returns-else-n-answer
returns-else-n-answer c = search (rules, says_too_much c.args.first c.args.said c.args.answer.now c.args.at c.args.out.now c.in-Ok-Some.n)

pub returns-in-Err : goal.returns-in-Err
unfolding added_of
returns-in-Err c = search laws
