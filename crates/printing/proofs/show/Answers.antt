use borrow.Author.Rules.{rules}
use Rattle.printing.proofs.Output.{shows_silence, shows_s1, shown_fits, shows}
use Rattle.printing.specs.Print.{shown_of}
use Rattle.printing.proofs.show.Goals as goal

ruleset laws = (rules, shows_silence, shows_s1, shown_fits, shows)

pub line-requires-in-Ok-Some : goal.line-requires-in-Ok-Some
line-requires-in-Ok-Some c = search laws

pub returns-in-Ok-None : goal.returns-in-Ok-None
unfolding shown_of
returns-in-Ok-None c = search laws

pub returns-in-Ok-Some : goal.returns-in-Ok-Some
unfolding shown_of
returns-in-Ok-Some c = search laws

pub returns-in-Err : goal.returns-in-Err
unfolding shown_of
returns-in-Err c = search laws
