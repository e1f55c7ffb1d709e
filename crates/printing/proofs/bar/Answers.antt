use borrow.Author.Rules.{rules}
use Rattle.printing.proofs.Output.{no_bar}
use Rattle.printing.proofs.bar.Goals as goal

ruleset laws = (rules, no_bar)

pub returns-then-first : goal.returns-then-first
returns-then-first c = search laws
