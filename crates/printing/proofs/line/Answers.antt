use borrow.Author.Rules.{rules}
use Rattle.printing.proofs.Output.{lined}
use Rattle.printing.proofs.line.Goals as goal

ruleset laws = (rules, lined)

pub returns : goal.returns
returns c = search laws
