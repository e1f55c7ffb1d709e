use borrow.Author.Rules.{rules}
use Rattle.printing.proofs.Output.{barred_hex}
use Rattle.printing.proofs.in_hex.Goals as goal

ruleset laws = (rules, barred_hex)

pub returns : goal.returns
returns c = search laws
