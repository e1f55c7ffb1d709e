use borrow.Author.Rules.{rules}
use Rattle.printing.proofs.Output.{put_down}
use Rattle.printing.proofs.put.Goals as goal

ruleset laws = (rules, put_down)

pub returns : goal.returns
returns c = search laws
