use Rattle.std.proofs.Common.{rules}
use Rattle.console.proofs.Program.{the_end, some_bytes}
use Rattle.console.proofs.Memory.take_in.Goals as goal

pub returns-then-is_empty : goal.returns-then-is_empty
returns-then-is_empty c = the_end _ _ _ _ c.is_empty.ensures c.if-is_empty.true _ (search rules) (rw c.clear.ensures at c.finish.ensures)

pub returns-else-is_empty : goal.returns-else-is_empty
returns-else-is_empty c = some_bytes _ _ _ _ c.is_empty.ensures c.if-is_empty.false (rw c.clear.ensures at c.eat.ensures)
