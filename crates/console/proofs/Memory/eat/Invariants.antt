use Rattle.std.proofs.Common.{◌-◌, length}
use Rattle.console.proofs.Lines.{Eating}
use Rattle.console.proofs.Memory.eat.Given as goal

abbrev pub invariant-loop-from : goal.invariant-loop-from
invariant-loop-from l = Eating l.initial.self l.chunk l.from l.self

abbrev pub decreases-loop-from : goal.decreases-loop-from
decreases-loop-from l = length l.chunk - l.from
