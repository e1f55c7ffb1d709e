use Prim.Native.Nat.{◌-◌}
use Rattle.machine.specs.Step.{fine}
use Rattle.machine.proofs.Leaping.{Running}
use Rattle.machine.proofs.step.run.Given as goal

abbrev pub invariant-loop-used : goal.invariant-loop-used
invariant-loop-used l = Running (fine l.fn.start) l.text l.sense l.n l.s l.used

abbrev pub decreases-loop-used : goal.decreases-loop-used
decreases-loop-used l = l.n - l.used
