-- ds stand in the buffer from i to the end, and the digits of what is left, before ds, are the digits asked for
use Rattle.std.proofs.Common.{◌≡◌, ℕ, ◌+◌, ◌-◌, List, ◌++◌, length}
use Rattle.basics.specs.Lay.{over}
use Rattle.decimal.specs.Digits.{last_digits}
use Rattle.decimal.proofs.put_last.Given as goal

pub record Laying (k n end : ℕ) (before now : List ℕ) (rest i : ℕ) : Type 0 where
  pub ds : List ℕ
  pub same : now ≡ over ds i before
  pub ends : i + length ds ≡ end
  pub digits : last_digits (i - (end - k)) rest ++ ds ≡ last_digits k n

abbrev pub invariant-loop-i : goal.invariant-loop-i
invariant-loop-i l = Laying l.k l.n l.end l.initial.buf l.buf l.rest l.i
