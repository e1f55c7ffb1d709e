-- The first i bytes stand in the buffer, and the rest of it is as it was.
use Rattle.std.proofs.Common.{◌≡◌, ℕ, List, length}
use lib.Seq.{paste}
use Rattle.basics.proofs.lay.Given as goal

pub record Copied (xs : List ℕ) (at : ℕ) (before now : List ℕ) (i : ℕ) : Type 0 where
  pub same : now ≡ paste before at xs i
  pub long : length now ≡ length before

abbrev pub invariant-loop-i : goal.invariant-loop-i
invariant-loop-i l = Copied l.bytes l.at l.initial.buf l.buf l.i
