-- What is left of the text, read, gives the verdict of the whole.
use mathlib.Core.Path.{◌≡◌}
use mathlib.Core.List.{List}
use Prim.Native.Nat.{ℕ, ◌-◌}
use lib.ListN.{length}
use Rattle.text.specs.Text.{verdict, check_of}
use Rattle.text.proofs.Places.{read_at}
use Rattle.text.proofs.check.Given as goal

pub record Left (s : List ℕ) (at : ℕ) : Type 0 where
  pub same : verdict (read_at s at) ≡ check_of s

abbrev pub invariant-loop-next : goal.invariant-loop-next
invariant-loop-next l = Left l.t l.at

abbrev pub decreases-loop-next : goal.decreases-loop-next
decreases-loop-next l = length l.t - l.at
