-- What is left of the text, from this level on, ends at the level of the whole.
use mathlib.Core.Path.{◌≡◌}
use mathlib.Core.List.{List}
use Prim.Native.Nat.{ℕ, ◌-◌}
use lib.ListN.{length}
use Rattle.text.specs.Text.{read_of}
use Rattle.text.specs.Loops.{level_read}
use Rattle.text.proofs.Places.{read_at}
use Rattle.text.proofs.loops.level_behind.Given as goal

pub record Left (s : List ℕ) (first at d : ℕ) : Type 0 where
  pub same : level_read (read_at s at) d ≡ level_read (read_of s) first

abbrev pub invariant-loop-c : goal.invariant-loop-c
invariant-loop-c l = Left l.t l.open l.at l.level

abbrev pub decreases-loop-c : goal.decreases-loop-c
decreases-loop-c l = length l.t - l.at
