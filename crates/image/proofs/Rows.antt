-- A test by a range, and what it shows.
use mathlib.Core.Path.{◌≡◌}
use mathlib.Core.Bool.{true}
use Prim.Native.Nat.{ℕ}
use native.Mathlib.Omega.{arith}
use Rattle.settings.specs.declared.Range.{Range}
use Rattle.settings.specs.Limits.{within, Between}

pub inside_between : (range : Range) (n : ℕ) → within range n ≡ true → Between range n
unfolding within
inside_between range n e = grind arith

pub between_inside : (range : Range) (n : ℕ) → Between range n → within range n ≡ true
unfolding within
between_inside range n b = grind arith
