-- A byte that is kept has room.
use mathlib.Core.Path.{◌≡◌}
use mathlib.Core.Bool.{Bool, true}
use mathlib.Core.List.{List}
use Prim.Native.Nat.{ℕ, ◌+◌}
use native.Mathlib.Omega.{arith}
use mir.Val.{Fits}
use mir.Syntax.{w32}
use lib.ListN.{get_or}
use Rattle.image.specs.Image.{collects}

pub one_more_fits : (b : ℕ) (l c : List ℕ) (t : Bool) → t ≡ collects b l c → t ≡ true → Fits w32 (get_or c 0 0 + 1)
unfolding collects
one_more_fits b l c t e h = grind arith
