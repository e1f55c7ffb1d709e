-- What the first i bytes are without spaces stands in front, and the rest of the buffer is as it was.
use mathlib.Core.Path.{◌≡◌}
use mathlib.Core.List.{List, ◌++◌}
use Prim.Native.Nat.{ℕ, ◌≤◌}
use lib.ListN.{length, take, drop}
use Rattle.text.specs.Data.{spaceless}
use Rattle.text.proofs.squeeze.Given as goal

pub record Kept (before now : List ℕ) (kept i : ℕ) : Type 0 where
  pub within : i ≤ length before
  pub behind : kept ≤ i
  pub count : kept ≡ length (spaceless (take i before))
  pub bytes : now ≡ spaceless (take i before) ++ drop kept before
  pub long : length now ≡ length before

abbrev pub invariant-loop-i : goal.invariant-loop-i
invariant-loop-i l = Kept l.initial.t l.t l.kept l.i
