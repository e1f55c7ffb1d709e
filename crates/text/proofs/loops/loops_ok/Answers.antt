use mathlib.Core.Path.{◌≡◌}
use mathlib.Core.Bool.{false}
use Prim.Native.Nat.{ℕ}
use borrow.Author.Rules.{rules}
use lib.Dec.{eqb}
use Rattle.std.specs.Prelude.{None, Option, Some}
use Rattle.text.specs.Text.{Reading}
use Rattle.text.specs.Loops.{level_read, loops_in}
use Rattle.text.proofs.Levels.{counted_on}
use Rattle.text.proofs.loops.loops_ok.Goals as goal

module _ (a b : Reading) (x : Option ℕ) (e : x ≡ level_read a 0) where
  broken : x ≡ None → false ≡ loops_in a b
  broken q = rw (← e, q) at (counted_on a b)

  module _ (between : ℕ) (q : x ≡ Some between) (y : Option ℕ) (f : y ≡ level_read b between) where
    broken_later : y ≡ None → false ≡ loops_in a b
    broken_later p = rw (← e, q, ← f, p) at (counted_on a b)

    left : (n : ℕ) → y ≡ Some n → eqb n 0 ≡ loops_in a b
    left n p = rw (← e, q, ← f, p) at (counted_on a b)

ruleset laws = (rules, broken, broken_later, left)

pub returns-in_default : goal.returns-in_default
returns-in_default c = search laws

pub returns-in-Some-level_behind : goal.returns-in-Some-level_behind
returns-in-Some-level_behind c = search laws

pub returns-in-None : goal.returns-in-None
returns-in-None c = search laws
