-- Laws of what numbers make, stated as the code meets them: what a function gave is known to be what its definition says, and to be the case at hand.
use mathlib.Core.Path.{◌≡◌}
use Prim.Native.Nat.{ℕ, ◌/◌}
use Rattle.std.specs.Prelude.{Err, None, Ok, Option, Result, Some}
use Rattle.command.specs.declared.Malformed.{Malformed}
use Rattle.command.specs.declared.Malformed.TheVariants.{WrongOperand}
use Rattle.basics.proofs.Rules.{tests}
use Rattle.settings.specs.declared.Range.{Range}
use Rattle.settings.specs.declared.Aspect.{Aspect}
use Rattle.operand.specs.declared.Number.{Number}
use Rattle.operand.specs.declared.Number.TheVariants.{Absent, Is, Wrong}
use Rattle.operand.specs.declared.Pair.{Pair}
use Rattle.command.specs.declared.Command.{Command}
use Rattle.command.specs.declared.Command.TheVariants as C
use Rattle.command.specs.Table.{taken_of, made, both, in_unit, row_at, row_of, detail_of, set_by}

-- a number of the table, by its range and its default
pub accepted : (k : ℕ) (range R : Range) (usual U : ℕ) (n : Number) (r : Option ℕ) → range ≡ R → usual ≡ U → r ≡ taken_of k range usual n → r ≡ taken_of k R U n
accepted k range R usual U n r p q e = rw (p, q) at e

-- one number; x is what was given for it
module _ (read : ℕ) (f : ℕ → Command) (x t : Option ℕ) (e : x ≡ t) where
  pub made_good : (n : ℕ) (r : Result Command Malformed) → x ≡ Some n → r ≡ Ok (f n) → r ≡ made read f t
  unfolding made
  made_good n r h q = rw (← e, h) q

  pub made_bad : x ≡ None → Err (WrongOperand read) ≡ made read f t
  unfolding made
  made_bad h = rw (← e, h)

  pub made_of : (r : Result Command Malformed) → r ≡ made read f x → r ≡ made read f t
  made_of r h = rw e at h

-- two numbers
module _ (read : ℕ) (f : ℕ → ℕ → Command) (x t : Option ℕ) (e : x ≡ t) (y s : Option ℕ) where
  pub both_first : x ≡ None → Err (WrongOperand read) ≡ both read f t s
  unfolding both
  both_first h = rw (← e, h)

  module _ (a : ℕ) (h : x ≡ Some a) (d : y ≡ s) where
    pub both_second : y ≡ None → Err (WrongOperand read) ≡ both read f t s
    unfolding both
    both_second k = rw (← e, h, ← d, k)

    pub both_good : (b : ℕ) (r : Result Command Malformed) → y ≡ Some b → r ≡ Ok (f a b) → r ≡ both read f t s
    unfolding both
    both_good b r k q = rw (← e, h, ← d, k) q

-- a unit and what is made in each
module _ (read : ℕ) (x t : Option ℕ) (e : x ≡ t) (increments micro : Result Command Malformed) where
  pub unit_bad : x ≡ None → Err (WrongOperand read) ≡ in_unit read t increments micro
  unfolding in_unit
  unit_bad h = rw (← e, h)

  module _ (unit : ℕ) (h : x ≡ Some unit) (r : Result Command Malformed) where
    pub unit_increments : unit ≡ 0 → r ≡ increments → r ≡ in_unit read t increments micro
    unfolding in_unit
    unit_increments z q = rw (← e, h, z) q

    pub unit_micro : (unit ≡ 0 → ⊥) → r ≡ micro → r ≡ in_unit read t increments micro
    unfolding in_unit
    unit_micro z q = rw (← e, h) (simp tests q)

-- the first number of p
module _ (n : Number) where
  pub row_absent : n ≡ Absent → None ≡ row_of n
  unfolding row_of
  row_absent h = rw h

  pub row_wrong : (read : ℕ) → n ≡ Wrong read → None ≡ row_of n
  unfolding row_of
  row_wrong read h = rw h

  module _ (thousandths decimals : ℕ) (h : n ≡ Is thousandths decimals) where
    pub row_pointed : (decimals ≡ 0 → ⊥) → None ≡ row_of n
    unfolding row_of
    row_pointed z = rw h (simp tests)

    pub row_whole : (r : Option Aspect) → decimals ≡ 0 → r ≡ row_at (thousandths / 1000) → r ≡ row_of n
    unfolding row_of
    row_whole r z q = rw (h, z) q

-- p: a row and what it sets
module _ (x row : Option Aspect) (e : x ≡ row) (p : Pair) where
  pub set_row : (a : Aspect) (r : Result Command Malformed) → x ≡ Some a → r ≡ made p.read (C.Set a) (detail_of a p.second) → r ≡ set_by row p
  unfolding set_by
  set_row a r h q = rw (← e, h) q

  pub set_none : x ≡ None → Err (WrongOperand p.read) ≡ set_by row p
  unfolding set_by
  set_none h = rw (← e, h)

pub ruleset first_number = (row_absent, row_wrong, row_pointed, row_whole)

pub ruleset one_number = (made_good, made_bad)

pub ruleset two_numbers = (both_first, both_second, both_good)

pub ruleset units = (unit_bad, unit_increments, unit_micro, made_of)
