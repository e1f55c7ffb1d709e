-- A number that is taken is within its range, the default too.
use mathlib.Core.Path.{◌≡◌, refl, sym, ◌∙◌}
use mathlib.Core.Bool.{Bool, true, false}
use Prim.Native.Nat.{ℕ, ◌-◌, ◌/◌, ◌^◌}
use native.Mathlib.Omega.{arith}
use borrow.Author.Tests.{ltb-true}
use lib.Dec.{leb, ltb}
use mir.Val.{Fits}
use mir.Syntax.{w16}
use Rattle.std.specs.Prelude.{if◌then◌else◌, None, Option, Some, Result, Ok}
use Rattle.settings.specs.declared.Range.{Range}
use Rattle.settings.specs.declared.Quantity.{Quantity}
use Rattle.settings.specs.declared.Quantity.TheVariants.{Home, Increments, Nanolitres, Slope, Backlash, Compensation, Choice, Delay, Passes}
use Rattle.settings.specs.declared.Aspect.{Aspect}
use Rattle.settings.specs.declared.Aspect.TheVariants.{Threshold, Duration, Place, Speed, Most, Mode, Interval}
use Rattle.settings.specs.Limits.{within, range_of, usual_of, aspects_of, usual_aspect, Between}
use Rattle.settings.proofs.Limits.{what_a_range_has_is_between, every_aspect_is_small}
use Rattle.operand.specs.declared.Number.{Number}
use Rattle.operand.specs.declared.Number.TheVariants.{Absent, Is, Wrong}
use Rattle.command.specs.declared.Malformed.{Malformed}
use Rattle.command.specs.Table.{required, ranged_of, allowed, taken_of, whole_of, detail_of}

pub good_is_not_bad : {A : Type 0} (v : ℕ) → None ≡ Some v → A
good_is_not_bad v e = let z : ◌≡◌ {A = ℕ} 0 1 = cc in absurd (omega arith)

pub ranged_is_between : (range : Range) (n v : ℕ) → ranged_of range n ≡ Some v → Between range v
ranged_is_between range n v e = go (within range n) refl e
  where
    go : (x : Bool) → within range n ≡ x → (if x then Some n else None) ≡ Some v → Between range v
    go true t q = let s : n ≡ v = cc in rw s at (what_a_range_has_is_between range n t)
    go false t q = good_is_not_bad v q

pub allowed_is_between : (k : ℕ) (range : Range) (n decimals v : ℕ) → allowed k range n decimals ≡ Some v → Between range v
unfolding allowed
allowed_is_between k range n decimals v e = go (leb decimals k) e
  where
    go : (x : Bool) → (if x then ranged_of range (n / 10 ^ (3 - k)) else None) ≡ Some v → Between range v
    go true q = ranged_is_between range (n / 10 ^ (3 - k)) v q
    go false q = good_is_not_bad v q

pub taken_is_between : (k : ℕ) (range : Range) (usual : ℕ) (n : Number) (v : ℕ) → Between range usual → taken_of k range usual n ≡ Some v → Between range v
unfolding taken_of
taken_is_between k range usual Absent v b e = let s : usual ≡ v = cc in rw s at b
taken_is_between k range usual (Is n decimals) v b e = allowed_is_between k range n decimals v e
taken_is_between k range usual (Wrong read) v b e = good_is_not_bad v e

pub usual_is_between : (q : Quantity) → Between (range_of q) (usual_of q)
usual_is_between Home = omega arith
usual_is_between Increments = omega arith
usual_is_between Nanolitres = omega arith
usual_is_between Slope = omega arith
usual_is_between Backlash = omega arith
usual_is_between Compensation = omega arith
usual_is_between Choice = omega arith
usual_is_between Delay = omega arith
usual_is_between Passes = omega arith

pub whole_is_between : (q : Quantity) (n : Number) (v : ℕ) → whole_of q n ≡ Some v → Between (range_of q) v
unfolding whole_of
whole_is_between q n v e = taken_is_between 0 (range_of q) (usual_of q) n v (usual_is_between q) e

usual_aspect_is_between : (a : Aspect) → Between (aspects_of a) (usual_aspect a)
usual_aspect_is_between Threshold = omega arith
usual_aspect_is_between Duration = omega arith
usual_aspect_is_between Place = omega arith
usual_aspect_is_between Speed = omega arith
usual_aspect_is_between Most = omega arith
usual_aspect_is_between Mode = omega arith
usual_aspect_is_between Interval = omega arith

pub detail_is_between : (a : Aspect) (n : Number) (v : ℕ) → detail_of a n ≡ Some v → Between (aspects_of a) v
unfolding detail_of
detail_is_between a n v e = taken_is_between 0 (aspects_of a) (usual_aspect a) n v (usual_aspect_is_between a) e

-- a range below 2 ^ 16 makes a number that fits 16 bits
pub small : (q : Quantity) (x : Option ℕ) (n : Number) (v : ℕ) → ltb (range_of q).most 65536 ≡ true → x ≡ whole_of q n → x ≡ Some v → Fits w16 v
small q x n v m e h = omega (arith, whole_is_between q n v (sym e ∙ h), ltb-true (range_of q).most 65536 m)

pub small_required : (q : Quantity) (read : ℕ) (n : Number) (r : Result ℕ Malformed) (v : ℕ) → ltb (range_of q).most 65536 ≡ true → r ≡ required read (whole_of q n) → r ≡ Ok v → Fits w16 v
small_required q read n r v m e h = go (whole_of q n) refl (sym h ∙ e)
  where
    go : (x : Option ℕ) → x ≡ whole_of q n → Ok v ≡ required read x → Fits w16 v
    go (Some w) k s = let t : v ≡ w = cc in rw t (small q (Some w) n w m k refl)
    go None k s = let z : ◌≡◌ {A = ℕ} 0 1 = cc in absurd (omega arith)

pub small_detail : (a : Aspect) (x : Option ℕ) (n : Number) (v : ℕ) → x ≡ detail_of a n → x ≡ Some v → Fits w16 v
small_detail a x n v e h = omega (arith, every_aspect_is_small a v (detail_is_between a n v (sym e ∙ h)))
