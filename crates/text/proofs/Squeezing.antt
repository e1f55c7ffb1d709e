-- Laws of texts without their spaces: one byte more, and how long they are.
use mathlib.Core.Path.{◌≡◌, refl, ap}
use mathlib.Core.Bool.{Bool, true, false}
use mathlib.Core.List.{List, [], ◌∷◌, ◌++◌, append-nil}
use Prim.Native.Nat.{ℕ, ◌+◌, ◌≤◌, ◌<◌}
use native.Mathlib.Numerals.{add-one}
use native.Mathlib.Omega.{arith}
use lib.Dec.{eqb}
use lib.ListN.{length, take, get_or}
use lib.Seq.{take-suc}
use Rattle.std.specs.Prelude.{if◌then◌else◌}
use Rattle.text.specs.Data.{spaceless}

pub spaceless_append : (a b : List ℕ) → spaceless (a ++ b) ≡ spaceless a ++ spaceless b
unfolding spaceless
spaceless_append [] b = refl
spaceless_append (x ∷ a) b = go (eqb x 32) (spaceless_append a b)
  where
    go :
        (f : Bool) → spaceless (a ++ b) ≡ spaceless a ++ spaceless b →
        (if f then spaceless (a ++ b) else x ∷ spaceless (a ++ b)) ≡ (if f then spaceless a else x ∷ spaceless a) ++ spaceless b
    go true e = e
    go false e = ap (◌∷◌ x) e

pub spaceless_short : (t : List ℕ) → length (spaceless t) ≤ length t
unfolding spaceless
spaceless_short [] = omega arith
spaceless_short (x ∷ t) = go (eqb x 32) (spaceless_short t)
  where
    go : (f : Bool) → length (spaceless t) ≤ length t → length (if f then spaceless t else x ∷ spaceless t) ≤ length (x ∷ t)
    go true e = omega arith
    go false e = omega arith

-- the bytes before an index, and one more
module _ (t : List ℕ) (i : ℕ) (h : i < length t) where
  pub spaceless_more : spaceless (take (i + 1) t) ≡ (if eqb (get_or t i 0) 32 then spaceless (take i t) else spaceless (take i t) ++ get_or t i 0 ∷ [])
  unfolding spaceless
  spaceless_more = rw (add-one, take-suc t i 0 h, spaceless_append) (go (eqb (get_or t i 0) 32))
    where
      go :
          (f : Bool) →
          spaceless (take i t) ++ (if f then [] else get_or t i 0 ∷ []) ≡ (if f then spaceless (take i t) else spaceless (take i t) ++ get_or t i 0 ∷ [])
      go true = append-nil (spaceless (take i t))
      go false = refl
