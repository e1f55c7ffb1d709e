-- Laws of lists, stated as code meets them: an index that is `i + 1`, a part of a slice.
use mathlib.Core.Path.{◌≡◌, sym}
use mathlib.Core.List.{List, [], ◌∷◌}
use Prim.Native.Nat.{ℕ, ◌+◌, ◌-◌, ◌≤◌, ◌<◌}
use native.Mathlib.Nat.{le_refl}
use native.Mathlib.Numerals.{add-one}
use native.Mathlib.Omega.{arith}
use lib.ListN.{length, take, drop, get_or, length-drop, drop_of_length-le}
use lib.Seq.{drop-cons, take_all, length-take-le}

-- what stands at i, and what follows it
pub drop_step : (t : List ℕ) (i : ℕ) → i < length t → drop i t ≡ get_or t i 0 ∷ drop (i + 1) t
drop_step t i h = rw (add-one, drop-cons t i 0)

-- `&t[a..]`
pub tail_all : (a : ℕ) (t : List ℕ) → take (length t - a) (drop a t) ≡ drop a t
tail_all a t = take_all (length t - a) (drop a t) (rw length-drop (le_refl (length t - a)))

-- `&t[..n]`
pub front_counted : (n : ℕ) (t : List ℕ) → n ≤ length t → n ≡ length (take n t)
front_counted n t h = sym (length-take-le n t h)

-- a text of no bytes, and one of some
pub empty : (t : List ℕ) → length t ≡ 0 → t ≡ []
empty t h = drop_of_length-le t {i = 0} (omega arith)

pub full : (t : List ℕ) → (length t ≡ 0 → ⊥) → t ≡ get_or t 0 0 ∷ drop 1 t
full t h = drop_step t 0 (omega arith)
