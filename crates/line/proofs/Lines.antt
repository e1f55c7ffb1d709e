-- Sums of bytes: as a fold, and of bytes in two parts.
use mathlib.Core.Path.{◌≡◌, refl}
use mathlib.Core.List.{List, [], ◌∷◌, ◌++◌}
use Prim.Native.Nat.{ℕ}
use lib.Bits.{bit_xor}
use Rattle.std.specs.List.{fold}
use Rattle.line.specs.Bytes.{sum_from}

pub sum_folded : (s : ℕ) (bs : List ℕ) → fold bit_xor s bs ≡ sum_from s bs
unfolding sum_from
sum_folded s [] = refl
sum_folded s (b ∷ bs) = sum_folded (bit_xor s b) bs

pub sum_append : (s : ℕ) (xs ys : List ℕ) → sum_from s (xs ++ ys) ≡ sum_from (sum_from s xs) ys
unfolding sum_from
sum_append s [] ys = refl
sum_append s (x ∷ xs) ys = sum_append (bit_xor s x) xs ys
