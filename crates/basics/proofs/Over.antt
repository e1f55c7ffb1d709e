-- Laws of `over`: one byte more in front, the length, and what stands from its place on.
use mathlib.Core.Path.{◌≡◌}
use mathlib.Core.List.{List, [], ◌∷◌, ◌++◌, append_assoc, append-nil}
use Prim.Native.Nat.{ℕ, suc, ◌+◌, ◌≤◌, ◌<◌}
use native.Mathlib.Numerals.{add-one}
use native.Mathlib.Omega.{arith}
use lib.ListN.{length, take, drop, get_or, set, length-append, length-drop, take-append-drop}
use lib.Seq.{take-suc, length-take-le, set_at, drop_at}
use Rattle.basics.specs.Lay.{over}

pub over_none : (at : ℕ) (buf : List ℕ) → over [] at buf ≡ buf
unfolding over
over_none at buf = let z : at + 0 ≡ at = omega arith in rw (z, append-nil, take-append-drop)

pub length_over : (xs : List ℕ) (at : ℕ) (buf : List ℕ) → at + length xs ≤ length buf → length (over xs at buf) ≡ length buf
unfolding over
length_over xs at buf h =
    let l = length-take-le at buf (omega arith) in
    simp (length-append, length-drop) (omega arith)

pub drop_over : (xs : List ℕ) (at : ℕ) (buf : List ℕ) → at ≤ length buf → drop at (over xs at buf) ≡ xs ++ drop (at + length xs) buf
unfolding over
drop_over xs at buf h =
    rw (append_assoc (take at buf) xs (drop (at + length xs) buf))
    (drop_at (take at buf) (xs ++ drop (at + length xs) buf) at (length-take-le at buf h))

pub over_front : (d : ℕ) (ds : List ℕ) (i : ℕ) (buf : List ℕ) → i < length buf → set (over ds (i + 1) buf) i d ≡ over (d ∷ ds) i buf
unfolding over
over_front d ds i buf h =
    let n : i + 1 + length ds ≡ i + suc (length ds) = omega arith in
    rw (n, add-one, take-suc buf i 0 h)
    (simp append_assoc
    (set_at (take i buf) (get_or buf i 0) (ds ++ drop (i + suc (length ds)) buf) d i (length-take-le i buf (omega arith))))
