-- Bytes in an array: what is put behind those that are there.
use mathlib.Core.Path.{◌≡◌, sym, ap, ◌∙◌}
use mathlib.Core.List.{List, ◌++◌}
use Prim.Native.Nat.{ℕ, ◌+◌, ◌-◌, ◌≤◌}
use native.Mathlib.Omega.{arith}
use lib.ListN.{length, take, drop, length-append, length-take}
use lib.Seq.{take_at, length-take-le}
use Rattle.std.proofs.Common.{min}
use Rattle.std.proofs.Math.Seq.{take-append-add}
use Rattle.std.proofs.lemmas.List.{take_min}
use borrow.Rule.Slice.PartMut.{put_mid}
use Rattle.std.proofs.lemmas.Slice.{take-put_mid}
use Rattle.basics.specs.Lay.{over}

-- as many bytes as there is room for, behind those that are there
pub as_many :
    (N filled n : ℕ) (array before more part : List ℕ) → filled ≤ N → length array ≡ N → before ≡ take filled array → n ≡ min (length more) (N - filled) → part ≡ take n more →
    take (filled + n) (put_mid filled (filled + n - filled) array part) ≡ take N (before ++ more)
as_many N filled n array before more part h w b e p =
    let l = length-take n more in
    let f = length-take-le filled array (omega arith) in
    let k : n ≡ min (N - filled) (length more) = omega arith in
    let whole : N ≡ length (take filled array) + (N - filled) = omega arith in
    rw (b, p) (
    take-put_mid filled (filled + n - filled) array (take n more) (filled + n) (omega arith) (omega arith)
    ∙ ap (λ (t : List ℕ). take filled array ++ t) (ap (λ (i : ℕ). take i more) k ∙ take_min (N - filled) more)
    ∙ sym (ap (λ (i : ℕ). take i (take filled array ++ more)) whole ∙ take-append-add (take filled array) more (N - filled)))

-- a text laid behind them, where there is room for the longest
pub laid_behind :
    (N filled end most : ℕ) (array after before text : List ℕ) → filled ≤ N → length array ≡ N → before ≡ take filled array → length before + most ≤ N → length text ≤ most → end ≡ filled + length text → after ≡ over text filled array →
    take end after ≡ before ++ text
unfolding over
laid_behind N filled end most array after before text h w b room short e q =
    let l = length-take-le filled array (omega arith) in
    let at : length before ≡ filled = rw b l in
    rw (b, q) (take_at (take filled array ++ text) (drop (filled + length text) array) end (length-append (take filled array) text ∙ omega arith))
