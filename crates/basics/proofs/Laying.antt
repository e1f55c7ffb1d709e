-- Bytes laid where they fit, one text after another.
use mathlib.Core.Path.{◌≡◌, ap, ◌∙◌}
use mathlib.Core.List.{List, ◌++◌, append_assoc}
use Prim.Native.Nat.{ℕ, ◌+◌, ◌≤◌}
use native.Mathlib.Omega.{arith}
use borrow.Author.Tests.{le-leb}
use lib.ListN.{length, take, drop, length-append}
use lib.Seq.{length-take-le, take_at, drop_at, drop-drop}
use Rattle.std.specs.Prelude.{Option, Some}
use Rattle.basics.specs.Lay.{Laid, over, fits, laid_in}
use Rattle.basics.proofs.Over.{length_over}

pub record Lay (xs : List ℕ) (at : ℕ) (before : List ℕ) (r : Option ℕ) (after : List ℕ) : Type 0 where
  pub count : r ≡ Some (length xs)
  pub bytes : after ≡ over xs at before

pub laid : {xs : List ℕ} {at : ℕ} {before : List ℕ} {r : Option ℕ} {after : List ℕ} → Laid xs at before r after → at + length xs ≤ length before → Lay xs at before r after
unfolding fits laid_in
laid {xs} {at} {before} l h =
    let e = le-leb (at + length xs) (length before) h in
    record { count = rw e at l.said; bytes = rw e at l.left }

-- xs, and ys straight after them, are xs ++ ys
pub over_over : (xs ys : List ℕ) (at : ℕ) (buf : List ℕ) → at ≤ length buf → over ys (at + length xs) (over xs at buf) ≡ over (xs ++ ys) at buf
unfolding over
over_over xs ys at buf h =
    let front = take at buf ++ xs in
    let n : length front ≡ at + length xs = length-append (take at buf) xs ∙ rw (length-take-le at buf h) in
    let rest = drop (at + length xs) buf in
    let sum : at + length xs + length ys ≡ at + length (xs ++ ys) = omega (arith, length-append xs ys) in
    rw (take_at front rest (at + length xs) n, ← drop-drop (length ys) (at + length xs) (front ++ rest), drop_at front rest (at + length xs) n, drop-drop (length ys) (at + length xs) buf, sum)
    (ap (λ (x : List ℕ). x ++ drop (at + length (xs ++ ys)) buf) (append_assoc (take at buf) xs ys))

-- ys laid straight after xs, which stand at the start
module _ (xs ys out one two : List ℕ) (at : ℕ) (r : Option ℕ) (e : one ≡ over xs 0 out) (n : at ≡ length xs) (l : Laid ys at one r two) (room : length xs + length ys ≤ length out) where
  next : Lay ys at one r two
  next = let long : length one ≡ length out = ap length e ∙ length_over xs 0 out (omega arith) in laid l (omega arith)

  pub all_counted : r ≡ Some (length ys)
  all_counted = next.count

  pub all_laid : two ≡ over (xs ++ ys) 0 out
  all_laid = let start : at ≡ 0 + length xs = omega arith in next.bytes ∙ rw (start, e) (over_over xs ys 0 out (omega arith))
