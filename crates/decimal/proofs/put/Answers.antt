use Rattle.std.proofs.Common.{rules, ◌≡◌, ◌∙◌, sym, ap, refl, ℕ, ◌+◌, ◌-◌, ◌/◌, ◌^◌, ◌≤◌, List, ◌++◌, append_assoc, length, take, drop, length-append, arith}
use Rattle.std.specs.Prelude.{Option, None, Some}
use borrow.Author.Tests.{le-leb, lt-leb}
use lib.Seq.{length-take-le, take-append-le, take-take}
use Rattle.basics.specs.Lay.{Laid, over, fits, laid_in}
use Rattle.basics.proofs.Over.{drop_over}
use Rattle.decimal.specs.Digits.{last_digits, long_of, count_of}
use Rattle.decimal.specs.Written.{behind, behind_size, written_of}
use Rattle.decimal.proofs.Digits.{length_last}
use Rattle.decimal.proofs.PlaceValue.{long_at_most_twenty}
use Rattle.decimal.proofs.Written.{length_behind, size_most, laid_short, laid_long}
use Rattle.decimal.proofs.put.Goals as goal

-- ys, and then xs straight before them, are xs ++ ys
over_before : (xs ys : List ℕ) (at : ℕ) (buf : List ℕ) → at + length xs ≤ length buf → over xs at (over ys (at + length xs) buf) ≡ over (xs ++ ys) at buf
unfolding over
over_before xs ys at buf h =
    let m = at + length xs in
    let rest = drop (m + length ys) buf in
    let front : take at (take m buf ++ ys ++ rest) ≡ take at buf
    = rw (append_assoc (take m buf) ys rest)
    (take-append-le at (take m buf) (ys ++ rest) (omega (arith, length-take-le m buf h)) ∙ take-take at m buf (omega arith)) in
    let sum : m + length ys ≡ at + length (xs ++ ys) = omega (arith, length-append xs ys) in
    rw (front, drop_over ys m buf h, ← sum)
    (sym (append_assoc (take at buf ++ xs) ys rest) ∙ ap (λ (x : List ℕ). x ++ rest) (append_assoc (take at buf) xs ys))

counted : (digits whole : ℕ) → long_of whole ≡ last_digits digits whole → length (long_of whole) ≡ digits
counted digits whole e = ap length e ∙ length_last digits whole

module _ (d n at digits whole more : ℕ) (buf : List ℕ) (count : long_of whole ≡ last_digits digits whole) (rest : more ≡ behind_size d) (part : whole ≡ n / 10 ^ d) where
  size : digits + more ≡ length (written_of d n)
  unfolding written_of
  size = rw (← part, length-append (long_of whole) (behind d n), counted digits whole count, length_behind d n) (rw rest)

  tight : (r : Option ℕ) → r ≡ None → (at + (digits + more) ≤ length buf → ⊥) → Laid (written_of d n) at buf r buf
  unfolding fits laid_in
  tight r e h = let f = lt-leb (at + length (written_of d n)) (length buf) (omega (arith, size)) in record { said = rw (e, f); left = rw f }

  written :
      (one two : List ℕ) → at + (digits + more) ≤ length buf →
      one ≡ over (behind d n) (at + digits) buf → two ≡ over (last_digits digits whole) (at + digits - digits) one →
      Laid (written_of d n) at buf (Some (digits + more)) two
  unfolding written_of fits laid_in
  written one two h e f =
      let xs = long_of whole in
      let back : at + digits - digits ≡ at = omega arith in
      let both : two ≡ over xs at (over (behind d n) (at + length xs) buf) = f ∙ rw (back, e, ← count, counted digits whole count) in
      let all : two ≡ over (written_of d n) at buf = both ∙ over_before xs (behind d n) at buf (omega (arith, counted digits whole count)) ∙ rw part in
      let in_room = le-leb (at + length (written_of d n)) (length buf) (omega (arith, size)) in
      record { said = rw in_room (ap Some size); left = rw in_room all }

pub overflow_add-size : goal.overflow_add-size
overflow_add-size c =
    let few = counted c.length_of-digits.result (c.args.n / c.pow.result) c.length_of-digits.ensures in
    let most = size_most c.count-count.result in
    let short = long_at_most_twenty (c.args.n / c.pow.result) in
    search rules

pub returns-in_err-room : goal.returns-in_err-room
returns-in_err-room c =
    let l : Laid (written_of (count_of c.args.decimals) c.args.n) c.args.at c.args.buf.now c.from_residual.result c.args.buf.now
    = tight _ _ _ _ _ _ _ c.length_of-digits.ensures (rw c.count-count.ensures at c.size_behind.ensures) (rw (c.pow.ensures, c.count-count.ensures))
    _ c.from_residual.ensures (λ h. c.in_err-room.ensures (omega arith)) in
    record { written = l; whole = laid_long _ _ _ _ _ _ l; fixed = laid_short _ _ _ _ _ _ l }

pub returns-then-room-size : goal.returns-then-room-size
returns-then-room-size c =
    let l : Laid (written_of (count_of c.args.decimals) c.args.n) c.args.at c.args.buf.now None c.args.buf.now
    = tight _ _ _ _ _ _ _ c.length_of-digits.ensures (rw c.count-count.ensures at c.size_behind.ensures) (rw (c.pow.ensures, c.count-count.ensures))
    _ refl (λ h. omega (arith, c.in_ok-room.ensures.0, c.in_ok-room.ensures.1, c.if-room-size.true)) in
    record { written = l; whole = laid_long _ _ _ _ _ _ l; fixed = laid_short _ _ _ _ _ _ l }

pub returns : goal.returns
returns c =
    let l = written _ _ _ _ _ _ _ c.length_of-digits.ensures (rw c.count-count.ensures at c.size_behind.ensures) (rw (c.pow.ensures, c.count-count.ensures))
    _ _ (omega (arith, c.in_ok-room.ensures.0, c.in_ok-room.ensures.1, c.if-room-size.false)) (rw c.count-count.ensures at c.put_behind.ensures) c.put_last.ensures in
    record { written = l; whole = laid_long _ _ _ _ _ _ l; fixed = laid_short _ _ _ _ _ _ l }
