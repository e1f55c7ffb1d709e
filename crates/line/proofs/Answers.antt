-- Theorems: an answer fits the 32 bytes that are asked of a buffer, and what each bit of the status byte says.
use mathlib.Core.Path.{◌≡◌, refl, sym, ◌∙◌}
use mathlib.Core.Bool.{Bool, true, false}
use mathlib.Core.List.{List, [], ◌∷◌, ◌++◌}
use Prim.Native.Nat.{ℕ, zero, suc, ◌+◌, ◌*◌, ◌/◌, ◌%◌, ◌^◌, ◌≤◌}
use native.Mathlib.Omega.{arith}
use lib.ListN.{length, length-append}
use Rattle.std.specs.Prelude.{if◌then◌else◌, Option}
use Rattle.basics.specs.Bytes.{zero_digit, point}
use Rattle.decimal.specs.Digits.{digits_of, last_digits, fixed_of}
use Rattle.decimal.proofs.Digits.{length_last}
use Rattle.decimal.proofs.PlaceValue.{digits_at_most_ten}
use Rattle.line.specs.declared.Framing.{Framing}
use Rattle.line.specs.declared.Framing.TheVariants.{Dt, Oem}
use Rattle.line.specs.Bytes.{sum_from, sum_of}
use Rattle.line.specs.declared.Report.{Report}
use Rattle.line.specs.declared.Report.TheVariants.{Nothing, Character, Whole, Tenths, Thousandths}
use Rattle.line.specs.Answer.{start_of, tail_of, status_of, report_of, answer_of, Answered}

pub fixed_short : (d n : ℕ) → length (fixed_of d n) ≤ 11 + d
unfolding fixed_of
fixed_short zero n = omega (arith, digits_at_most_ten n)
fixed_short (suc d) n =
    let m = n / 10 ^ suc d in
    omega (arith, length-append (digits_of m) (point ∷ last_digits (suc d) n), digits_at_most_ten m, length_last (suc d) n)

-- the longest report is thousandths with ten digits before the point
pub report_short : (report : Report) → length (report_of report) ≤ 14
unfolding report_of
report_short Nothing = omega arith
report_short (Character c) = omega arith
report_short (Whole n) = omega (arith, fixed_short 0 n)
report_short (Tenths n) = omega (arith, fixed_short 1 n)
report_short (Thousandths n) = fixed_short 3 n

-- so no answer is longer than 20 bytes, in either framing, and a buffer of 32 has room for each
pub tail_short : (f : Framing) (before : List ℕ) → length (tail_of f before) ≤ 3
unfolding tail_of
tail_short Dt before = omega arith
tail_short Oem before = omega arith

pub answer_fits : (f : Framing) (status : ℕ) (report : Report) → length (answer_of f status report) ≤ 20
unfolding answer_of
answer_fits f status report =
    let before = start_of f ∷ zero_digit ∷ status ∷ report_of report in
    omega (arith, report_short report, tail_short f before, length-append before (tail_of f before))

-- one answer, one buffer: the contract allows no other
pub answered_once :
    (f : Framing) (status : ℕ) (report : Report) (before : List ℕ) (r r' : Option ℕ) (after after' : List ℕ) →
    Answered f status report before r after → Answered f status report before r' after' → (r ≡ r') × (after ≡ after')
answered_once f status report before r r' after after' x y = (x.said ∙ sym y.said, x.left ∙ sym y.left)

-- what 01 says of each bit of the status byte
pub record Bits (ready : Bool) (code s : ℕ) : Type 0 where
  pub seven_and_six : s / 64 ≡ 1
  pub five : s / 32 % 2 ≡ (if ready then 1 else 0)
  pub four : s / 16 % 2 ≡ 0
  pub low : s % 16 ≡ code % 16

pub status_bits : (ready : Bool) (code : ℕ) → Bits ready code (status_of ready code)
unfolding status_of
status_bits true code = record { seven_and_six = omega arith; five = omega arith; four = omega arith; low = omega arith }
status_bits false code = record { seven_and_six = omega arith; five = omega arith; four = omega arith; low = omega arith }

sum_of_bits : (s : ℕ) → s ≡ s / 64 * 64 + s / 32 % 2 * 32 + s / 16 % 2 * 16 + s % 16
sum_of_bits s = omega arith

-- and no other byte has these bits
pub only_status : (ready : Bool) (code s : ℕ) → Bits ready code s → s ≡ status_of ready code
unfolding status_of
only_status true code s x = sum_of_bits s ∙ rw (x.seven_and_six, x.five, x.four, x.low)
only_status false code s x = sum_of_bits s ∙ rw (x.seven_and_six, x.five, x.four, x.low)

-- "Ready without error is 60h, busy without error 40h."
pub ready_is_lem : status_of true 0 ≡ 96
unfolding status_of
ready_is_lem = refl

pub busy_is : status_of false 0 ≡ 64
unfolding status_of
busy_is = refl

-- "Answer: `/`, `0`, status byte, data, 03h, CR, LF."
pub the_bytes_of_an_answer : (status : ℕ) (report : Report) → answer_of Dt status report ≡ (47 ∷ 48 ∷ status ∷ []) ++ report_of report ++ (3 ∷ 13 ∷ 10 ∷ [])
unfolding answer_of start_of tail_of
the_bytes_of_an_answer status report = refl

-- 02, W-204: "Answered: 02h, 30h, status, data, 03h, checksum."
pub the_bytes_of_an_oem_answer :
    (status : ℕ) (report : Report) →
    answer_of Oem status report ≡ (2 ∷ 48 ∷ status ∷ []) ++ report_of report ++ (3 ∷ sum_of ((2 ∷ 48 ∷ status ∷ []) ++ report_of report ++ (3 ∷ [])) ∷ [])
unfolding answer_of start_of tail_of
the_bytes_of_an_oem_answer status report = refl

-- "Source 002's `02 30 40 03 51` is a misprint: the sum is 71h."
pub the_sum_of_a_busy_answer : answer_of Oem 64 Nothing ≡ 2 ∷ 48 ∷ 64 ∷ 3 ∷ 113 ∷ []
unfolding answer_of start_of tail_of report_of sum_from
the_sum_of_a_busy_answer = refl
