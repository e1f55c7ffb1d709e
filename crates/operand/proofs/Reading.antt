-- Theorems: an operand text is as long as it can be and nothing of the text is lost; a number that is written is read back.
use mathlib.Core.Path.{◌≡◌, refl, sym, ap, ◌∙◌}
use mathlib.Core.Bool.{true, false}
use mathlib.Core.List.{List, [], ◌∷◌, ◌++◌}
use Prim.Native.Nat.{ℕ, zero, suc, ◌+◌, ◌-◌, ◌*◌, ◌/◌, ◌%◌, ◌^◌, ◌≤◌, ◌<◌}
use native.Mathlib.Nat.{mul-le-mul_right, pow-le-pow_right, lt_of_not-le, div-one}
use native.Mathlib.Omega.{arith}
use lib.Dec.{lit<}
use lib.ListN.{length, length-append}
use lib.Seq.{drop-length, drop-append_seam}
use Rattle.basics.specs.Bytes.{zero_digit, digit, point, every, value_of}
use Rattle.basics.proofs.Digits.{and_both, digit_is, digit_range, every_append}
use Rattle.basics.proofs.Rules.{tests}
use Rattle.decimal.specs.Digits.{last_digits, digits_of, fixed_of}
use Rattle.decimal.proofs.Digits.{length_last}
use Rattle.decimal.proofs.PlaceValue.{last_digits_spell, digits_spell, digits_are_digits, digits_at_least_one, digits_no_leading_zero}
use Rattle.operand.specs.declared.Class.TheVariants.{Digit, Operand}
use Rattle.operand.specs.declared.Number.TheVariants.{Is}
use Rattle.operand.specs.Text.{has, run, rest, operand_text}
use Rattle.operand.specs.Number.{digits, decimals_of, followed_of, number_of}
use Rattle.operand.proofs.Runs.{run_rest, run_every, rest_begins, drop_run, run_all, run_stops}
use Rattle.operand.proofs.Spelling.{number_some}

-- a text is its operand text and what follows it
pub nothing_is_lost : (t : List ℕ) → t ≡ operand_text t ++ rest Operand t
nothing_is_lost t = sym (run_rest Operand t)

-- an operand text has operand bytes only
pub operand_bytes_only : (t : List ℕ) → every (has Operand) (operand_text t) ≡ true
operand_bytes_only t = run_every Operand t

-- it is the longest: what follows is nothing, or begins with a byte that is no operand's
pub what_follows_is_none : (t : List ℕ) (b : ℕ) (u : List ℕ) → rest Operand t ≡ b ∷ u → has Operand b ≡ false
what_follows_is_none t b u e = rest_begins Operand t b u e

point_is_none : has Digit point ≡ false
unfolding digit
point_is_none = refl

-- digits alone are a whole number
module _ (ds : List ℕ) (d : every digit ds ≡ true) (l : 1 ≤ length ds) (m : length ds ≤ 6) where
  digits_are_whole : number_of ds ≡ Is (value_of ds * 1000) 0
  unfolding digits followed_of
  digits_are_whole =
      let none : rest Digit ds ≡ [] = sym (drop_run Digit ds) ∙ rw (run_all Digit ds d) (drop-length ds) in
      rw (number_some ds (λ z. omega arith), run_all Digit ds d, none) (simp (d, tests))

  -- and digits with a point and digits behind it are one with decimals
  digits_with_decimals :
      (es : List ℕ) → every digit es ≡ true → 1 ≤ length es → length es ≤ 3 →
      number_of (ds ++ point ∷ es) ≡ Is (value_of ds * 1000 + value_of es * 10 ^ (3 - length es)) (length es)
  unfolding digits followed_of decimals_of
  digits_with_decimals es e k h =
      let t = ds ++ point ∷ es in
      let front : run Digit t ≡ ds = run_stops Digit ds point es d point_is_none in
      let behind : rest Digit t ≡ point ∷ es = sym (drop_run Digit t) ∙ rw front (drop-append_seam ds (point ∷ es)) in
      rw (number_some t (λ z. omega (arith, length-append ds (point ∷ es))), front, behind) (simp (d, e, tests))

-- a number below 10 ^ k has at most k digits, as it has no leading zero
few_digits :
    (ds : List ℕ) (k : ℕ) → every digit ds ≡ true → ((e : ℕ) (es : List ℕ) → ds ≡ zero_digit ∷ e ∷ es → ⊥) →
    1 ≤ k → value_of ds < 10 ^ k → length ds ≤ k
unfolding value_of every
few_digits [] k d z h v = omega arith
few_digits (b ∷ []) k d z h v = omega arith
few_digits (b ∷ e ∷ es) k d z h v =
    let some : zero_digit < b = above zero_digit b (digit_range b (and_both (digit b) (every digit (e ∷ es)) d).0).0 (λ q. z e es (rw q)) in
    let much : 1 * 10 ^ length (e ∷ es) ≤ (b - zero_digit) * 10 ^ length (e ∷ es) = mul-le-mul_right (10 ^ length (e ∷ es)) (omega arith) in
    lt_of_not-le (λ (q : k ≤ length (e ∷ es)). omega (arith, pow-le-pow_right {n = 10} (lit< tt) {i = k} q))
  where
    above : (a b : ℕ) → a ≤ b → (b ≡ a → ⊥) → a < b
    above a b h n = omega arith

last_are_digits : (k n : ℕ) → every digit (last_digits k n) ≡ true
unfolding last_digits every
last_are_digits zero n = refl
last_are_digits (suc k) n =
    every_append digit (last_digits k (n / 10)) ((zero_digit + n % 10) ∷ []) (last_are_digits k (n / 10)) (rw (digit_is (n % 10) (omega arith)))

module _ (n : ℕ) (h : n < 10 ^ 6) where
  spelt : value_of (digits_of n) ≡ n
  spelt = digits_spell n (omega arith)

  six : length (digits_of n) ≤ 6
  six = few_digits (digits_of n) 6 (digits_are_digits n) (digits_no_leading_zero n) (omega arith) (rw spelt h)

  whole : number_of (digits_of n) ≡ Is (n * 1000) 0
  whole = digits_are_whole (digits_of n) (digits_are_digits n) (digits_at_least_one n) six ∙ rw spelt

  decimals : (d m : ℕ) → 1 ≤ d → d ≤ 3 → number_of (digits_of n ++ point ∷ last_digits d m) ≡ Is (n * 1000 + value_of (last_digits d m) * 10 ^ (3 - d)) d
  decimals d m l k =
      digits_with_decimals (digits_of n) (digits_are_digits n) (digits_at_least_one n) six (last_digits d m) (last_are_digits d m)
      (rw (length_last d m) l) (rw (length_last d m) k)
      ∙ rw (spelt, length_last d m)

-- a number of at most three decimals and a whole part of at most six digits, written, is read back as it was, with its decimals
pub written_is_read : (d n : ℕ) → d ≤ 3 → n / 10 ^ d < 10 ^ 6 → number_of (fixed_of d n) ≡ Is (n * 10 ^ (3 - d)) d
unfolding fixed_of
written_is_read zero n k h = whole n (rw (div-one n) at h)
written_is_read (suc zero) n k h = decimals (n / 10) h 1 n (omega arith) k ∙ ap (λ m. Is m 1) (omega (arith, last_digits_spell 1 n))
written_is_read (suc (suc zero)) n k h = decimals (n / 100) h 2 n (omega arith) k ∙ ap (λ m. Is m 2) (omega (arith, last_digits_spell 2 n))
written_is_read (suc (suc (suc zero))) n k h = decimals (n / 1000) h 3 n (omega arith) k ∙ ap (λ m. Is m 3) (omega (arith, last_digits_spell 3 n))
written_is_read (suc (suc (suc (suc d)))) n k h = absurd (omega arith)
