-- Laws of `trim`: what it leaves of the last digits of a number.
use mathlib.Core.Path.{◌≡◌, refl, ap, ◌∙◌}
use mathlib.Core.List.{List, [], ◌∷◌}
use Prim.Native.Nat.{ℕ, zero, suc, ◌+◌, ◌-◌, ◌*◌, ◌/◌, ◌%◌, ◌^◌, ◌≤◌, ◌<◌}
use native.Mathlib.Nat.{div-eq_of_lt, div-lt_iff_lt-mul, le-div_iff_mul-le, one-le-pow, pow-le-pow_right, pow-succ', suc-add, zero-add}
use native.Mathlib.Numerals.{add-one}
use native.Mathlib.Omega.{arith}
use lib.ListN.{length}
use Rattle.basics.specs.Bytes.{zero_digit}
use Rattle.basics.proofs.Rules.{tests}
use Rattle.decimal.specs.Digits.{last_digits, long_of, trim}
use Rattle.decimal.proofs.Digits.{last_first, length_last}

trim_other : (d : ℕ) (ds : List ℕ) → (d ≡ zero_digit → ⊥) → trim (d ∷ ds) ≡ d ∷ ds
unfolding trim
trim_other d [] h = refl
trim_other d (e ∷ ds) h = simp tests

trim_zero : (ds : List ℕ) → 0 < length ds → trim (zero_digit ∷ ds) ≡ trim ds
unfolding trim
trim_zero [] h = absurd (omega arith)
trim_zero (d ∷ ds) h = refl

-- digits beyond those of a number change nothing
pub trim_idle : (j k n : ℕ) → 0 < k → n < 10 ^ k → trim (last_digits (j + k) n) ≡ trim (last_digits k n)
trim_idle zero k n h f = rw (zero-add k)
trim_idle (suc j) k n h f =
    let most = pow-le-pow_right {n = 10} (omega arith) {i = k} {j = j + k} (omega arith) in
    let none : n / 10 ^ (j + k) ≡ 0 = div-eq_of_lt (omega arith) in
    rw (suc-add j k, last_first (j + k) n, none) (trim_zero (last_digits (j + k) n) (omega (arith, length_last (j + k) n)) ∙ trim_idle j k n h f)

-- all of them stay where the first is no 0, or the only one
pub trim_full : (i n : ℕ) → n / 10 ^ i ≤ 9 → (0 < i → 0 < n / 10 ^ i) → trim (last_digits (suc i) n) ≡ last_digits (suc i) n
unfolding last_digits trim
trim_full zero n h f = refl
trim_full (suc i) n h f =
    let some = f (omega arith) in
    rw (last_first (suc i) n) (trim_other (zero_digit + n / 10 ^ suc i % 10) (last_digits (suc i) n) (λ e. omega arith))

-- a number of 64 bits with k digits behind its first
pub long_digits : (n k : ℕ) → 10 ^ k ≤ n → n < 10 * 10 ^ k → k < 20 → long_of n ≡ last_digits (k + 1) n
unfolding long_of
long_digits n k low high few =
    let all : 20 ≡ 19 - k + suc k = omega arith in
    let first : n / 10 ^ k ≤ 9 = omega (arith, (div-lt_iff_lt-mul (one-le-pow k 10 (omega arith))).1 high) in
    rw (add-one k)
    (ap (λ (j : ℕ). trim (last_digits j n)) all ∙ trim_idle (19 - k) (suc k) n (omega arith) (rw (pow-succ' 10 k) high)
    ∙ trim_full k n first (λ g. (le-div_iff_mul-le (one-le-pow k 10 (omega arith))).1 (omega arith)))

pub long_zero : (n : ℕ) → n ≡ 0 → long_of n ≡ last_digits 1 n
unfolding long_of trim last_digits
long_zero n e = rw e
