-- Laws of `last_digits`.
use mathlib.Core.Path.{◌≡◌, refl, ap, ◌∙◌}
use mathlib.Core.List.{List, [], ◌∷◌, ◌++◌}
use Prim.Native.Nat.{ℕ, zero, suc, ◌+◌, ◌-◌, ◌/◌, ◌%◌, ◌^◌, ◌<◌}
use native.Mathlib.Nat.{div-div-eq-div-mul, div-one, pow-suc, pow-succ'}
use native.Mathlib.Numerals.{sub-one, add-one}
use native.Mathlib.Omega.{arith}
use lib.ListN.{length, length-append}
use Rattle.basics.specs.Bytes.{zero_digit}
use Rattle.decimal.specs.Digits.{last_digits}

pub last_none : (k n : ℕ) → k ≡ 0 → last_digits k n ≡ []
unfolding last_digits
last_none k n e = rw e

pub last_step : (k n : ℕ) → 0 < k → last_digits k n ≡ last_digits (k - 1) (n / 10) ++ ((zero_digit + n % 10) ∷ [])
unfolding last_digits
last_step zero n h = absurd (omega arith)
last_step (suc k) n h = rw (sub-one (suc k))

pub length_last : (k n : ℕ) → length (last_digits k n) ≡ k
unfolding last_digits
length_last zero n = refl
length_last (suc k) n = length-append (last_digits k (n / 10)) ((zero_digit + n % 10) ∷ []) ∙ rw (length_last k (n / 10)) (add-one k)

-- one digit less from the right
pub tenth : (n i : ℕ) → n / 10 ^ i / 10 ≡ n / 10 ^ (i + 1)
tenth n i = rw (add-one i, pow-suc 10 i) (div-div-eq-div-mul n (10 ^ i) 10)

-- one digit more on the left
pub last_first : (k n : ℕ) → last_digits (suc k) n ≡ (zero_digit + n / 10 ^ k % 10) ∷ last_digits k n
unfolding last_digits
last_first zero n = rw (div-one n)
last_first (suc k) n =
    ap (λ (ds : List ℕ). ds ++ ((zero_digit + n % 10) ∷ [])) (last_first k (n / 10)) ∙ rw (pow-succ' 10 k, div-div-eq-div-mul n 10 (10 ^ k))
