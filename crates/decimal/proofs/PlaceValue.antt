-- Theorems: what is written in decimal spells the number, has no leading zero and is short.
use mathlib.Core.Path.{◌≡◌, refl, sym, ◌∙◌}
use mathlib.Core.Bool.{Bool, true, false}
use mathlib.Core.List.{List, [], ◌∷◌, ◌++◌}
use Prim.Native.Nat.{ℕ, zero, suc, ◌+◌, ◌*◌, ◌/◌, ◌%◌, ◌^◌, ◌≤◌, ◌<◌}
use native.Mathlib.Nat.{div-div-eq-div-mul, div-eq_of_lt, pow-succ', div-one, mul_assoc, mul_comm}
use native.Mathlib.Omega.{arith}
use borrow.Author.Tests.{eqb-true, eqb-false}
use lib.Dec.{eqb}
use lib.ListN.{length}
use Rattle.std.specs.Prelude.{if◌then◌else◌}
use Rattle.basics.specs.Bytes.{zero_digit, digit, every, value_of}
use Rattle.basics.proofs.Digits.{value_append, value_one, digit_is, every_append, and_both}
use Rattle.decimal.specs.Digits.{last_digits, trim, digits_of, long_of}
use Rattle.decimal.proofs.Digits.{length_last}

-- the last k digits spell what n is beyond the tens of 10 ^ k
pub last_digits_spell : (k n : ℕ) → n / 10 ^ k * 10 ^ k + value_of (last_digits k n) ≡ n
unfolding last_digits value_of
last_digits_spell zero n = rw (div-one n) (omega arith)
last_digits_spell (suc k) n =
    let front = value_of (last_digits k (n / 10)) in
    let p = 10 ^ k in
    let q = n / 10 / p in
    let v : value_of (last_digits k (n / 10) ++ ((zero_digit + n % 10) ∷ [])) ≡ front * 10 + n % 10
    = value_append (last_digits k (n / 10)) ((zero_digit + n % 10) ∷ []) ∙ rw (value_one (n % 10)) in
    let h : q * p + front ≡ n / 10 = last_digits_spell k (n / 10) in
    let t : 10 ^ suc k ≡ 10 * p = pow-succ' 10 k in
    let s : n / 10 ^ suc k * 10 ^ suc k ≡ q * p * 10
    = rw (t, ← div-div-eq-div-mul n 10 p) (rw (mul_comm 10 p) (sym (mul_assoc q p 10))) in
    s_sum (q * p) front n (n / 10 ^ suc k * 10 ^ suc k) (value_of (last_digits k (n / 10) ++ ((zero_digit + n % 10) ∷ []))) s v h
  where
    s_sum : (a f m x y : ℕ) → x ≡ a * 10 → y ≡ f * 10 + m % 10 → a + f ≡ m / 10 → x + y ≡ m
    s_sum a f m x y e g h = omega arith

-- trimming changes no value, leaves a digit, and leaves no leading zero
pub trim_same_value : (ds : List ℕ) → value_of (trim ds) ≡ value_of ds
unfolding trim value_of
trim_same_value [] = refl
trim_same_value (d ∷ []) = refl
trim_same_value (d ∷ e ∷ ds) = go (eqb d zero_digit) refl (trim_same_value (e ∷ ds))
  where
    go : (t : Bool) → eqb d zero_digit ≡ t → value_of (trim (e ∷ ds)) ≡ value_of (e ∷ ds)
        → value_of (if t then trim (e ∷ ds) else d ∷ e ∷ ds) ≡ value_of (d ∷ e ∷ ds)
    go true z h = let q = eqb-true d zero_digit z in rw q (h ∙ omega arith)
    go false z h = refl

pub trim_short : (ds : List ℕ) → length (trim ds) ≤ length ds
unfolding trim
trim_short [] = omega arith
trim_short (d ∷ []) = omega arith
trim_short (d ∷ e ∷ ds) = go (eqb d zero_digit) (trim_short (e ∷ ds))
  where
    go : (t : Bool) → length (trim (e ∷ ds)) ≤ length (e ∷ ds) → length (if t then trim (e ∷ ds) else d ∷ e ∷ ds) ≤ length (d ∷ e ∷ ds)
    go true h = omega arith
    go false h = omega arith

pub trim_leaves_one : (d : ℕ) (ds : List ℕ) → 0 < length (trim (d ∷ ds))
unfolding trim
trim_leaves_one d [] = omega arith
trim_leaves_one d (e ∷ ds) = go (eqb d zero_digit) (trim_leaves_one e ds)
  where
    go : (t : Bool) → 0 < length (trim (e ∷ ds)) → 0 < length (if t then trim (e ∷ ds) else d ∷ e ∷ ds)
    go true h = h
    go false h = omega arith

pub trim_no_zero : (ds : List ℕ) (e : ℕ) (es : List ℕ) → trim ds ≡ zero_digit ∷ e ∷ es → ⊥
unfolding trim
trim_no_zero [] e es h = let z : ◌≡◌ {A = ℕ} 0 1 = cc in omega arith
trim_no_zero (d ∷ []) e es h = let z : ◌≡◌ {A = ℕ} 0 1 = cc in omega arith
trim_no_zero (d ∷ b ∷ ds) e es h = go (eqb d zero_digit) refl (trim_no_zero (b ∷ ds) e es) h
  where
    go : (t : Bool) → eqb d zero_digit ≡ t → (trim (b ∷ ds) ≡ zero_digit ∷ e ∷ es → ⊥) → (if t then trim (b ∷ ds) else d ∷ b ∷ ds) ≡ zero_digit ∷ e ∷ es → ⊥
    go true z r h = r h
    go false z r h = eqb-false d zero_digit z (cc)

pub trim_every : (p : ℕ → Bool) (ds : List ℕ) → every p ds ≡ true → every p (trim ds) ≡ true
unfolding trim every
trim_every p [] h = h
trim_every p (d ∷ []) h = h
trim_every p (d ∷ e ∷ ds) h = go (eqb d zero_digit) (trim_every p (e ∷ ds))
  where
    tail : every p (e ∷ ds) ≡ true
    tail = (and_both (p d) (every p (e ∷ ds)) h).1

    go : (t : Bool) → (every p (e ∷ ds) ≡ true → every p (trim (e ∷ ds)) ≡ true) → every p (if t then trim (e ∷ ds) else d ∷ e ∷ ds) ≡ true
    go true r = r tail
    go false r = h

pub last_are_digits : (k n : ℕ) → every digit (last_digits k n) ≡ true
unfolding last_digits every
last_are_digits zero n = refl
last_are_digits (suc k) n =
    every_append digit (last_digits k (n / 10)) ((zero_digit + n % 10) ∷ []) (last_are_digits k (n / 10)) (rw (digit_is (n % 10) (omega arith)))

-- the last k digits without leading zeros spell n, where k are enough
pub trimmed_spell : (k n : ℕ) → n < 10 ^ k → value_of (trim (last_digits k n)) ≡ n
trimmed_spell k n h = omega (arith, trim_same_value (last_digits k n), rw (div-eq_of_lt h) at (last_digits_spell k n))

-- they are digits, one to k of them, and by `trim_no_zero` the first is no 0 where more follow
pub trimmed_are_digits : (k n : ℕ) → every digit (trim (last_digits k n)) ≡ true
trimmed_are_digits k n = trim_every digit (last_digits k n) (last_are_digits k n)

pub trimmed_at_most : (k n : ℕ) → length (trim (last_digits k n)) ≤ k
trimmed_at_most k n = omega (arith, trim_short (last_digits k n), length_last k n)

pub trimmed_at_least_one : (k n : ℕ) → 0 < k → 0 < length (trim (last_digits k n))
trimmed_at_least_one k n h = one (last_digits k n) (length_last k n)
  where
    one : (ds : List ℕ) → length ds ≡ k → 0 < length (trim ds)
    one [] e = absurd (omega arith)
    one (d ∷ ds) e = trim_leaves_one d ds

-- 32 bits
pub digits_spell : (n : ℕ) → n < 10 ^ 10 → value_of (digits_of n) ≡ n
unfolding digits_of
digits_spell n h = trimmed_spell 10 n h

pub digits_are_digits : (n : ℕ) → every digit (digits_of n) ≡ true
unfolding digits_of
digits_are_digits n = trimmed_are_digits 10 n

pub digits_at_most_ten : (n : ℕ) → length (digits_of n) ≤ 10
unfolding digits_of
digits_at_most_ten n = trimmed_at_most 10 n

pub digits_at_least_one : (n : ℕ) → 0 < length (digits_of n)
unfolding digits_of
digits_at_least_one n = trimmed_at_least_one 10 n (omega arith)

pub digits_no_leading_zero : (n e : ℕ) (es : List ℕ) → digits_of n ≡ zero_digit ∷ e ∷ es → ⊥
unfolding digits_of
digits_no_leading_zero n e es h = trim_no_zero (last_digits 10 n) e es h

-- 64 bits
pub long_spell : (n : ℕ) → n < 10 ^ 20 → value_of (long_of n) ≡ n
unfolding long_of
long_spell n h = trimmed_spell 20 n h

pub long_at_most_twenty : (n : ℕ) → length (long_of n) ≤ 20
unfolding long_of
long_at_most_twenty n = trimmed_at_most 20 n
