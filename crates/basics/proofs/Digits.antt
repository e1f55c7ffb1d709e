-- Laws of what digits spell, and of texts all of one kind.
use mathlib.Core.Path.{◌≡◌, refl}
use mathlib.Core.Bool.{Bool, true, false, ◌&&◌, false≢true}
use mathlib.Core.List.{List, [], ◌∷◌, ◌++◌}
use Prim.Native.Nat.{ℕ, ◌+◌, ◌*◌, ◌^◌, ◌≤◌}
use native.Mathlib.Nat.{mul_assoc, add-mul, add_assoc}
use native.Mathlib.Omega.{arith}
use lib.Pow.{pow-add}
use borrow.Author.Tests.{leb-true}
use lib.Dec.{leb}
use lib.ListN.{length, length-append}
use Rattle.basics.specs.Bytes.{zero_digit, digit, every, value_of}
use Rattle.basics.proofs.Rules.{tests}

pub value_append : (xs ys : List ℕ) → value_of (xs ++ ys) ≡ value_of xs * 10 ^ length ys + value_of ys
unfolding value_of
value_append [] ys = omega arith
value_append (d ∷ xs) ys = rw (value_append xs ys, length-append xs ys) (simp (pow-add, mul_assoc, add-mul, add_assoc))

pub value_one : (n : ℕ) → value_of ((zero_digit + n) ∷ []) ≡ n
unfolding value_of
value_one n = omega arith

-- both halves of a test that passed
pub and_both : (x y : Bool) → (x && y) ≡ true → (x ≡ true) × (y ≡ true)
and_both true y e = (refl, e)
and_both false y e = absurd (false≢true e)

pub and_of : (x y : Bool) → x ≡ true → y ≡ true → (x && y) ≡ true
and_of x y e f = rw (e, f)

pub digit_range : (b : ℕ) → digit b ≡ true → (zero_digit ≤ b) × (b ≤ 57)
unfolding digit
digit_range b e =
    let h = and_both (leb 48 b) (leb b 57) e in
    (leb-true 48 b h.0, leb-true b 57 h.1)

pub digit_is : (n : ℕ) → n ≤ 9 → digit (zero_digit + n) ≡ true
unfolding digit
digit_is n h =
    let a : 48 ≤ 48 + n = omega arith in
    let b : 48 + n ≤ 57 = omega arith in
    simp tests

pub every_append : (p : ℕ → Bool) (xs ys : List ℕ) → every p xs ≡ true → every p ys ≡ true → every p (xs ++ ys) ≡ true
unfolding every
every_append p [] ys a b = b
every_append p (x ∷ xs) ys a b =
    let h = and_both (p x) (every p xs) a in
    and_of (p x) (every p (xs ++ ys)) h.0 (every_append p xs ys h.1 b)
