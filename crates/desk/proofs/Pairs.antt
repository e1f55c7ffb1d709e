-- Laws of `specs/Hex`: hex digits and their values, and pairs of them.
use mathlib.Core.Path.{◌≡◌, refl, sym, ◌∙◌}
use mathlib.Core.Bool.{Bool, true, false, ◌&&◌}
use mathlib.Core.List.{List, [], ◌∷◌}
use Prim.Native.Nat.{ℕ, ◌+◌, ◌-◌, ◌≤◌, ◌<◌}
use native.Mathlib.Omega.{arith}
use borrow.Author.Tests.{leb-true, eq-eqb, ne_eqb}
use lib.Dec.{leb, eqb}
use lib.ListN.{length, get_or, take, drop}
use Rattle.basics.specs.Bytes.{digit}
use Rattle.basics.proofs.Rules.{tests}
use Rattle.basics.proofs.Lists.{tail_all}
use Rattle.basics.proofs.Digits.{and_both, digit_range}
use Rattle.desk.specs.Hex.{hex_digit, worth, Worth, digit_for, paired}

-- a hex digit, and its value
module _ (b : ℕ) (d : Bool) (e : d ≡ digit b) where
  pub decimal_digit : d ≡ true → true ≡ hex_digit b
  unfolding hex_digit
  decimal_digit q = simp (← e, q)

  pub decimal_worth : d ≡ true → Worth b (b - 48)
  unfolding worth
  decimal_worth q = record { is = simp (← e, q); small = omega (arith, digit_range b (sym e ∙ q)) }

  module _ (q : d ≡ false) where
    module _ (x : Bool) (f : x ≡ hex_digit b) where
      pub letter_range : x ≡ true → (65 ≤ b) × (b ≤ 70)
      unfolding hex_digit
      letter_range h =
          let both = and_both (leb 65 b) (leb b 70) (rw (← e, q) at (sym f ∙ h)) in
          (leb-true 65 b both.0, leb-true b 70 both.1)

      pub letter_worth : x ≡ true → Worth b (b - 55)
      unfolding worth
      letter_worth h = record { is = simp (← e, q, ← f, h); small = omega (arith, letter_range h) }

-- the digit of a value
pub small_digit : (n : ℕ) → n < 10 → n + 48 ≡ digit_for n
unfolding digit_for
small_digit n h = simp tests

pub large_digit : (n : ℕ) → 10 ≤ n → n + 55 ≡ digit_for n
unfolding digit_for
large_digit n h = simp tests

-- two digits, and what stands behind them: a space and more, or nothing
three : (u : List ℕ) → 3 ≤ length u →
    paired u ≡ ((hex_digit (get_or u 0 0) && hex_digit (get_or u 1 0)) && (eqb (get_or u 2 0) 32 && paired (drop 3 u)))
unfolding paired
three [] h = absurd (omega arith)
three (a ∷ []) h = absurd (omega arith)
three (a ∷ b ∷ []) h = absurd (omega arith)
three (a ∷ b ∷ s ∷ u) h = refl

and_false : (x : Bool) → (x && false) ≡ false
and_false true = refl
and_false false = refl

two : (u : List ℕ) → length u ≡ 2 → (hex_digit (get_or u 0 0) && hex_digit (get_or u 1 0)) ≡ paired u
unfolding paired
two [] h = absurd (omega arith)
two (a ∷ []) h = absurd (omega arith)
two (a ∷ b ∷ []) h = refl
two (a ∷ b ∷ s ∷ u) h = absurd (omega arith)

fewer : (u : List ℕ) → length u < 2 → false ≡ paired u
unfolding paired
fewer [] h = refl
fewer (a ∷ []) h = refl
fewer (a ∷ b ∷ u) h = absurd (omega arith)

-- what is left of a text, u, decides
module _ (u t : List ℕ) (left : paired u ≡ paired t) where
  pub two_digits_left : length u ≡ 2 → (hex_digit (get_or u 0 0) && hex_digit (get_or u 1 0)) ≡ paired t
  two_digits_left h = two u h ∙ left

  pub too_few_left : length u < 2 → false ≡ paired t
  too_few_left h = fewer u h ∙ left

  module _ (some : 3 ≤ length u) where
    pub no_space : (get_or u 2 0 ≡ 32 → ⊥) → false ≡ paired t
    no_space h = sym (three u some ∙ rw (ne_eqb (get_or u 2 0) 32 h) (and_false (hex_digit (get_or u 0 0) && hex_digit (get_or u 1 0)))) ∙ left

    module _ (x : Bool) (e : x ≡ (hex_digit (get_or u 0 0) && hex_digit (get_or u 1 0))) where
      pub no_digits : x ≡ false → false ≡ paired t
      no_digits h = sym (three u some ∙ rw (← e, h)) ∙ left

      pub next_left : x ≡ true → get_or u 2 0 ≡ 32 → paired (take (length u - 3) (drop 3 u)) ≡ paired t
      next_left h s = rw (tail_all 3 u) (sym (three u some ∙ rw (← e, h, eq-eqb (get_or u 2 0) 32 s)) ∙ left)
