-- Laws of words in `specs/Desk`: a line begins with its word.
use mathlib.Core.Path.{◌≡◌, refl, ap}
use mathlib.Core.Bool.{true, false≢true}
use mathlib.Core.List.{List, [], ◌∷◌, ◌++◌}
use Prim.Native.Nat.{ℕ, ◌≤◌}
use native.Mathlib.Omega.{arith}
use borrow.Author.Tests.{eqb-true}
use lib.ListN.{length, drop, length-append}
use lib.Dec.{eqb}
use Rattle.basics.proofs.Choice.{by}
use Rattle.basics.proofs.Digits.{and_both}
use Rattle.desk.specs.declared.Quantity.TheVariants.{Ticks, Run, Lend, New, Oem, Tip, Press, Minus}
use Rattle.desk.specs.declared.Word.{Word}
use Rattle.desk.specs.declared.Word.TheVariants as W
use Rattle.desk.specs.Desk.{spelled, begins, sense_word, number_word, word_of}

-- what a line begins with stands at its start
split : (word t : List ℕ) → begins word t ≡ true → t ≡ word ++ drop (length word) t
unfolding begins
split [] t e = refl
split (a ∷ word) [] e = absurd (false≢true e)
split (a ∷ word) (b ∷ t) e =
    let both = and_both (eqb a b) (begins word t) e in
    rw (eqb-true a b both.0) (ap (◌∷◌ b) (split word t both.1))

abbrev pub Headed : List ℕ → Word → Type 0
Headed t w = t ≡ spelled w ++ drop (length (spelled w)) t

sense_heads : (t : List ℕ) → Headed t (sense_word t)
unfolding sense_word
sense_heads t =
    by (Headed t) (begins (spelled (W.Number Tip)) t) (split _ t) (λ _.
    by (Headed t) (begins (spelled (W.Number Minus)) t) (split _ t) (λ _.
    by (Headed t) (begins (spelled (W.Number Press)) t) (split _ t) (λ _. refl)))

number_heads : (t : List ℕ) → Headed t (number_word t)
unfolding number_word
number_heads t =
    by (Headed t) (begins (spelled (W.Number Ticks)) t) (split _ t) (λ _.
    by (Headed t) (begins (spelled (W.Number Run)) t) (split _ t) (λ _.
    by (Headed t) (begins (spelled (W.Number Lend)) t) (split _ t) (λ _.
    by (Headed t) (begins (spelled (W.Number New)) t) (split _ t) (λ _.
    by (Headed t) (begins (spelled (W.Number Oem)) t) (split _ t) (λ _. sense_heads t)))))

pub word_heads : (t : List ℕ) → Headed t (word_of t)
unfolding word_of
word_heads t =
    by (Headed t) (begins (spelled W.Frame) t) (split _ t) (λ _.
    by (Headed t) (begins (spelled W.Stop) t) (split _ t) (λ _.
    by (Headed t) (begins (spelled W.Raw) t) (split _ t) (λ _. number_heads t)))

-- and the word is no longer than the line
pub word_within : (t : List ℕ) (w : Word) (n : ℕ) → w ≡ word_of t → n ≡ length (spelled w) → n ≤ length t
word_within t w n e f =
    let whole : length t ≡ length (spelled w ++ drop (length (spelled w)) t) = ap (λ (u : List ℕ). length u) (rw (← e) at (word_heads t)) in
    omega (arith, length-append (spelled w) (drop (length (spelled w)) t))
