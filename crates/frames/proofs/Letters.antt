-- Theorems: which characters an accepted string holds, and what a control that isn't alone is. 01, "Reading the data".
use mathlib.Core.Path.{◌≡◌, refl, ap, ◌∙◌}
use mathlib.Core.Bool.{Bool, true, false, ◌||◌}
use mathlib.Core.List.{List, [], ◌∷◌, ◌++◌}
use Prim.Native.Nat.{ℕ}
use borrow.Author.Tests.{ne_eqb}
use lib.Dec.{eqb}
use Rattle.std.specs.Prelude.{Ok}
use Rattle.basics.specs.Bytes.{every}
use Rattle.basics.proofs.Digits.{and_both}
use Rattle.operand.specs.declared.Class.TheVariants.{Operand}
use Rattle.operand.specs.Text.{has}
use Rattle.command.specs.declared.refusal.Misread.TheVariants as M
use Rattle.command.specs.declared.Letter.TheVariants as L
use Rattle.command.specs.Command.{placed, found_in}
use Rattle.command.specs.Table.{letter_of, command_of}
use Rattle.text.specs.declared.Data.TheVariants as D
use Rattle.text.specs.Text.{read_from, read_of, check_of}
use Rattle.text.specs.Data.{body, string_of, control_of, data_of}
use Rattle.text.proofs.Strings.{a_text_stands_in_front}
use Rattle.frames.specs.Grammar.{is_among, letters, Commands, none, command}
use Rattle.frames.proofs.Grammar.{what_makes_is_listed, the_reader_keeps_to_the_grammar}

-- a letter of the table, or a character of an operand text
abbrev pub in_table : ℕ → Bool
in_table b = has Operand b || is_among b letters

or_first : (x y : Bool) → x ≡ true → (x || y) ≡ true
or_first x y e = rw e

or_second : (x y : Bool) → y ≡ true → (x || y) ≡ true
or_second true y e = refl
or_second false y e = e

operands_first : (operand rest : List ℕ) → every (has Operand) operand ≡ true → every in_table rest ≡ true → every in_table (operand ++ rest) ≡ true
unfolding every
operands_first [] rest h e = e
operands_first (b ∷ t) rest h e =
    let p = and_both (has Operand b) (every (has Operand) t) h in
    rw (or_first (has Operand b) (is_among b letters) p.0, operands_first t rest p.1 e)

in_the_table : (t : List ℕ) → Commands t → every in_table t ≡ true
unfolding every
in_the_table t none = refl
in_the_table t (command letter operand rest c o m more) =
    rw (or_second (has Operand letter) (is_among letter letters) (what_makes_is_listed letter operand c m), operands_first operand rest o.operands (in_the_table rest more))

-- "A letter outside the table is refused with 2, and so are .. a report or control inside, and R before the end": an accepted string holds none of them
pub an_accepted_string_holds_letters_of_the_table_and_operands_only : (t : List ℕ) (n : ℕ) (run : Bool) → data_of t ≡ D.Text n run → every in_table (body t) ≡ true
an_accepted_string_holds_letters_of_the_table_and_operands_only t n run e =
    let text = a_text_stands_in_front n run t e in
    in_the_table (body t) ((the_reader_keeps_to_the_grammar (body t) (Ok tt)).only (rw text.front at text.good))

-- a letter outside the table in front of anything: 2, at the first place
another_letter_first_is_2 : (b c : ℕ) (t : List ℕ) → letter_of b ≡ L.Other → string_of (b ∷ c ∷ t) ≡ D.Wrong (M.Letter 0)
unfolding string_of body check_of read_of read_from found_in placed command_of
another_letter_first_is_2 b c t o = rw o

more_is_a_string : (b c : ℕ) (t : List ℕ) → eqb b 33 ≡ false → control_of (b ∷ c ∷ t) ≡ string_of (b ∷ c ∷ t)
unfolding control_of
more_is_a_string b c [] h = rw h
more_is_a_string b c (d ∷ t) h = refl

with_more : (b c : ℕ) (t : List ℕ) → eqb b 81 ≡ false → eqb b 63 ≡ false → eqb b 102 ≡ false → eqb b 33 ≡ false → letter_of b ≡ L.Other → data_of (b ∷ c ∷ t) ≡ D.Wrong (M.Letter 0)
unfolding data_of
with_more b c t no-q no_value no-f no-bang o = rw (no-q, no_value, no-f) (more_is_a_string b c t no-bang ∙ another_letter_first_is_2 b c t o)

-- "T, X, C or ! first but not exactly so: 2"; and so is R
module _ (c : ℕ) (t : List ℕ) where
  pub T_with_more_is_2 : data_of (84 ∷ c ∷ t) ≡ D.Wrong (M.Letter 0)
  unfolding letter_of
  T_with_more_is_2 = with_more 84 c t refl refl refl refl refl

  pub X_with_more_is_2 : data_of (88 ∷ c ∷ t) ≡ D.Wrong (M.Letter 0)
  unfolding letter_of
  X_with_more_is_2 = with_more 88 c t refl refl refl refl refl

  pub C_with_more_is_2 : data_of (67 ∷ c ∷ t) ≡ D.Wrong (M.Letter 0)
  unfolding letter_of
  C_with_more_is_2 = with_more 67 c t refl refl refl refl refl

  pub R_with_more_is_2 : data_of (82 ∷ c ∷ t) ≡ D.Wrong (M.Letter 0)
  unfolding letter_of
  R_with_more_is_2 = with_more 82 c t refl refl refl refl refl

pub an_exclamation_mark_without_R_alone_is_2 : (t : List ℕ) → (t ≡ 82 ∷ [] → ⊥) → data_of (33 ∷ t) ≡ D.Wrong (M.Letter 0)
unfolding data_of control_of string_of body check_of read_of read_from found_in placed letter_of command_of
an_exclamation_mark_without_R_alone_is_2 [] h = refl
an_exclamation_mark_without_R_alone_is_2 (c ∷ []) h = rw (ne_eqb c 82 (λ e. h (ap (λ (x : ℕ). x ∷ []) e)))
an_exclamation_mark_without_R_alone_is_2 (c ∷ d ∷ t) h = refl
