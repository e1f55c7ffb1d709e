-- Theorems: which data are reports, by their first byte; and reading never says that they are too many.
use mathlib.Core.Path.{◌≡◌, refl}
use mathlib.Core.Bool.{Bool, true, false, ◌&&◌, ◌||◌}
use mathlib.Core.List.{List, [], ◌∷◌}
use Prim.Native.Nat.{ℕ}
use lib.Dec.{eqb}
use lib.ListN.{length}
use Rattle.std.specs.Prelude.{if◌then◌else◌, Err, None, Ok, Option, Result, Some}
use Rattle.basics.proofs.Choice.{by}
use Rattle.operand.specs.Number.{number_of}
use Rattle.command.specs.declared.refusal.Misread.{Misread}
use Rattle.text.specs.declared.Question.{Question}
use Rattle.text.specs.declared.Question.TheVariants.{Query, Value, Address}
use Rattle.text.specs.declared.Control.{Control}
use Rattle.text.specs.declared.Control.TheVariants.{Run, Stop, Again, Clear, Reset}
use Rattle.text.specs.declared.Data.{Data}
use Rattle.text.specs.declared.Data.TheVariants as D
use Rattle.text.specs.Text.{check_of}
use Rattle.text.specs.Data.{asked_of, report, addressed, body, runs, string, string_of, control_of, data_of}
use Rattle.frames.specs.Refused.{is_report, report_first}

-- what reading makes: a report or not, and never too many
pub data Read : Bool → Data → Type 0 where
  a_report : (q : Question) → Read true (D.Report q)
  no_report : Read true D.WrongReport
  a_control : (c : Control) → Read false (D.Control c)
  a_text : (n : ℕ) (run : Bool) → Read false (D.Text n run)
  no_text : (r : Misread) → Read false (D.Wrong r)

pub read_as_said : (b : Bool) (x : Data) → Read b x → is_report x ≡ b
read_as_said b x (a_report q) = refl
read_as_said b x no_report = refl
read_as_said b x (a_control c) = refl
read_as_said b x (a_text n run) = refl
read_as_said b x (no_text r) = refl

abbrev TooMany : Data → Type 0
TooMany (D.Report q) = ⊥
TooMany D.WrongReport = ⊥
TooMany (D.Control c) = ⊥
TooMany (D.Text n run) = ⊥
TooMany (D.Wrong r) = ⊥
TooMany D.TooLong = Unit {0}

never_too_many : (b : Bool) (x : Data) → Read b x → TooMany x → ⊥
never_too_many b x (a_report q) h = h
never_too_many b x no_report h = h
never_too_many b x (a_control c) h = h
never_too_many b x (a_text n run) h = h
never_too_many b x (no_text r) h = h

pub read_is_not_too_many : {G : Type 0} (b : Bool) (x : Data) → Read b x → x ≡ D.TooLong → G
read_is_not_too_many b x r e = absurd (never_too_many b x r (rw e tt))

-- each way of reading
read_report : (f : ℕ → Question) (x : Option ℕ) → Read true (report f x)
read_report f (Some n) = a_report (f n)
read_report f None = no_report

read_address : (t : List ℕ) → Read true (addressed t)
read_address [] = a_report Address
read_address (b ∷ t) = no_report

read_checked : (t : List ℕ) (run : Bool) (c : Result Unit Misread) → Read false (string t run c)
read_checked t run (Ok tt) = a_text (length t) run
read_checked t run (Err r) = no_text r

read_string : (t : List ℕ) → Read false (string_of t)
unfolding string_of
read_string t = read_checked (body t) (runs t) (check_of (body t))

read_control : (t : List ℕ) → Read false (control_of t)
unfolding control_of
read_control [] = read_string []
read_control (b ∷ []) =
    by (Read false) (eqb b 82) (λ _. a_control Run) (λ _.
    by (Read false) (eqb b 84) (λ _. a_control Stop) (λ _.
    by (Read false) (eqb b 88) (λ _. a_control Again) (λ _.
    by (Read false) (eqb b 67) (λ _. a_control Clear) (λ _. read_string (b ∷ [])))))
read_control (b ∷ c ∷ []) = by (Read false) (eqb b 33 && eqb c 82) (λ _. a_control Reset) (λ _. read_string (b ∷ c ∷ []))
read_control (b ∷ c ∷ e ∷ t) = read_string (b ∷ c ∷ e ∷ t)

-- the first of three tests that holds, or none
read_one_of :
    (x y z : Bool) (p q r s : Data) → Read true p → Read true q → Read true r → Read false s → Read (x || y || z) (if x then p else if y then q else if z then r else s)
read_one_of true y z p q r s hp hq hr hs = hp
read_one_of false true z p q r s hp hq hr hs = hq
read_one_of false false true p q r s hp hq hr hs = hr
read_one_of false false false p q r s hp hq hr hs = hs

pub read_by_the_first_byte : (t : List ℕ) → Read (report_first t) (data_of t)
unfolding data_of
read_by_the_first_byte [] = a_report (Query 0)
read_by_the_first_byte (b ∷ t) =
    let asked = asked_of (number_of t) in
    read_one_of (eqb b 81) (eqb b 63) (eqb b 102) _ _ _ _ (read_report Query asked) (read_report Value asked) (read_address t) (read_control (b ∷ t))
