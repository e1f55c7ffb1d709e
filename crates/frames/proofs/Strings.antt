-- Theorem: data are refused as a string exactly where they are one and the grammar has its first wrong place there.
use mathlib.Core.Path.{◌≡◌, refl, sym, ap, ◌∙◌}
use mathlib.Core.Bool.{Bool, true, false, ◌||◌, false≢true}
use mathlib.Core.List.{List, [], ◌∷◌}
use Prim.Native.Nat.{ℕ}
use native.Mathlib.Omega.{arith}
use borrow.Author.Tests.{ltb-false, le-ltb}
use lib.Dec.{eqb, ltb}
use lib.ListN.{length}
use Rattle.std.specs.Prelude.{if◌then◌else◌, Err, Ok, Result}
use Rattle.basics.specs.Exactly.{Exactly}
use Rattle.command.specs.declared.refusal.Misread.{Misread}
use Rattle.text.specs.declared.Control.{Control}
use Rattle.text.specs.declared.Control.TheVariants.{Run, Stop, Again, Clear, Reset}
use Rattle.text.specs.declared.Data.{Data}
use Rattle.text.specs.declared.Data.TheVariants as D
use Rattle.text.specs.Text.{check_of}
use Rattle.text.specs.Data.{spaceless, body, runs, string, string_of, control_of, data_of, received_of}
use Rattle.frames.specs.Refused.{is_report, report_first, control_alone, IsString, text_in}
use Rattle.frames.specs.Grammar.{Judged}
use Rattle.frames.proofs.Grammar.{the_reader_keeps_to_the_grammar}
use Rattle.frames.proofs.Sorts.{read_as_said, read_by_the_first_byte}

-- no test holds, and one does
neither : (x y : Bool) → (x || y) ≡ false → (x ≡ false) × (y ≡ false)
neither true y h = absurd (false≢true (sym h))
neither false y h = (refl, h)

one_of : (w x y z : Bool) (p q r s : Control) (t : Data) → (w || x || y || z) ≡ true → (c : Control) × ((if w then D.Control p else if x then D.Control q else if y then D.Control r else if z then D.Control s else t) ≡ D.Control c)
one_of true x y z p q r s t h = (p, refl)
one_of false true y z p q r s t h = (q, refl)
one_of false false true z p q r s t h = (r, refl)
one_of false false false true p q r s t h = (s, refl)
one_of false false false false p q r s t h = absurd (false≢true h)

alone : (t : List ℕ) → control_alone t ≡ true → (c : Control) × (control_of t ≡ D.Control c)
unfolding control_of
alone [] h = absurd (false≢true h)
alone (b ∷ []) h = one_of (eqb b 82) (eqb b 84) (eqb b 88) (eqb b 67) Run Stop Again Clear (string_of (b ∷ [])) h
alone (b ∷ c ∷ []) h = (Reset, rw h)
alone (b ∷ c ∷ d ∷ t) h = absurd (false≢true h)

not_alone : (t : List ℕ) → control_alone t ≡ false → control_of t ≡ string_of t
unfolding control_of
not_alone [] h = refl
not_alone (b ∷ []) h =
    let (others, no-clear) = neither (eqb b 82 || eqb b 84 || eqb b 88) (eqb b 67) h in
    let (two, no-again) = neither (eqb b 82 || eqb b 84) (eqb b 88) others in
    let (no_run, no_stop) = neither (eqb b 82) (eqb b 84) two in
    rw (no_run, no_stop, no-again, no-clear)
not_alone (b ∷ c ∷ []) h = rw h
not_alone (b ∷ c ∷ d ∷ t) h = refl

no_report_first : (t : List ℕ) → report_first t ≡ false → data_of t ≡ control_of t
unfolding data_of
no_report_first [] h = absurd (false≢true (sym h))
no_report_first (b ∷ t) h =
    let (two, no_address) = neither (eqb b 81 || eqb b 63) (eqb b 102) h in
    let (no_query, no_value) = neither (eqb b 81) (eqb b 63) two in
    rw (no_query, no_value, no_address)

checked : (t : List ℕ) (run : Bool) (c : Result Unit Misread) (m : Misread) → string t run c ≡ D.Wrong m → c ≡ Err m
checked t run (Ok tt) m e = let z : ◌≡◌ {A = ℕ} 0 1 = cc in absurd (omega arith)
checked t run (Err n) m e = let same : n ≡ m = cc in ap Err same

-- data that are read as a string, and what it is refused for
pub record Refused (ds : List ℕ) (m : Misread) : Type 0 where
  pub string : IsString ds
  pub judged : Judged (text_in ds) (Err m)

module _ (ds : List ℕ) (m : Misread) where
  abbrev t : List ℕ
  t = spaceless ds

  as_string : report_first t ≡ false → control_alone t ≡ false → data_of t ≡ string_of t
  as_string no_report no_control = no_report_first t no_report ∙ not_alone t no_control

  is_refused : (x : Bool) → ltb 320 (length ds) ≡ x → (if x then D.TooLong else data_of t) ≡ D.Wrong m → Refused ds m
  unfolding string_of
  is_refused true short e = let z : ◌≡◌ {A = ℕ} 0 1 = cc in absurd (omega arith)
  is_refused false short e =
      let no_report : report_first t ≡ false = sym (read_as_said (report_first t) (data_of t) (read_by_the_first_byte t)) ∙ ap is_report e in
      let by_control = sym (no_report_first t no_report) ∙ e in
      let no_control : control_alone t ≡ false = go (control_alone t) refl by_control in
      record {
        string = record { short = ltb-false 320 (length ds) short; no_report = no_report; no_control = no_control };
        judged = (the_reader_keeps_to_the_grammar (body t) (Err m)).only (checked (body t) (runs t) (check_of (body t)) m (sym (as_string no_report no_control) ∙ e));
      }
    where
      go : (x : Bool) → control_alone t ≡ x → control_of t ≡ D.Wrong m → x ≡ false
      go true h e = let (c, is) = alone t h in let z : ◌≡◌ {A = ℕ} 0 1 = cc in absurd (omega arith)
      go false h e = refl

  refuses : Refused ds m → received_of ds ≡ D.Wrong m
  unfolding received_of string_of
  refuses r =
      let s = r.string in
      rw (le-ltb 320 (length ds) s.short)
      (as_string s.no_report s.no_control ∙ ap (string (body t) (runs t)) ((the_reader_keeps_to_the_grammar (body t) (Err m)).always r.judged))

  pub a_string_is_refused_exactly_at_its_first_wrong_place : Exactly (received_of ds ≡ D.Wrong m) (Refused ds m)
  unfolding received_of
  a_string_is_refused_exactly_at_its_first_wrong_place = record { only = is_refused (ltb 320 (length ds)) refl; always = refuses }
