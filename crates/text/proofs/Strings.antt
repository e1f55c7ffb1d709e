-- Theorem: where data are a text, it is their first bytes, as many as said, and it reads.
use mathlib.Core.Path.{◌≡◌, refl, ap}
use mathlib.Core.Bool.{Bool, true, false, ◌&&◌}
use mathlib.Core.List.{List, [], ◌∷◌}
use Prim.Native.Nat.{ℕ, ◌≤◌}
use native.Mathlib.Omega.{arith}
use lib.Dec.{eqb}
use lib.ListN.{length, take}
use Rattle.std.specs.Prelude.{if◌then◌else◌, Err, None, Ok, Option, Result, Some}
use Rattle.command.specs.declared.refusal.Misread.{Misread}
use Rattle.operand.specs.Number.{number_of}
use Rattle.text.specs.declared.Question.{Question}
use Rattle.text.specs.declared.Question.TheVariants.{Query, Value}
use Rattle.text.specs.declared.Control.{Control}
use Rattle.text.specs.declared.Control.TheVariants.{Run, Stop, Again, Clear, Reset}
use Rattle.text.specs.declared.Data.{Data}
use Rattle.text.specs.declared.Data.TheVariants as D
use Rattle.text.specs.Text.{check_of}
use Rattle.text.specs.Data.{asked_of, report, addressed, body, runs, string, string_of, control_of, data_of}

pub record InFront (t : List ℕ) (n : ℕ) (run : Bool) : Type 0 where
  pub short : n ≤ length t
  pub front : take n t ≡ body t
  pub good : check_of (take n t) ≡ Ok tt
  pub said : run ≡ runs t

pub body_short : (t : List ℕ) → length (body t) ≤ length t
unfolding body
body_short [] = omega arith
body_short (b ∷ []) = go (eqb b 82)
  where
    go : (x : Bool) → length (if x then [] else b ∷ []) ≤ 1
    go true = omega arith
    go false = omega arith
body_short (b ∷ c ∷ t) = let h = body_short (c ∷ t) in omega arith

body_front : (t : List ℕ) → take (length (body t)) t ≡ body t
unfolding body
body_front [] = refl
body_front (b ∷ []) = go (eqb b 82)
  where
    go : (x : Bool) → take (length (if x then [] else b ∷ [])) (b ∷ []) ≡ (if x then [] else b ∷ [])
    go true = refl
    go false = refl
body_front (b ∷ c ∷ t) = ap (◌∷◌ b) (body_front (c ∷ t))

module _ (n : ℕ) (run : Bool) where
  abbrev No : Data → Type 0
  No d = d ≡ D.Text n run → ⊥

  no_control : (c : Control) → No (D.Control c)
  no_control c e = let z : ◌≡◌ {A = ℕ} 0 1 = cc in omega arith

  no_report : (f : ℕ → Question) (a : Option ℕ) → No (report f a)
  no_report f (Some m) e = let z : ◌≡◌ {A = ℕ} 0 1 = cc in omega arith
  no_report f None e = let z : ◌≡◌ {A = ℕ} 0 1 = cc in omega arith

  no_address : (t : List ℕ) → No (addressed t)
  no_address [] e = let z : ◌≡◌ {A = ℕ} 0 1 = cc in omega arith
  no_address (b ∷ t) e = let z : ◌≡◌ {A = ℕ} 0 1 = cc in omega arith

  -- a choice that is a text, and whose first way is none
  second : (x : Bool) (a b : Data) → No a → (if x then a else b) ≡ D.Text n run → b ≡ D.Text n run
  second true a b h e = absurd (h e)
  second false a b h e = e

  control_string : (t : List ℕ) → control_of t ≡ D.Text n run → string_of t ≡ D.Text n run
  unfolding control_of
  control_string [] e = e
  control_string (b ∷ []) e =
      second (eqb b 67) _ _ (no_control Clear)
      (second (eqb b 88) _ _ (no_control Again)
      (second (eqb b 84) _ _ (no_control Stop)
      (second (eqb b 82) _ _ (no_control Run) e)))
  control_string (b ∷ c ∷ []) e = second (eqb b 33 && eqb c 82) _ _ (no_control Reset) e
  control_string (b ∷ c ∷ d ∷ t) e = e

  data_string : (t : List ℕ) → data_of t ≡ D.Text n run → string_of t ≡ D.Text n run
  unfolding data_of
  data_string [] e = let z : ◌≡◌ {A = ℕ} 0 1 = cc in absurd (omega arith)
  data_string (b ∷ t) e =
      control_string (b ∷ t)
      (second (eqb b 102) _ _ (no_address t)
      (second (eqb b 63) _ _ (no_report Value (asked_of (number_of t)))
      (second (eqb b 81) _ _ (no_report Query (asked_of (number_of t))) e)))

  string_in_front : (t : List ℕ) (c : Result Unit Misread) → check_of (body t) ≡ c → string (body t) (runs t) c ≡ D.Text n run → InFront t n run
  string_in_front t (Ok tt) q e =
      let size : n ≡ length (body t) = cc in
      let whole = body_front t in
      record { short = rw size (body_short t); front = rw size whole; good = rw (size, whole) q; said = cc }
  string_in_front t (Err r) q e = let z : ◌≡◌ {A = ℕ} 0 1 = cc in absurd (omega arith)

  pub a_text_stands_in_front : (t : List ℕ) → data_of t ≡ D.Text n run → InFront t n run
  unfolding string_of
  a_text_stands_in_front t e = string_in_front t (check_of (body t)) refl (data_string t e)
