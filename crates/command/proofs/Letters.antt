-- Theorems: a command is made by its own letter and by no other, and E is 45h.
use mathlib.Core.Path.{◌≡◌, refl, sym}
use mathlib.Core.Bool.{Bool, true, false}
use mathlib.Core.List.{List, [], ◌∷◌}
use Prim.Native.Nat.{ℕ}
use native.Mathlib.Omega.{arith}
use borrow.Author.Tests.{eqb-true}
use lib.Dec.{eqb}
use lib.ListN.{length}
use Rattle.std.specs.Prelude.{if◌then◌else◌, Ok, Some}
use Rattle.operand.specs.Text.{operand_text}
use Rattle.operand.specs.Number.{pair_of}
use Rattle.command.specs.declared.Letter.{Letter}
use Rattle.command.specs.declared.Letter.TheVariants as L
use Rattle.command.specs.declared.Command.{Command}
use Rattle.command.specs.declared.Command.TheVariants as C
use Rattle.command.specs.Table.{letter_of, row_of, volume_of, paced_of, slopes_of, compensation_of, aspect_of, command_of}
use Rattle.command.specs.Command.{found_in}
use Rattle.command.proofs.Made.{wrong_is_not_made, of_made, of_both, of_unit, of_row, of_placed}

-- the letter of a command
abbrev pub letter_for : Command → Letter
letter_for (C.Initialise n) = L.Home
letter_for (C.Move way v) = L.Volume way
letter_for (C.Speed pace n) = L.Speed pace
letter_for (C.Slopes up down) = L.Slopes
letter_for (C.Backlash n) = L.Backlash
letter_for (C.Compensate n down) = L.Compensation
letter_for (C.Delay ms) = L.Delay
letter_for (C.Set a n) = L.Aspect
letter_for (C.Detect here) = L.Detect
letter_for (C.Eject bare) = L.Eject
letter_for C.Open = L.Open
letter_for (C.Close n) = L.Close

abbrev Of : Letter → Command → Type 0
Of l c = letter_for c ≡ l

pub a_command_is_made_by_its_letter : (l : Letter) (t : List ℕ) (c : Command) → command_of l t ≡ Ok c → letter_for c ≡ l
unfolding command_of volume_of paced_of slopes_of compensation_of aspect_of
a_command_is_made_by_its_letter L.Home t c e = of_made (Of L.Home) c _ _ _ (λ n h. refl) e
a_command_is_made_by_its_letter (L.Volume way) t c e = of_unit (Of (L.Volume way)) c _ _ _ _ (of_made (Of (L.Volume way)) c _ _ _ (λ n h. refl)) (of_made (Of (L.Volume way)) c _ _ _ (λ n h. refl)) e
a_command_is_made_by_its_letter (L.Speed pace) t c e = of_unit (Of (L.Speed pace)) c _ _ _ _ (of_made (Of (L.Speed pace)) c _ _ _ (λ n h. refl)) (of_made (Of (L.Speed pace)) c _ _ _ (λ n h. refl)) e
a_command_is_made_by_its_letter L.Slopes t c e = of_both (Of L.Slopes) c _ _ _ _ (λ n m h k. refl) e
a_command_is_made_by_its_letter L.Backlash t c e = of_made (Of L.Backlash) c _ _ _ (λ n h. refl) e
a_command_is_made_by_its_letter L.Compensation t c e = of_both (Of L.Compensation) c _ _ _ _ (λ n m h k. refl) e
a_command_is_made_by_its_letter L.Delay t c e = of_made (Of L.Delay) c _ _ _ (λ n h. refl) e
a_command_is_made_by_its_letter L.Aspect t c e = of_row (Of L.Aspect) c (row_of (pair_of t).first) (pair_of t) (λ a n h. refl) e
a_command_is_made_by_its_letter L.Detect t c e = of_made (Of L.Detect) c _ _ _ (λ n h. refl) e
a_command_is_made_by_its_letter L.Eject t c e = of_made (Of L.Eject) c _ _ _ (λ n h. refl) e
a_command_is_made_by_its_letter L.Open [] c e = let s : C.Open ≡ c = cc in rw (← s) refl
a_command_is_made_by_its_letter L.Open (b ∷ t) c e = wrong_is_not_made 0 c e
a_command_is_made_by_its_letter L.Close t c e = of_made (Of L.Close) c _ _ _ (λ n h. refl) e
a_command_is_made_by_its_letter L.Other t c e = let z : ◌≡◌ {A = ℕ} 0 1 = cc in absurd (omega arith)

-- the letters before E in the table are none, nor are those behind it
not_yet : {A : Type 0} (t : Bool) (x others : Letter) → (x ≡ L.Eject → A) → (others ≡ L.Eject → A) → (if t then x else others) ≡ L.Eject → A
not_yet true x others f g e = f e
not_yet false x others f g e = g e

other : {A : Type 0} → ◌≡◌ {A = ℕ} 0 1 → A
other z = absurd (omega arith)

e_is_45h : (b : ℕ) → letter_of b ≡ L.Eject → b ≡ 69
unfolding letter_of
e_is_45h b =
    not_yet (eqb b 87) _ _ (λ e. other cc)
    (not_yet (eqb b 65) _ _ (λ e. other cc)
    (not_yet (eqb b 80) _ _ (λ e. other cc)
    (not_yet (eqb b 68) _ _ (λ e. other cc)
    (not_yet (eqb b 86) _ _ (λ e. other cc)
    (not_yet (eqb b 118) _ _ (λ e. other cc)
    (not_yet (eqb b 99) _ _ (λ e. other cc)
    (not_yet (eqb b 76) _ _ (λ e. other cc)
    (not_yet (eqb b 75) _ _ (λ e. other cc)
    (not_yet (eqb b 98) _ _ (λ e. other cc)
    (not_yet (eqb b 77) _ _ (λ e. other cc)
    (not_yet (eqb b 112) _ _ (λ e. other cc)
    (not_yet (eqb b 66) _ _ (λ e. other cc) at_last))))))))))))
  where
    at_last : (if eqb b 69 then L.Eject else if eqb b 103 then L.Open else if eqb b 71 then L.Close else L.Other) ≡ L.Eject → b ≡ 69
    at_last = go (eqb b 69) refl
      where
        go : (x : Bool) → eqb b 69 ≡ x → (if x then L.Eject else if eqb b 103 then L.Open else if eqb b 71 then L.Close else L.Other) ≡ L.Eject → b ≡ 69
        go true h e = eqb-true b 69 h
        go false h e = not_yet (eqb b 103) _ _ (λ e. other cc) (not_yet (eqb b 71) _ _ (λ e. other cc) (λ e. other cc)) e

-- where an E is found there stands its character
pub an_eject_stands_at_an_e : (at : ℕ) (b : ℕ) (t : List ℕ) (bare : Bool) (next : ℕ) → found_in at (b ∷ t) ≡ Ok (Some (C.Eject bare, next)) → b ≡ 69
unfolding found_in
an_eject_stands_at_an_e at b t bare next e =
    e_is_45h b
    (sym (of_placed (Of (letter_of b)) at (length (operand_text t)) _ (C.Eject bare) next (a_command_is_made_by_its_letter (letter_of b) (operand_text t)) e))
