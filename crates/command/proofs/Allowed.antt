-- Theorem: a command that is read has numbers that the table allows.
use mathlib.Core.Path.{◌≡◌, refl}
use mathlib.Core.List.{List, [], ◌∷◌}
use Prim.Native.Nat.{ℕ}
use native.Mathlib.Omega.{arith}
use lib.ListN.{length, drop}
use Rattle.std.specs.Prelude.{None, Ok, Option, Some}
use Rattle.settings.specs.declared.Pace.{Pace}
use Rattle.settings.specs.declared.Pace.TheVariants.{Top, Start, Cutoff}
use Rattle.settings.specs.declared.Quantity.TheVariants as Q
use Rattle.settings.specs.declared.Volume.TheVariants as V
use Rattle.settings.specs.Limits.{range_of, usual_of, speeds_of, flows_of, usual_speed, Between}
use Rattle.settings.specs.Units.{tenths_of}
use Rattle.settings.proofs.Limits.{a_flow_allowed_is_a_speed_allowed}
use Rattle.operand.specs.declared.Number.{Number}
use Rattle.operand.specs.declared.Number.TheVariants.{Absent, Is, Wrong}
use Rattle.operand.specs.Text.{operand_text}
use Rattle.operand.specs.Number.{number_of, pair_of}
use Rattle.command.specs.declared.Letter.{Letter}
use Rattle.command.specs.declared.Letter.TheVariants as L
use Rattle.command.specs.declared.Command.{Command}
use Rattle.command.specs.declared.Command.TheVariants as C
use Rattle.command.specs.Allowed.{Allowed}
use Rattle.command.specs.Table.{move_by, compensate_by, eject_by, detect_by, row_of, letter_of, allowed, nanolitres_of, speed_of, in_tenths, flow_of, volume_of, paced_of, slopes_of, compensation_of, aspect_of, command_of}
use Rattle.command.specs.Command.{found_in, command_at}
use Rattle.command.proofs.Made.{wrong_is_not_made, of_made, of_both, of_unit, of_row, of_placed}
use Rattle.command.proofs.Within.{good_is_not_bad, allowed_is_between, taken_is_between, usual_is_between, whole_is_between, detail_is_between}

-- a speed, in either unit
usual_speed_is_between : (pace : Pace) → Between (speeds_of pace) (usual_speed pace)
usual_speed_is_between Top = omega arith
usual_speed_is_between Start = omega arith
usual_speed_is_between Cutoff = omega arith

speed_is_between : (pace : Pace) (n : Number) (v : ℕ) → speed_of pace n ≡ Some v → Between (speeds_of pace) v
unfolding speed_of
speed_is_between pace n v e = taken_is_between 1 (speeds_of pace) (usual_speed pace) n v (usual_speed_is_between pace) e

flow_is_between : (pace : Pace) (n : Number) (v : ℕ) → flow_of pace n ≡ Some v → Between (speeds_of pace) v
unfolding flow_of in_tenths
flow_is_between pace Absent v e = let s : usual_speed pace ≡ v = cc in rw s at (usual_speed_is_between pace)
flow_is_between pace (Is n decimals) v e = go (allowed 3 (flows_of pace) n decimals) refl e
  where
    go : (t : Option ℕ) → allowed 3 (flows_of pace) n decimals ≡ t → in_tenths t ≡ Some v → Between (speeds_of pace) v
    go (Some m) q h =
        let s : tenths_of m ≡ v = cc in
        rw s at (a_flow_allowed_is_a_speed_allowed pace m (allowed_is_between 3 (flows_of pace) n decimals m q))
    go None q h = good_is_not_bad v h
flow_is_between pace (Wrong read) v e = good_is_not_bad v e

nanolitres_are_between : (n : Number) (v : ℕ) → nanolitres_of n ≡ Some v → Between (range_of Q.Nanolitres) v
unfolding nanolitres_of
nanolitres_are_between n v e = taken_is_between 3 (range_of Q.Nanolitres) (usual_of Q.Nanolitres) n v (usual_is_between Q.Nanolitres) e

what_is_made_is_allowed : (l : Letter) (t : List ℕ) (c : Command) → command_of l t ≡ Ok c → Allowed c
unfolding command_of volume_of paced_of slopes_of compensation_of aspect_of Allowed
what_is_made_is_allowed L.Home t c e = of_made Allowed c _ C.Initialise _ (whole_is_between Q.Home (number_of t)) e
what_is_made_is_allowed (L.Volume way) t c e =
    let p = pair_of t in
    of_unit Allowed c _ _ _ _
    (of_made Allowed c _ (move_by way V.Increments) _ (whole_is_between Q.Increments p.first))
    (of_made Allowed c _ (move_by way V.Nanolitres) _ (nanolitres_are_between p.first))
    e
what_is_made_is_allowed (L.Speed pace) t c e =
    let p = pair_of t in
    of_unit Allowed c _ _ _ _ (of_made Allowed c _ (C.Speed pace) _ (speed_is_between pace p.first)) (of_made Allowed c _ (C.Speed pace) _ (flow_is_between pace p.first)) e
what_is_made_is_allowed L.Slopes t c e =
    let p = pair_of t in
    of_both Allowed c _ C.Slopes _ _ (λ n m a b. (whole_is_between Q.Slope p.first n a, whole_is_between Q.Slope p.second m b)) e
what_is_made_is_allowed L.Backlash t c e = of_made Allowed c _ C.Backlash _ (whole_is_between Q.Backlash (number_of t)) e
what_is_made_is_allowed L.Compensation t c e =
    let p = pair_of t in
    of_both Allowed c _ compensate_by _ _ (λ n m a b. whole_is_between Q.Compensation p.first n a) e
what_is_made_is_allowed L.Delay t c e = of_made Allowed c _ C.Delay _ (whole_is_between Q.Delay (number_of t)) e
what_is_made_is_allowed L.Aspect t c e = of_row Allowed c (row_of (pair_of t).first) (pair_of t) (λ a n. detail_is_between a (pair_of t).second n) e
what_is_made_is_allowed L.Detect t c e = of_made Allowed c _ detect_by _ (λ n h. tt) e
what_is_made_is_allowed L.Eject t c e = of_made Allowed c _ eject_by _ (λ n h. tt) e
what_is_made_is_allowed L.Open [] c e = let s : C.Open ≡ c = cc in rw (← s) tt
what_is_made_is_allowed L.Open (b ∷ t) c e = wrong_is_not_made 0 c e
what_is_made_is_allowed L.Close t c e = of_made Allowed c _ C.Close _ (whole_is_between Q.Passes (number_of t)) e
what_is_made_is_allowed L.Other t c e = let z : ◌≡◌ {A = ℕ} 0 1 = cc in absurd (omega arith)

-- whatever the text, a command that is read from it is within the table's limits
pub a_command_read_is_allowed : (s : List ℕ) (at : ℕ) (c : Command) (next : ℕ) → command_at s at ≡ Ok (Some (c, next)) → Allowed c
unfolding command_at found_in
a_command_read_is_allowed s at c next e = go (drop at s) e
  where
    go : (u : List ℕ) → found_in at u ≡ Ok (Some (c, next)) → Allowed c
    go [] q = let z : ◌≡◌ {A = ℕ} 0 1 = cc in absurd (omega arith)
    go (b ∷ t) q = of_placed Allowed at (length (operand_text t)) _ c next (what_is_made_is_allowed (letter_of b) (operand_text t)) q
