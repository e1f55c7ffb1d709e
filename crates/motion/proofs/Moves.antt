-- What holds of every refusal and of a move that goes to its target holds of A, P and D; and of B and E, and of their ticks, likewise.
use mathlib.Core.Bool.{Bool, true, false}
use Prim.Native.Nat.{ℕ}
use lib.Dec.{ltb, eqb}
use Rattle.std.specs.Prelude.{None, Option, Some}
use Rattle.basics.proofs.Choice.{by}
use Rattle.settings.specs.declared.Volume.{Volume}
use Rattle.settings.specs.Units.{millionths_of}
use Rattle.command.specs.declared.refusal.Refusal.{Refusal}
use Rattle.command.specs.declared.refusal.Refusal.TheVariants as R
use Rattle.command.specs.declared.Way.{Way}
use Rattle.level.specs.declared.Search.{Search}
use Rattle.level.specs.declared.Finding.{Finding}
use Rattle.level.specs.declared.Finding.TheVariants.{TooMuch, Found, Missed, On}
use Rattle.level.specs.Level.{begun}
use Rattle.motion.specs.declared.Sense.{Sense}
use Rattle.motion.specs.declared.Body.{Body}
use Rattle.motion.specs.declared.Travel.{Travel}
use Rattle.motion.specs.declared.Activity.{Activity}
use Rattle.motion.specs.declared.Activity.TheVariants.{Approaching, Searching}
use Rattle.motion.specs.declared.Effect.{Effect}
use Rattle.motion.specs.declared.Effect.TheVariants.{Goes, Ends, Fails, Asks}
use Rattle.motion.specs.Events.{start, Turn, quiet, told}
use Rattle.motion.specs.Bodies.{travel, body_for}
use Rattle.motion.specs.Detect.{felt_in, place_for, approach_of, zeroed_of, no_way_down, detect_of, ends_here, approached_of, found_as}
use Rattle.motion.specs.Motion.{target_of, aimed, move_of, eject_of, ejected_of}

pub move_by_lem :
    (P : Turn Effect → Type 0) (way : Way) (v : Volume) (b : Body) → ((why : Refusal) → P (quiet (Fails why b))) →
    P (aimed (target_of way (millionths_of v b.settings.rate) b.exact) way v b) → P (move_of way v b)
unfolding move_of
move_by_lem P way v b refused goes =
    by P b.initialised (λ i. by P (ltb b.settings.top b.settings.start) (λ s. refused R.StartAboveTop) (λ s. goes)) (λ i. refused R.NotInitialised)

-- E, and the tick after it
pub eject_by_lem : (P : Effect → Type 0) (bare : Bool) (s : Sense) (b : Body) → ((why : Refusal) → P (Fails why b)) → P Asks → P (eject_of bare s b)
unfolding eject_of
eject_by_lem P bare s b refused asks =
    by P bare
    (λ _. by P b.initialised (λ _. asks) (λ _. refused R.NotInitialised))
    (λ _. by P s.tip (λ _. asks) (λ _. refused R.NoTip))

pub ejected_by : (P : Effect → Type 0) (s : Sense) (b : Body) → P (Fails R.StillThere b) → P (Ends b) → P (ejected_of s b)
unfolding ejected_of
ejected_by P s b still_there gone = by P s.tip (λ _. still_there) (λ _. gone)

-- B, and its ticks
module _ (P : Turn Effect → Type 0) where
  module _ (b : Body) (refused : (why : Refusal) → P (quiet (Fails why b))) (here : (z : ℕ) → P (quiet (Goes b (Searching (begun b.plunger z))))) where
    abbrev Sets : Activity → Type 0
    Sets a = P (told (start (place_for b)) (Goes (body_for (place_for b) b) a))

    module _ (at_p2 : (z : ℕ) → Sets (Searching (begun b.settings.detection.place z)))
        (to-p2 : (z : ℕ) → Sets (Approaching (travel b.plunger b.settings.detection.place b.settings.top) z)) where
      approach_by : (z : ℕ) → P (told (start (place_for b)) (approach_of z b))
      unfolding approach_of
      approach_by z =
          by (λ (e : Effect). P (told (start (place_for b)) e)) (eqb b.plunger b.settings.detection.place) (λ _. at_p2 z) (λ _. to-p2 z)

      zeroed_by : (from_here : Bool) (p : Option ℕ) → P (zeroed_of from_here p b)
      unfolding zeroed_of
      zeroed_by from_here None = refused R.TooMuchPressure
      zeroed_by true (Some z) = here z
      zeroed_by false (Some z) = approach_by z

      pub detect_by_lem : (from_here : Bool) (s : Sense) → P (detect_of from_here s b)
      unfolding detect_of
      detect_by_lem from_here s =
          by P b.initialised
          (λ _. by P (no_way_down b.settings.detection) (λ _. refused R.NoWayDown) (λ _. zeroed_by from_here (felt_in s)))
          (λ _. refused R.NotInitialised)

  pub approached_by :
      (p : Option ℕ) (t : Travel) (z : ℕ) (b : Body) → P (ends_here (Fails R.TooMuchPressure) b) → P (quiet (Goes b (Searching (begun b.plunger z)))) →
      P (quiet (Goes b (Approaching t z))) → P (approached_of p t z b)
  unfolding approached_of
  approached_by None t z b halted arrived on = halted
  approached_by (Some r) t z b halted arrived on = by (λ (e : Effect). P (quiet e)) (eqb b.plunger t.goal) (λ _. arrived) (λ _. on)

  module _ (b : Body) (found : P (ends_here Ends b)) (fails : (why : Refusal) → P (ends_here (Fails why) b)) (on : (s : Search) → P (quiet (Goes b (Searching s)))) where
    pub found_by : (f : Finding) → P (found_as f b)
    unfolding found_as
    found_by TooMuch = fails R.TooMuchPressure
    found_by Found = found
    found_by Missed = fails R.NoLiquid
    found_by (On s) = on s
