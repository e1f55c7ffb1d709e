-- A tick that begins a search begins it at the plunger.
use mathlib.Core.Path.{◌≡◌, refl, sym, ap, subst}
use mathlib.Core.Bool.{Bool, true, false}
use Prim.Native.Nat.{ℕ}
use borrow.Author.Tests.{eqb-true}
use lib.Dec.{ltb, leb, eqb}
use lib.ListN.{take}
use Rattle.std.specs.Prelude.{Err, None, Ok, Option, Result, Some}
use Rattle.command.specs.declared.refusal.Refusal.{Refusal}
use Rattle.command.specs.Found.{Found}
use Rattle.buffer.specs.declared.course.Course.{Course}
use Rattle.basics.proofs.Choice.{by}
use Rattle.settings.specs.declared.Volume.{Volume}
use Rattle.settings.specs.Units.{goal_of, ticks_of, millionths_of}
use Rattle.command.specs.declared.Command.{Command}
use Rattle.command.specs.declared.Command.TheVariants as C
use Rattle.command.specs.declared.Way.{Way}
use Rattle.command.specs.Command.{command_at}
use Rattle.level.specs.declared.Search.{Search}
use Rattle.level.specs.Level.{begun}
use Rattle.motion.specs.declared.Sense.{Sense}
use Rattle.motion.specs.declared.Body.{Body}
use Rattle.motion.specs.declared.Activity.{Activity}
use Rattle.motion.specs.declared.Activity.TheVariants.{Initialising, Moving, Delaying, Approaching, Searching, Ejecting, Between}
use Rattle.motion.specs.declared.Effect.{Effect}
use Rattle.motion.specs.declared.Effect.TheVariants.{Goes, Ends, Fails, Asks, Opens, Closes}
use Rattle.motion.specs.Events.{Turn}
use Rattle.motion.specs.Bodies.{later_of, plunger_of}
use Rattle.motion.specs.Detect.{felt_in, no_way_down, approach_of, zeroed_of, detect_of}
use Rattle.motion.specs.Motion.{home_of, target_of, set_out, aimed, delay_of, effect_of, carried, waited_of, onward_of, between}
use Rattle.motion.proofs.Moves.{move_by_lem, eject_by_lem, ejected_by, approached_by}
use Rattle.buffer.specs.declared.course.State.{State}
use Rattle.buffer.specs.declared.course.State.TheVariants.{Empty, Stored, Running, Stopped, Done}
use Rattle.buffer.specs.declared.course.Loops.{Loops}
use Rattle.buffer.specs.Course.{reached}
use Rattle.machine.specs.declared.step.Core.{Core}
use Rattle.machine.specs.declared.step.Stepped.{Stepped}
use Rattle.machine.specs.Step.{Around, around, core, went_of, applied_of, taken_of, carried_on, running_of, active_of, step_of}
use Rattle.machine.specs.Device.{tick_of}
use Rattle.machine.proofs.Looping.{behind_open, behind_close}
use Rattle.pipettor.specs.declared.Controller.{Controller}
use Rattle.pipettor.specs.Controller.{ticked_of}
use Rattle.demands.specs.Searches.{Searches, ticked}

-- a search that is in progress has just begun, at the plunger
abbrev BeginsBy : Activity → Body → Type 0
BeginsBy (Initialising t) b = Unit {0}
BeginsBy (Moving t) b = Unit {0}
BeginsBy (Delaying k) b = Unit {0}
BeginsBy (Approaching t z) b = Unit {0}
BeginsBy (Searching f) b = f ≡ begun b.plunger f.zero
BeginsBy Ejecting b = Unit {0}
BeginsBy Between b = Unit {0}

abbrev BeginsIn : State → Body → Type 0
BeginsIn (Running a) b = BeginsBy a b
BeginsIn Empty b = Unit {0}
BeginsIn Stored b = Unit {0}
BeginsIn Stopped b = Unit {0}
BeginsIn Done b = Unit {0}

abbrev Begins : Core → Type 0
Begins c = BeginsIn c.course.state c.body

abbrev EffectBegins : Effect → Type 0
EffectBegins (Goes b a) = BeginsBy a b
EffectBegins (Ends b) = Unit {0}
EffectBegins (Fails why b) = Unit {0}
EffectBegins Asks = Unit {0}
EffectBegins Opens = Unit {0}
EffectBegins (Closes n) = Unit {0}

abbrev TurnBegins : Turn Effect → Type 0
TurnBegins t = EffectBegins t.next

-- a command that is taken
module _ (b : Body) where
  aimed_begins : (t : Option ℕ) (way : Way) (v : Volume) → TurnBegins (aimed t way v b)
  unfolding aimed set_out
  aimed_begins (Some exact) way v = by EffectBegins (eqb b.plunger (goal_of exact)) (λ h. tt) (λ h. tt)
  aimed_begins None way v = tt

  zeroed_begins : (here : Bool) (p : Option ℕ) → TurnBegins (zeroed_of here p b)
  unfolding zeroed_of approach_of
  zeroed_begins here None = tt
  zeroed_begins true (Some z) = refl
  zeroed_begins false (Some z) =
      let p2 = b.settings.detection.place in
      by EffectBegins (eqb b.plunger p2) (λ h. ap (λ (p : ℕ). begun p z) (sym (eqb-true b.plunger p2 h))) (λ h. tt)

  effect_begins : (x : Sense) (k : Command) → TurnBegins (effect_of x k b)
  unfolding effect_of home_of delay_of detect_of
  effect_begins x (C.Initialise n) = by EffectBegins (eqb b.plunger 0) (λ h. tt) (λ h. tt)
  effect_begins x (C.Move way v) =
      move_by_lem TurnBegins way v b (λ why. tt) (aimed_begins (target_of way (millionths_of v b.settings.rate) b.exact) way v)
  effect_begins x (C.Speed pace n) = tt
  effect_begins x (C.Slopes up down) = tt
  effect_begins x (C.Backlash n) = tt
  effect_begins x (C.Compensate n down) = tt
  effect_begins x (C.Delay ms) = by EffectBegins (eqb (ticks_of ms) 0) (λ h. tt) (λ h. tt)
  effect_begins x (C.Set a n) = tt
  effect_begins x (C.Detect here) =
      by TurnBegins b.initialised (λ _. by TurnBegins (no_way_down b.settings.detection) (λ _. tt) (λ _. zeroed_begins here (felt_in x))) (λ _. tt)
  effect_begins x (C.Eject bare) = eject_by_lem EffectBegins bare x b (λ why. tt) tt
  effect_begins x C.Open = tt
  effect_begins x (C.Close n) = tt

  -- a tick of what is in progress, and is no search
  onward_begins : (x : Sense) (a : Activity) → ((g : Search) → a ≡ Searching g → ⊥) → TurnBegins (onward_of x a b)
  unfolding onward_of carried waited_of
  onward_begins x (Initialising t) none = by EffectBegins (eqb (plunger_of (later_of t)) t.goal) (λ h. tt) (λ h. tt)
  onward_begins x (Moving t) none = by EffectBegins (eqb (plunger_of (later_of t)) t.goal) (λ h. tt) (λ h. tt)
  onward_begins x (Delaying k) none = by EffectBegins (leb k 1) (λ h. tt) (λ h. tt)
  onward_begins x (Approaching t z) none = approached_by TurnBegins (felt_in x) (later_of t) z _ tt refl tt
  onward_begins x (Searching f) none = absurd (none f refl)
  onward_begins x Ejecting none = ejected_by EffectBegins x b tt tt
  onward_begins x Between none = tt

module _ (c : Core) where
  abbrev WentBegins : Result Course Refusal → Type 0
  WentBegins g = Begins (went_of g c.body c.course).core

  reached_begins : (b : Body) (at : ℕ) (l : Loops) → Begins (core b (reached at l c.course))
  unfolding reached
  reached_begins b at l = by (λ (x : State). BeginsIn x b) (ltb at c.course.len) (λ h. tt) (λ h. tt)

  applied_begins : (e : Effect) (next : ℕ) → EffectBegins e → Begins (applied_of e next c).core
  unfolding applied_of
  applied_begins (Goes b a) next h = h
  applied_begins (Ends b) next h = reached_begins b next c.course.loops
  applied_begins (Fails why b) next h = tt
  applied_begins Asks next h = tt
  applied_begins Opens next h = behind_open WentBegins c.course (reached_begins c.body) tt next
  applied_begins (Closes n) next h = behind_close WentBegins c.course (reached_begins c.body) tt n next

  taken_begins : (x : Sense) (f : Found) → Begins (taken_of x f c).next.core
  unfolding taken_of
  taken_begins x (Ok (Some (k, next))) = applied_begins (effect_of x k c.body).next next (effect_begins c.body x k)
  taken_begins x (Err m) = tt
  taken_begins x (Ok None) = reached_begins c.body c.course.at c.course.loops

  -- what is in progress after a tick, where no search was before it
  active_begins : (x : State) (w : Around) → c.course.state ≡ x → ((g : Search) → x ≡ Running (Searching g) → ⊥) → Begins (active_of x w c).next.core
  unfolding active_of running_of carried_on
  active_begins (Running a) w is none =
      by (λ (t : Turn Stepped). Begins t.next.core) (between a)
      (λ _. taken_begins w.sense (command_at (take c.course.len w.text) c.course.at))
      (λ _. applied_begins (onward_of w.sense a c.body).next c.course.at (onward_begins c.body w.sense a (λ g e. none g (ap Running e))))
  active_begins Empty w is none = rw is tt
  active_begins Stored w is none = rw is tt
  active_begins Stopped w is none = rw is tt
  active_begins Done w is none = rw is tt

pub begins_at_the_plunger :
    (s : Sense) (k : Controller) (f : Search) → ((g : Search) → Searches k g → ⊥) → Searches (ticked s k) f → f ≡ begun (ticked s k).device.core.body.plunger f.zero
unfolding ticked_of tick_of step_of
begins_at_the_plunger s k f none e =
    let c = k.device.core in
    subst (λ (x : State). BeginsIn x (ticked s k).device.core.body) e (active_begins c c.course.state (around k.device.text s) refl none)
