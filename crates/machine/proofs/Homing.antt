-- Theorem: while W is in progress the plunger is not initialised, so that a cut W leaves it uninitialised.
use mathlib.Core.Path.{◌≡◌, refl}
use mathlib.Core.Bool.{false}
use Prim.Native.Nat.{ℕ}
use lib.Dec.{ltb, leb, eqb}
use lib.ListN.{take, length}
use Rattle.std.specs.Prelude.{Err, None, Ok, Option, Result, Some}
use Rattle.command.specs.declared.refusal.Refusal.{Refusal}
use Rattle.command.specs.Verdict.{Verdict}
use Rattle.command.specs.Found.{Found}
use Rattle.basics.proofs.Choice.{by}
use Rattle.settings.specs.declared.Volume.{Volume}
use Rattle.settings.specs.Units.{goal_of, ticks_of, millionths_of}
use Rattle.command.specs.declared.Command.{Command}
use Rattle.command.specs.declared.Way.{Way}
use Rattle.command.specs.Command.{command_at}
use Rattle.motion.specs.declared.Sense.{Sense}
use Rattle.motion.specs.declared.Body.{Body}
use Rattle.motion.specs.declared.Travel.{Travel}
use Rattle.motion.specs.declared.Activity.{Activity}
use Rattle.motion.specs.declared.Activity.TheVariants.{Initialising, Moving, Delaying, Approaching, Searching, Ejecting, Between}
use Rattle.motion.specs.declared.Effect.{Effect}
use Rattle.motion.specs.declared.Effect.TheVariants.{Goes, Ends, Fails, Asks, Opens, Closes}
use Rattle.motion.specs.Events.{Turn}
use Rattle.motion.specs.Bodies.{later_of, plunger_of}
use Rattle.motion.specs.Detect.{felt_in, searched_of}
use Rattle.motion.specs.Motion.{home_of, target_of, set_out, aimed, delay_of, effect_of, carried, waited_of, onward_of, between, cut_of}
use Rattle.motion.proofs.Moves.{move_by_lem, eject_by_lem, ejected_by, detect_by_lem, approached_by, found_by}
use Rattle.buffer.specs.declared.course.State.{State}
use Rattle.buffer.specs.declared.course.State.TheVariants.{Empty, Stored, Running, Stopped, Done}
use Rattle.buffer.specs.declared.course.Loops.{Loops}
use Rattle.buffer.specs.declared.course.Course.{Course}
use Rattle.buffer.specs.declared.order.Change.{Change}
use Rattle.buffer.specs.declared.order.Change.TheVariants as C
use Rattle.buffer.specs.declared.order.Order.{Order}
use Rattle.buffer.specs.declared.order.Order.TheVariants as O
use Rattle.buffer.specs.Course.{reached, halted}
use Rattle.buffer.specs.Order.{order_of}
use Rattle.machine.specs.declared.step.Core.{Core}
use Rattle.machine.specs.declared.step.Stepped.{Stepped}
use Rattle.machine.specs.declared.Device.{Device}
use Rattle.machine.specs.Step.{Around, core, went_of, applied_of, taken_of, carried_on, running_of, active_of, step_of}
use Rattle.machine.specs.Act.{halt_of, stop_of, changed_of, done_of, acted_of, act_of}
use Rattle.machine.specs.Device.{tick_of, halted_of}
use Rattle.machine.specs.Refusals.{verdict_for}
use Rattle.machine.specs.History.{Call, call_of}
use Rattle.machine.specs.History.Call.{tick, act, stop}
use Rattle.machine.proofs.Looping.{behind_open, behind_close}

-- "W clears "initialised", moves to 0, then sets it"
abbrev HomesBy : Activity → Body → Type 0
HomesBy (Initialising t) b = b.initialised ≡ false
HomesBy (Moving t) b = Unit {0}
HomesBy (Delaying k) b = Unit {0}
HomesBy (Approaching t z) b = Unit {0}
HomesBy (Searching f) b = Unit {0}
HomesBy Ejecting b = Unit {0}
HomesBy Between b = Unit {0}

abbrev HomesIn : State → Body → Type 0
HomesIn (Running a) b = HomesBy a b
HomesIn Empty b = Unit {0}
HomesIn Stored b = Unit {0}
HomesIn Stopped b = Unit {0}
HomesIn Done b = Unit {0}

abbrev pub Homes : Core → Type 0
Homes c = HomesIn c.course.state c.body

abbrev EffectHomes : Effect → Type 0
EffectHomes (Goes b a) = HomesBy a b
EffectHomes (Ends b) = Unit {0}
EffectHomes (Fails why b) = Unit {0}
EffectHomes Asks = Unit {0}
EffectHomes Opens = Unit {0}
EffectHomes (Closes n) = Unit {0}

-- a command that is taken
module _ (b : Body) where
  aimed_homes : (t : Option ℕ) (way : Way) (v : Volume) → EffectHomes (aimed t way v b).next
  unfolding aimed set_out
  aimed_homes (Some exact) way v = by EffectHomes (eqb b.plunger (goal_of exact)) (λ h. tt) (λ h. tt)
  aimed_homes None way v = tt

  effect_homes : (x : Sense) (k : Command) → EffectHomes (effect_of x k b).next
  unfolding effect_of home_of delay_of
  effect_homes x (Command.Initialise n) = by EffectHomes (eqb b.plunger 0) (λ h. tt) (λ h. refl)
  effect_homes x (Command.Move way v) =
      move_by_lem (λ (t : Turn Effect). EffectHomes t.next) way v b (λ why. tt) (aimed_homes (target_of way (millionths_of v b.settings.rate) b.exact) way v)
  effect_homes x (Command.Speed pace n) = tt
  effect_homes x (Command.Slopes up down) = tt
  effect_homes x (Command.Backlash n) = tt
  effect_homes x (Command.Compensate n down) = tt
  effect_homes x (Command.Delay ms) = by EffectHomes (eqb (ticks_of ms) 0) (λ h. tt) (λ h. tt)
  effect_homes x (Command.Set a n) = tt
  effect_homes x (Command.Detect here) = detect_by_lem (λ (t : Turn Effect). EffectHomes t.next) b (λ why. tt) (λ z. tt) (λ z. tt) (λ z. tt) here x
  effect_homes x (Command.Eject bare) = eject_by_lem EffectHomes bare x b (λ why. tt) tt
  effect_homes x Command.Open = tt
  effect_homes x (Command.Close n) = tt

  -- a tick of what is in progress
  onward_homes : (x : Sense) (a : Activity) → HomesBy a b → EffectHomes (onward_of x a b).next
  unfolding onward_of carried waited_of searched_of
  onward_homes x (Initialising t) h = by EffectHomes (eqb (plunger_of (later_of t)) t.goal) (λ e. tt) (λ e. h)
  onward_homes x (Moving t) h = by EffectHomes (eqb (plunger_of (later_of t)) t.goal) (λ e. tt) (λ e. tt)
  onward_homes x (Delaying k) h = by EffectHomes (leb k 1) (λ e. tt) (λ e. tt)
  onward_homes x (Approaching t z) h = approached_by (λ (e : Turn Effect). EffectHomes e.next) (felt_in x) (later_of t) z _ tt tt tt
  onward_homes x (Searching f) h = found_by (λ (e : Turn Effect). EffectHomes e.next) _ tt (λ why. tt) (λ s. tt) _
  onward_homes x Ejecting h = ejected_by EffectHomes x b tt tt
  onward_homes x Between h = tt

-- where a command has ended, and where a run is stopped, nothing is in progress
module _ (b : Body) (c : Course) where
  reached_homes : (at : ℕ) (l : Loops) → Homes (core b (reached at l c))
  unfolding reached
  reached_homes at l = by (λ (s : State). HomesIn s b) (ltb at c.len) (λ h. tt) (λ h. tt)

  halted_homes : Homes (core b (halted c))
  unfolding halted
  halted_homes = by (λ (d : Course). Homes (core b d)) (ltb c.at c.len) (λ h. tt) (λ h. tt)

module _ (c : Core) where
  abbrev WentHomes : Result Course Refusal → Type 0
  WentHomes g = Homes (went_of g c.body c.course).core

  applied_homes : (e : Effect) (next : ℕ) → EffectHomes e → Homes (applied_of e next c).core
  unfolding applied_of
  applied_homes (Goes b a) next h = h
  applied_homes (Ends b) next h = reached_homes b c.course next c.course.loops
  applied_homes (Fails why b) next h = tt
  applied_homes Asks next h = tt
  applied_homes Opens next h = behind_open WentHomes c.course (reached_homes c.body c.course) tt next
  applied_homes (Closes n) next h = behind_close WentHomes c.course (reached_homes c.body c.course) tt n next

  taken_homes : (x : Sense) (f : Found) → Homes (taken_of x f c).next.core
  unfolding taken_of
  taken_homes x (Ok (Some (k, next))) = applied_homes (effect_of x k c.body).next next (effect_homes c.body x k)
  taken_homes x (Err m) = tt
  taken_homes x (Ok None) = reached_homes c.body c.course c.course.at c.course.loops

  running_homes : (a : Activity) (w : Around) → HomesBy a c.body → Homes (running_of a w c).next.core
  unfolding running_of carried_on
  running_homes a w h =
      by (λ (t : Turn Stepped). Homes t.next.core) (between a)
      (λ e. taken_homes w.sense (command_at (take c.course.len w.text) c.course.at))
      (λ e. applied_homes (onward_of w.sense a c.body).next c.course.at (onward_homes c.body w.sense a h))

  active_homes : (s : State) (w : Around) → HomesIn s c.body → Homes c → Homes (active_of s w c).next.core
  unfolding active_of
  active_homes (Running a) w h g = running_homes a w h
  active_homes Empty w h g = g
  active_homes Stored w h g = g
  active_homes Stopped w h g = g
  active_homes Done w h g = g

  halt_homes : (s : State) → Homes c → Homes (halt_of s c).next
  unfolding halt_of
  halt_homes (Running a) g = halted_homes (cut_of a c.body).next c.course
  halt_homes Empty g = g
  halt_homes Stored g = g
  halt_homes Stopped g = g
  halt_homes Done g = g

  changed_homes : (k : Change) → Homes c → Homes (changed_of k c).next
  unfolding changed_of stop_of
  changed_homes C.Begin g = tt
  changed_homes C.Resume g = tt
  changed_homes C.EndDelay g = reached_homes c.body c.course c.course.at c.course.loops
  changed_homes C.Repeat g = tt
  changed_homes C.Erase g = tt
  changed_homes C.Halt g = halt_homes c.course.state g
  changed_homes C.Reset g = tt

  done_homes : (o : Order) (n : ℕ) → Homes c → Homes (done_of o n c).next
  unfolding done_of
  done_homes (O.Refuse why) n g = g
  done_homes (O.Load loading run) n g = by (λ (d : Course). Homes (core c.body d)) run (λ h. tt) (λ h. tt)
  done_homes (O.Change change) n g = changed_homes change g

  acted_homes : (o : Order) (v : Verdict) (n : ℕ) → Homes c → Homes (acted_of o v n c).next
  unfolding acted_of
  acted_homes o (Ok tt) n g = done_homes o n g
  acted_homes o (Err why) n g = g

-- every call keeps it
pub a_call_keeps_homing : (k : Call) (d : Device) → Homes d.core → Homes (call_of k d).next.core
unfolding call_of tick_of halted_of step_of stop_of act_of
a_call_keeps_homing (tick x) d g = active_homes d.core d.core.course.state _ g g
a_call_keeps_homing (act a added) d g = acted_homes d.core (order_of a d.core.course.state) (verdict_for a added d) (length added) g
a_call_keeps_homing stop d g = halt_homes d.core d.core.course.state g

-- "T in Running: a movement is cut where the plunger is": a W that is cut never sets "initialised"
pub a_cut_W_leaves_the_plunger_uninitialised : (t : Travel) (c : Core) → c.course.state ≡ Running (Initialising t) → Homes c → (stop_of c).next.body.initialised ≡ false
unfolding stop_of halt_of cut_of
a_cut_W_leaves_the_plunger_uninitialised t c e g = rw e (rw e at g)
