-- Theorem: "v, c, L and K are kept and reported and don't shape motion": a tick does the same whatever they are, and whatever p6 is (02, W-206). With W-205 it asks one thing of v: whether it is above V.
use mathlib.Core.Path.{◌≡◌, refl, sym, ap, subst, ◌∙◌}
use mathlib.Core.Bool.{Bool, true, false}
use mathlib.Core.List.{List}
use Prim.Native.Nat.{ℕ}
use lib.Dec.{eqb, ltb, leb}
use lib.ListN.{take}
use Rattle.std.specs.Prelude.{if◌then◌else◌, Err, None, Ok, Option, Result, Some}
use Rattle.command.specs.declared.refusal.Refusal.{Refusal}
use Rattle.command.specs.Found.{Found}
use Rattle.settings.specs.declared.Volume.{Volume}
use Rattle.settings.specs.declared.Pace.TheVariants.{Top, Start, Cutoff}
use Rattle.settings.specs.declared.Aspect.{Aspect}
use Rattle.settings.specs.declared.Aspect.TheVariants.{Threshold, Duration, Place, Speed, Most, Mode, Interval}
use Rattle.settings.specs.Limits.{aspect_set}
use Rattle.settings.specs.Units.{millionths_of, goal_of, ticks_of}
use Rattle.command.specs.declared.Way.{Way}
use Rattle.command.specs.declared.Command.{Command}
use Rattle.command.specs.declared.Command.TheVariants as C
use Rattle.command.specs.Command.{command_at}
use Rattle.settings.specs.declared.Detection.{Detection}
use Rattle.level.specs.declared.Search.{Search}
use Rattle.level.specs.declared.Sought.{Sought}
use Rattle.level.specs.declared.Finding.{Finding}
use Rattle.level.specs.declared.Finding.TheVariants.{TooMuch, Missed}
use Rattle.level.specs.Level.{left_of, limit_of, gone_in, plunger_in, far, count_with, counted_as, finding_of, sought_of}
use Rattle.motion.specs.declared.Sense.{Sense}
use Rattle.motion.specs.declared.Body.{Body}
use Rattle.motion.specs.declared.Travel.{Travel}
use Rattle.motion.specs.declared.Activity.{Activity}
use Rattle.motion.specs.declared.Activity.TheVariants.{Initialising, Moving, Delaying, Approaching, Searching, Ejecting, Between}
use Rattle.motion.specs.declared.Effect.{Effect}
use Rattle.motion.specs.declared.Effect.TheVariants.{Goes, Ends, Fails, Asks, Opens, Closes}
use Rattle.motion.specs.Events.{Turn, quiet}
use Rattle.motion.specs.Bodies.{later_of, plunger_of, body_at, body_set}
use Rattle.motion.specs.Detect.{felt_in, approach_of, zeroed_of, no_way_down, detect_of, approached_of, found_as, searched_of}
use Rattle.motion.specs.Motion.{settings_of, detecting_of, set_to, home_of, target_of, set_out, aimed, move_of, delay_of, eject_of, effect_of, carried, waited_of, ejected_of, between, onward_of}
use Rattle.buffer.specs.declared.course.State.{State}
use Rattle.buffer.specs.declared.course.State.TheVariants.{Empty, Stored, Running, Stopped, Done}
use Rattle.buffer.specs.declared.course.Course.{Course}
use Rattle.buffer.specs.Course.{opened_of, closed_of}
use Rattle.machine.specs.declared.step.Core.{Core}
use Rattle.machine.specs.declared.step.Stepped.{Stepped}
use Rattle.machine.specs.declared.Device.{Device}
use Rattle.machine.specs.declared.Turned.{Turned}
use Rattle.machine.specs.Step.{around, core, stepped, went_of, applied_of, taken_of, carried_on, running_of, active_of, step_of}
use Rattle.machine.specs.Device.{device, tick_of}

-- what is left of a body without them: the plunger, the exact position, "initialised", V, C and p0 to p5
abbrev shape : Body → Body
shape b = body_set (settings_of b.settings.top 0 0 0 0 0 b.settings.rate (aspect_set Interval 0 b.settings.detection)) b

abbrev shape_of : Effect → Effect
shape_of (Goes b a) = Goes (shape b) a
shape_of (Ends b) = Ends (shape b)
shape_of (Fails why b) = Fails why (shape b)
shape_of Asks = Asks
shape_of Opens = Opens
shape_of (Closes n) = Closes n

abbrev shape_in : Core → Core
shape_in c = core (shape c.body) c.course

abbrev shape_behind : Stepped → Stepped
shape_behind s = stepped (shape_in s.core) s.news

-- two effects, or what a tick hands back, that differ in these settings only, and add the same to the history
record Same {A : Type 0} (f : A → A) (t u : Turn A) : Type 0 where
  next : f t.next ≡ f u.next
  events : t.events ≡ u.events

whichever : {A : Type 0} (f : A → A) (x : Bool) (a b c d : A) → f a ≡ f c → f b ≡ f d → f (if x then a else b) ≡ f (if x then c else d)
whichever f true a b c d p q = p
whichever f false a b c d p q = q

either : {A : Type 0} (f : A → A) (x : Bool) (a b c d : Turn A) → Same f a c → Same f b d → Same f (if x then a else b) (if x then c else d)
either f true a b c d p q = p
either f false a b c d p q = q

module _ (v c up down k i : ℕ) (sense : Sense) where
  -- a body with others in their place
  abbrev other : Body → Body
  other b = body_set (settings_of b.settings.top v c up down k b.settings.rate (aspect_set Interval i b.settings.detection)) b

  abbrev other_in : Core → Core
  other_in x = core (other x.body) x.course

  aimed_same : (t : Option ℕ) (way : Way) (n : Volume) (b : Body) → Same shape_of (aimed t way n (other b)) (aimed t way n b)
  unfolding aimed set_out
  aimed_same (Some exact) way n b = record { next = whichever shape_of (eqb b.plunger (goal_of exact)) _ _ _ _ refl refl; events = refl }
  aimed_same None way n b = record { next = refl; events = refl }

  -- B, and its ticks
  zeroed_same : (here : Bool) (p : Option ℕ) (b : Body) → Same shape_of (zeroed_of here p (other b)) (zeroed_of here p b)
  unfolding zeroed_of approach_of
  zeroed_same here None b = record { next = refl; events = refl }
  zeroed_same true (Some z) b = record { next = refl; events = refl }
  zeroed_same false (Some z) b = record { next = whichever shape_of (eqb b.plunger b.settings.detection.place) _ _ _ _ refl refl; events = refl }

  approached_same : (p : Option ℕ) (t : Travel) (z : ℕ) (b : Body) → Same shape_of (approached_of p t z (other b)) (approached_of p t z b)
  unfolding approached_of
  approached_same None t z b = record { next = refl; events = refl }
  approached_same (Some r) t z b = record { next = whichever shape_of (eqb b.plunger t.goal) _ _ _ _ refl refl; events = refl }

  found_same : (f : Finding) (b : Body) → Same shape_of (found_as f (other b)) (found_as f b)
  unfolding found_as
  found_same TooMuch b = record { next = refl; events = refl }
  found_same Finding.Found b = record { next = refl; events = refl }
  found_same Missed b = record { next = refl; events = refl }
  found_same (Finding.On f) b = record { next = refl; events = refl }

  sought_same : (d : Detection) (f : Search) (p : Option ℕ) → sought_of (aspect_set Interval i d) f p ≡ sought_of d f p
  unfolding sought_of plunger_in gone_in limit_of left_of finding_of counted_as count_with far
  sought_same d f None = refl
  sought_same d f (Some r) = refl

  set_same : (a : Aspect) (n : ℕ) (b : Body) → Same shape_of (quiet (set_to (detecting_of a n (other b).settings) (other b))) (quiet (set_to (detecting_of a n b.settings) b))
  set_same Threshold n b = record { next = refl; events = refl }
  set_same Duration n b = record { next = refl; events = refl }
  set_same Place n b = record { next = refl; events = refl }
  set_same Speed n b = record { next = refl; events = refl }
  set_same Most n b = record { next = refl; events = refl }
  set_same Mode n b = record { next = refl; events = refl }
  set_same Interval n b = record { next = refl; events = refl }

  -- v is above V in both or in neither
  abbrev AsBefore : Body → Type 0
  AsBefore b = ltb b.settings.top v ≡ ltb b.settings.top b.settings.start

  effect_same : (x : Command) (b : Body) → AsBefore b → Same shape_of (effect_of sense x (other b)) (effect_of sense x b)
  unfolding effect_of home_of move_of delay_of eject_of detect_of no_way_down
  effect_same (C.Initialise speed) b s = record { next = whichever shape_of (eqb b.plunger 0) _ _ _ _ refl refl; events = refl }
  effect_same (C.Move way n) b s =
      rw s
      (either shape_of b.initialised _ _ _ _
      (either shape_of (ltb b.settings.top b.settings.start) _ _ _ _
      (record { next = refl; events = refl })
      (aimed_same (target_of way (millionths_of n b.settings.rate) b.exact) way n b))
      (record { next = refl; events = refl }))
  effect_same (C.Speed Top n) b s = record { next = refl; events = refl }
  effect_same (C.Speed Start n) b s = record { next = refl; events = refl }
  effect_same (C.Speed Cutoff n) b s = record { next = refl; events = refl }
  effect_same (C.Slopes x y) b s = record { next = refl; events = refl }
  effect_same (C.Backlash n) b s = record { next = refl; events = refl }
  effect_same (C.Compensate n way) b s = record { next = refl; events = refl }
  effect_same (C.Delay ms) b s = record { next = whichever shape_of (eqb (ticks_of ms) 0) _ _ _ _ refl refl; events = refl }
  effect_same (C.Set a n) b s = set_same a n b
  effect_same (C.Detect here) b s =
      either shape_of b.initialised _ _ _ _
      (either shape_of (no_way_down b.settings.detection) _ _ _ _ (record { next = refl; events = refl }) (zeroed_same here (felt_in sense) b))
      (record { next = refl; events = refl })
  effect_same (C.Eject true) b s = record { next = whichever shape_of b.initialised _ _ _ _ refl refl; events = refl }
  effect_same (C.Eject false) b s = record { next = whichever shape_of sense.tip _ _ _ _ refl refl; events = refl }
  effect_same C.Open b s = record { next = refl; events = refl }
  effect_same (C.Close n) b s = record { next = refl; events = refl }

  carried_same : (kind : Travel → Activity) (known : Bool) (t : Travel) (b : Body) → shape_of (carried kind known t (other b)) ≡ shape_of (carried kind known t b)
  unfolding carried
  carried_same kind known t b = whichever shape_of (eqb (plunger_of t) t.goal) _ _ _ _ refl refl

  onward_same : (a : Activity) (b : Body) → Same shape_of (onward_of sense a (other b)) (onward_of sense a b)
  unfolding onward_of waited_of ejected_of searched_of
  onward_same (Initialising t) b = record { next = carried_same Initialising true (later_of t) b; events = refl }
  onward_same (Moving t) b = record { next = carried_same Moving b.initialised (later_of t) b; events = refl }
  onward_same (Delaying n) b = record { next = whichever shape_of (leb n 1) _ _ _ _ refl refl; events = refl }
  onward_same (Approaching t z) b = approached_same (felt_in sense) (later_of t) z (body_at (plunger_of (later_of t)) b)
  onward_same (Searching f) b =
      let t = sought_of b.settings.detection f (felt_in sense) in
      subst (λ (u : Sought). Same shape_of (found_as u.finding (body_at u.plunger (other b))) (found_as t.finding (body_at t.plunger b)))
      (sym (sought_same b.settings.detection f (felt_in sense)))
      (found_same t.finding (body_at t.plunger b))
  onward_same Ejecting b = record { next = whichever shape_of sense.tip _ _ _ _ refl refl; events = refl }
  onward_same Between b = record { next = refl; events = refl }

  went_same : (w : Result Course Refusal) (b : Body) (x : Course) → shape_behind (went_of w b x) ≡ went_of w (shape b) x
  went_same (Ok on) b x = refl
  went_same (Err why) b x = refl

  applied_shape : (e : Effect) (next : ℕ) (x : Core) → shape_behind (applied_of e next x) ≡ applied_of (shape_of e) next (shape_in x)
  unfolding applied_of
  applied_shape (Goes b a) next x = refl
  applied_shape (Ends b) next x = refl
  applied_shape (Fails why b) next x = refl
  applied_shape Asks next x = refl
  applied_shape Opens next x = went_same (opened_of next x.course) x.body x.course
  applied_shape (Closes n) next x = went_same (closed_of n next x.course) x.body x.course

  applied_same : (e f : Effect) (next : ℕ) (x : Core) → shape_of e ≡ shape_of f → shape_behind (applied_of e next (other_in x)) ≡ shape_behind (applied_of f next x)
  applied_same e f next x p = applied_shape e next (other_in x) ∙ ap (λ (g : Effect). applied_of g next (shape_in x)) p ∙ sym (applied_shape f next x)

  taken_same : (f : Found) (x : Core) → AsBefore x.body → Same shape_behind (taken_of sense f (other_in x)) (taken_of sense f x)
  unfolding taken_of
  taken_same (Ok (Some (y, next))) x h =
      let s = effect_same y x.body h in
      record { next = applied_same (effect_of sense y (other x.body)).next (effect_of sense y x.body).next next x s.next; events = s.events }
  taken_same (Err m) x h = record { next = refl; events = refl }
  taken_same (Ok None) x h = record { next = refl; events = refl }

  running_same : (a : Activity) (text : List ℕ) (x : Core) → AsBefore x.body → Same shape_behind (running_of a (around text sense) (other_in x)) (running_of a (around text sense) x)
  unfolding running_of carried_on
  running_same a text x h =
      let s = onward_same a x.body in
      either shape_behind (between a) _ _ _ _ (taken_same (command_at (take x.course.len text) x.course.at) x h)
      (record { next = applied_same (onward_of sense a (other x.body)).next (onward_of sense a x.body).next x.course.at x s.next; events = s.events })

  active_same : (s : State) (text : List ℕ) (x : Core) → AsBefore x.body → Same shape_behind (active_of s (around text sense) (other_in x)) (active_of s (around text sense) x)
  unfolding active_of
  active_same (Running a) text x h = running_same a text x h
  active_same Empty text x h = record { next = refl; events = refl }
  active_same Stored text x h = record { next = refl; events = refl }
  active_same Stopped text x h = record { next = refl; events = refl }
  active_same Done text x h = record { next = refl; events = refl }

-- two ticks that leave all but v, c, L, K and p6 the same: where the plunger is and is to be, what is in progress and how far, the run, V, C and the history
pub record SameMotion (t u : Turn Turned) : Type 0 where
  pub plunger : t.next.device.core.body.plunger ≡ u.next.device.core.body.plunger
  pub exact : t.next.device.core.body.exact ≡ u.next.device.core.body.exact
  pub initialised : t.next.device.core.body.initialised ≡ u.next.device.core.body.initialised
  pub speed : t.next.device.core.body.settings.top ≡ u.next.device.core.body.settings.top
  pub rate : t.next.device.core.body.settings.rate ≡ u.next.device.core.body.settings.rate
  pub course : t.next.device.core.course ≡ u.next.device.core.course
  pub news : t.next.news ≡ u.next.news
  pub events : t.events ≡ u.events

pub v_c_L_K_and_p6_do_not_shape_motion :
    (v c up down k i : ℕ) (s : Sense) (d : Device) → ltb d.core.body.settings.top v ≡ ltb d.core.body.settings.top d.core.body.settings.start →
    SameMotion (tick_of s (device d.text d.tip (core (body_set (settings_of d.core.body.settings.top v c up down k d.core.body.settings.rate (aspect_set Interval i d.core.body.settings.detection)) d.core.body) d.core.course))) (tick_of s d)
unfolding tick_of step_of
v_c_L_K_and_p6_do_not_shape_motion v c up down k i x d above =
    let s = active_same v c up down k i x d.core.course.state d.text d.core above in
    record {
      plunger = ap (λ (x : Stepped). x.core.body.plunger) s.next;
      exact = ap (λ (x : Stepped). x.core.body.exact) s.next;
      initialised = ap (λ (x : Stepped). x.core.body.initialised) s.next;
      speed = ap (λ (x : Stepped). x.core.body.settings.top) s.next;
      rate = ap (λ (x : Stepped). x.core.body.settings.rate) s.next;
      course = ap (λ (x : Stepped). x.core.course) s.next;
      news = ap (λ (x : Stepped). x.news) s.next;
      events = s.events;
    }
