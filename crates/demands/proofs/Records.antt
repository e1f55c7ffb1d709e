-- What each call adds to the history: `specs/Records`, proved of every controller.
use mathlib.Core.Path.{◌≡◌, refl, sym, ap, ◌∙◌}
use mathlib.Core.Bool.{Bool, true, false, true≢false, false≢true}
use mathlib.Core.List.{List, [], ◌∷◌}
use Prim.Native.Nat.{ℕ, ◌*◌}
use native.Mathlib.Omega.{arith}
use borrow.Author.Tests.{lt-ltb, le-ltb}
use lib.Dec.{ltb}
use Rattle.std.specs.Prelude.{None, Option, Some}
use Rattle.basics.proofs.Choice.{by}
use Rattle.settings.specs.declared.Volume.{Volume}
use Rattle.settings.specs.Limits.{travel_most}
use Rattle.command.specs.declared.refusal.Refusal.{Refusal}
use Rattle.command.specs.declared.Way.{Way}
use Rattle.command.specs.declared.Way.TheVariants.{To}
use Rattle.command.specs.declared.Command.{Command}
use Rattle.command.specs.declared.Command.TheVariants as C
use Rattle.text.specs.Data.{spaceless, control_of, data_of, received_of}
use Rattle.level.specs.declared.Finding.{Finding}
use Rattle.level.specs.Level.{sought_of}
use Rattle.motion.specs.declared.Sense.{Sense}
use Rattle.motion.specs.declared.Body.{Body}
use Rattle.motion.specs.declared.Travel.{Travel}
use Rattle.motion.specs.declared.Effect.{Effect}
use Rattle.motion.specs.declared.Effect.TheVariants.{Ends}
use Rattle.motion.specs.declared.Activity.TheVariants.{Initialising, Moving, Delaying, Approaching, Searching, Ejecting, Between}
use Rattle.motion.specs.Events.{start, Turn}
use Rattle.motion.specs.Bodies.{later_of, plunger_of, body_at}
use Rattle.motion.specs.Detect.{felt_in, place_for, zeroed_of, detect_of, ends_here, approached_of, found_as, searched_of}
use Rattle.motion.proofs.Moves.{approached_by, found_by}
use Rattle.motion.specs.Motion.{within, target_of, event_of, home_of, aimed, move_of, effect_of, onward_of, cut_of, reset_of, fresh_body}
use Rattle.buffer.specs.declared.course.State.{State}
use Rattle.buffer.specs.declared.course.State.TheVariants.{Empty, Stored, Running, Stopped, Done}
use Rattle.buffer.specs.Course.{reached}
use Rattle.buffer.specs.Order.{cell_of, loops_by, verdict_of}
use Rattle.machine.specs.Step.{applied_of, taken_of, carried_on, running_of, active_of, step_of, around}
use Rattle.machine.specs.Act.{halt_of, stop_of, changed_of, done_of, acted_of, act_of}
use Rattle.machine.specs.Device.{fresh_of, tick_of, halted_of}
use Rattle.machine.specs.History.{moving}
use Rattle.machine.specs.OnCourse.{Failing, uninitialised, steep, outside, tipless, unready, unknown, no_way, no_zero}
use Rattle.pipettor.specs.declared.Controller.{Controller}
use Rattle.pipettor.specs.Byte.{task_of, performed_of, dealt_of}
use Rattle.pipettor.specs.Controller.{made_of, ticked_of, stopped_of, framing_is}
use Rattle.frames.specs.Frame.{exchange_of}
use Rattle.frames.proofs.Controls.{every_frame_but_T_and_reset_adds_nothing}
use Rattle.demands.specs.Calls.{Making, events_of, after, history}
use Rattle.demands.specs.Demands.{Takes}
use Rattle.demands.specs.Records.{asked, CarriedOut, Detects, detecting, MovesNothing, plunger_at, Records, Recording}

-- a place within travel is the place asked for
place : Option ℕ → ℕ
place (Some exact) = exact
place None = 0

within_is : (by_it exact : ℕ) → within by_it ≡ Some exact → exact ≡ by_it
unfolding within place
within_is by_it exact =
    by (λ (t : Option ℕ). t ≡ Some exact → exact ≡ by_it) (ltb travel_most by_it)
    (λ h e. let z : ◌≡◌ {A = ℕ} 0 1 = cc in absurd (omega arith))
    (λ h e. sym (ap place e))

module _ (s : Sense) (k : Controller) where
  -- a tick that takes a command adds what the command adds
  taking : (command : Command) → Takes k command → (ticked_of s k).events ≡ (effect_of s command k.device.core.body).events
  unfolding ticked_of tick_of step_of active_of running_of taken_of
  taking command t = rw (t.between, t.found)

  move_adds : (way : Way) (v : Volume) (c : CarriedOut k way v) → (effect_of s (C.Move way v) k.device.core.body).events ≡ event_of way v k.device.core.body.settings.rate c.exact ∷ []
  unfolding effect_of move_of aimed
  move_adds way v c = rw (c.initialised, le-ltb k.device.core.body.settings.top k.device.core.body.settings.start c.flat, c.within)

  moving_adds : (way : Way) (v : Volume) (c : CarriedOut k way v) → (ticked_of s k).events ≡ event_of way v k.device.core.body.settings.rate c.exact ∷ []
  moving_adds way v c = taking (C.Move way v) c.takes ∙ move_adds way v c

  to_the_place : (v : Volume) (c : CarriedOut k To v) → c.exact ≡ asked k v
  unfolding target_of
  to_the_place v c = within_is (asked k v) c.exact c.within

  failing_adds : (command : Command) (why : Refusal) → Failing s command k.device.core.body why → (effect_of s command k.device.core.body).events ≡ []
  unfolding effect_of move_of aimed detect_of zeroed_of
  failing_adds command why (uninitialised way v e i) = rw (e, i)
  failing_adds command why (steep way v e i s) = rw (e, i, lt-ltb k.device.core.body.settings.top k.device.core.body.settings.start s)
  failing_adds command why (outside way v e i flat out) = rw (e, i, le-ltb k.device.core.body.settings.top k.device.core.body.settings.start flat, out)
  failing_adds command why (tipless e t) = rw e
  failing_adds command why (unready e i) = rw e
  failing_adds command why (unknown here e i) = rw (e, i)
  failing_adds command why (no_way here e i n) = rw (e, i, n)
  failing_adds command why (no_zero here e i n f) = rw (e, i, n, f)

  others_add : (command : Command) → MovesNothing command → (effect_of s command k.device.core.body).events ≡ []
  unfolding effect_of
  others_add (C.Initialise speed) h = absurd h
  others_add (C.Move way v) h = absurd h
  others_add (C.Speed pace n) h = refl
  others_add (C.Slopes up down) h = refl
  others_add (C.Backlash n) h = refl
  others_add (C.Compensate n down) h = refl
  others_add (C.Delay ms) h = refl
  others_add (C.Set a n) h = refl
  others_add (C.Detect here) h = absurd h
  others_add (C.Eject bare) h = refl
  others_add C.Open h = refl
  others_add (C.Close n) h = refl

  idle_adds : (x : State) → (x ≡ Running Between → ⊥) → detecting x ≡ false → (active_of x (around k.device.text s) k.device.core).events ≡ []
  unfolding active_of running_of carried_on onward_of
  idle_adds (Running (Initialising t)) h n = refl
  idle_adds (Running (Moving t)) h n = refl
  idle_adds (Running (Delaying j)) h n = refl
  idle_adds (Running (Approaching t z)) h n = absurd (true≢false n)
  idle_adds (Running (Searching f)) h n = absurd (true≢false n)
  idle_adds (Running Ejecting) h n = refl
  idle_adds (Running Between) h n = absurd (h refl)
  idle_adds Empty h n = refl
  idle_adds Stored h n = refl
  idle_adds Stopped h n = refl
  idle_adds Done h n = refl

  -- B
  detect_adds : (here : Bool) (d : Detects s k here) → (ticked_of s k).events ≡ (zeroed_of here (Some d.z) k.device.core.body).events
  unfolding effect_of detect_of
  detect_adds here d = taking (C.Detect here) d.takes ∙ rw (d.initialised, d.way, d.reading)

  zeroed_false : (z : ℕ) → (zeroed_of false (Some z) k.device.core.body).events ≡ start (place_for k.device.core.body) ∷ []
  unfolding zeroed_of
  zeroed_false z = refl

  zeroed_true : (z : ℕ) → (zeroed_of true (Some z) k.device.core.body).events ≡ []
  unfolding zeroed_of
  zeroed_true z = refl

  -- a tick of B: it goes on and adds nothing, or ends at the plunger
  abbrev Adds : Turn Effect → Type 0
  Adds e =
      let left = (applied_of e.next k.device.core.course.at k.device.core).core in
      (detecting left.course.state ≡ true → e.events ≡ []) × (detecting left.course.state ≡ false → e.events ≡ start (left.body.plunger * 1000000) ∷ [])

  ends_adds : (b : Body) → Adds (ends_here Ends b)
  unfolding applied_of reached
  ends_adds b =
      by (λ (x : State). (detecting x ≡ true → start (b.plunger * 1000000) ∷ [] ≡ []) × (detecting x ≡ false → start (b.plunger * 1000000) ∷ [] ≡ start (b.plunger * 1000000) ∷ []))
      (ltb k.device.core.course.at k.device.core.course.len)
      (λ _. ((λ h. absurd (false≢true h)), (λ h. refl)))
      (λ _. ((λ h. absurd (false≢true h)), (λ h. refl)))

  approached_adds : (p : Option ℕ) (t : Travel) (z : ℕ) (b : Body) → Adds (approached_of p t z b)
  unfolding applied_of
  approached_adds p t z b =
      approached_by Adds p t z b ((λ h. absurd (false≢true h)), (λ h. refl)) ((λ h. refl), (λ h. absurd (true≢false h))) ((λ h. refl), (λ h. absurd (true≢false h)))

  found_adds : (f : Finding) (b : Body) → Adds (found_as f b)
  unfolding applied_of
  found_adds f b = found_by Adds b (ends_adds b) (λ why. ((λ h. absurd (false≢true h)), (λ h. refl))) (λ x. ((λ h. refl), (λ h. absurd (true≢false h)))) f

  abbrev AddsIn : State → Type 0
  AddsIn x =
      let t = active_of x (around k.device.text s) k.device.core in
      (detecting t.next.core.course.state ≡ true → t.events ≡ []) × (detecting t.next.core.course.state ≡ false → t.events ≡ start (t.next.core.body.plunger * 1000000) ∷ [])

  B_adds : (x : State) → detecting x ≡ true → AddsIn x
  unfolding active_of running_of carried_on onward_of searched_of
  B_adds (Running (Initialising t)) h = absurd (false≢true h)
  B_adds (Running (Moving t)) h = absurd (false≢true h)
  B_adds (Running (Delaying n)) h = absurd (false≢true h)
  B_adds (Running (Approaching t z)) h = approached_adds (felt_in s) (later_of t) z (body_at (plunger_of (later_of t)) k.device.core.body)
  B_adds (Running (Searching f)) h = let t = sought_of k.device.core.body.settings.detection f (felt_in s) in found_adds t.finding (body_at t.plunger k.device.core.body)
  B_adds (Running Ejecting) h = absurd (false≢true h)
  B_adds (Running Between) h = absurd (false≢true h)
  B_adds Empty h = absurd (false≢true h)
  B_adds Stored h = absurd (false≢true h)
  B_adds Stopped h = absurd (false≢true h)
  B_adds Done h = absurd (false≢true h)

  cut_adds : (x : State) → moving x ≡ true → (halt_of x k.device.core).events ≡ start (plunger_at k) ∷ []
  unfolding halt_of cut_of
  cut_adds (Running a) h = rw h
  cut_adds Empty h = absurd (false≢true h)
  cut_adds Stored h = absurd (false≢true h)
  cut_adds Stopped h = absurd (false≢true h)
  cut_adds Done h = absurd (false≢true h)

  still_adds : (x : State) → moving x ≡ false → (halt_of x k.device.core).events ≡ []
  unfolding halt_of cut_of
  still_adds (Running a) h = rw h
  still_adds Empty h = refl
  still_adds Stored h = refl
  still_adds Stopped h = refl
  still_adds Done h = refl

  T_adds : (buf : List ℕ) → (exchange_of (framing_is k) (84 ∷ []) k.address k.device buf).events ≡ (stopped_of k).events
  unfolding exchange_of dealt_of received_of spaceless data_of control_of task_of performed_of act_of cell_of loops_by verdict_of acted_of done_of changed_of stopped_of halted_of
  T_adds buf = refl

  reset_adds : (buf : List ℕ) → (exchange_of (framing_is k) (33 ∷ 82 ∷ []) k.address k.device buf).events ≡ start (plunger_at k) ∷ []
  unfolding exchange_of dealt_of received_of spaceless data_of control_of task_of performed_of act_of cell_of loops_by verdict_of acted_of done_of changed_of reset_of
  reset_adds buf = refl

  home_adds : (speed : ℕ) → (effect_of s (C.Initialise speed) k.device.core.body).events ≡ start 0 ∷ []
  unfolding effect_of home_of
  home_adds speed = refl

  every_controller_records : Records s k
  unfolding ticked_of tick_of step_of stopped_of halted_of stop_of
  every_controller_records = record {
    W_starts_it_at_0 = λ speed t. taking (C.Initialise speed) t ∙ home_adds speed;
    A_starts_it_at_the_place_asked_for = λ v c. moving_adds To v c ∙ ap (λ (e : ℕ). start e ∷ []) (to_the_place v c);
    P_adds_its_volume = λ v c. moving_adds _ v c;
    D_takes_its_volume_away = λ v c. moving_adds _ v c;
    a_command_that_fails_adds_nothing = λ command why t h. taking command t ∙ failing_adds command why h;
    any_other_command_adds_nothing = λ command t h. taking command t ∙ others_add command h;
    B0_starts_it_at_p2 = λ d. detect_adds false d ∙ zeroed_false d.z;
    B1_adds_nothing = λ d. detect_adds true d ∙ zeroed_true d.z;
    B_that_goes_on_adds_nothing = λ h. (B_adds k.device.core.course.state h).0;
    the_end_of_B_starts_it_at_the_plunger = λ h. (B_adds k.device.core.course.state h).1;
    any_other_tick_that_takes_no_command_adds_nothing = λ h. idle_adds k.device.core.course.state h;
    a_cut_starts_it_at_the_plunger = λ h. cut_adds k.device.core.course.state h;
    a_stop_without_movement_adds_nothing = λ h. still_adds k.device.core.course.state h;
    T_stops = T_adds;
    a_reset_starts_it_at_the_plunger = reset_adds;
    every_other_frame_adds_nothing = λ ds buf p r. every_frame_but_T_and_reset_adds_nothing k.address k.device (framing_is k) buf ds p r;
  }

made : (a : Making) → history a [] ≡ start 0 ∷ []
unfolding history events_of made_of fresh_of fresh_body
made a = refl

pub the_history_records : Recording
the_history_records = record { making_starts_it_at_0 = made; calling = λ a calls s. every_controller_records s (after a calls) }
