-- 01, demand 3, for any calls from the fresh device: where the plunger stands, and that the exact position is the sum of the history.
use mathlib.Core.Path.{◌≡◌, refl, ap, ◌∙◌}
use mathlib.Core.Bool.{Bool, true, false}
use mathlib.Core.List.{List, [], ◌∷◌, ◌++◌}
use Prim.Native.Nat.{ℕ, zero, suc, ◌≤◌}
use native.Mathlib.Omega.{arith}
use lib.Dec.{ltb, eqb}
use lib.ListN.{replicate, length-replicate}
use Rattle.std.specs.Prelude.{if◌then◌else◌}
use Rattle.basics.proofs.Choice.{by}
use Rattle.settings.specs.Units.{Near}
use Rattle.motion.specs.declared.Sense.{Sense}
use Rattle.motion.specs.Events.{Event}
use Rattle.motion.specs.Motion.{fresh_body}
use Rattle.motion.proofs.Keeps.{fresh_ok}
use Rattle.machine.specs.declared.Device.{Device}
use Rattle.machine.specs.declared.Ran.{Ran}
use Rattle.machine.specs.Run.{ticks_of, used_of}
use Rattle.machine.specs.Valid.{Ready}
use Rattle.machine.specs.declared.step.News.{News}
use Rattle.machine.specs.Step.{around, no_news, both_of, stepped, fine, next_of}
use Rattle.machine.specs.Device.{device, fresh_of, tip_after, tick_of, halted_of, advance_of, ran_of}
use Rattle.machine.specs.History.{Call, call_of, after_of, events_of, after, history, Sum, sum, counted, added_up, sum_of, IsSum, StandsBy, moving}
use Rattle.machine.specs.History.Call.{tick, act, stop}
use Rattle.machine.proofs.Devices.{each_senses}
use Rattle.machine.proofs.Keeps.{step_keeps}
use Rattle.machine.proofs.KeepsActs.{act_keeps, stop_keeps}
use Rattle.machine.proofs.Position.{CoreTold, at_rest, step_tells, act_tells, stop_tells}

-- what every call keeps of a device, with the sum of its history
record Sound (d : Device) (s : Sum) : Type 0 where
  ready : Ready d.core d.text
  told : CoreTold d.core s

fresh_is_sound : Sound fresh_of.next (sum_of fresh_of.events)
unfolding fresh_of fresh_body sum_of added_up IsSum
fresh_is_sound =
    record {
      ready = record { valid = record { body = fresh_ok; course = record { len = omega arith; state = tt; error = omega arith } }; long = length-replicate {A = ℕ} 256 0 };
      told = record { sum = refl; near = omega arith };
    }

call_is_sound : (k : Call) (d : Device) (s : Sum) → Sound d s → Sound (call_of k d).next (added_up s (call_of k d).events)
unfolding call_of tick_of halted_of
call_is_sound (tick x) d s h =
    record {
      ready = record { valid = step_keeps d.core h.ready.valid (around d.text x); long = h.ready.long };
      told = step_tells d.core s h.told (around d.text x);
    }
call_is_sound (act a added) d s h = record { ready = act_keeps a added d h.ready; told = act_tells a added d s h.told }
call_is_sound stop d s h =
    record {
      ready = record { valid = stop_keeps d.core h.ready.valid; long = h.ready.long };
      told = stop_tells d.core s h.told;
    }

-- events after events are added to their sum
pub added_on : (s : Sum) (es fs : List Event) → added_up s (es ++ fs) ≡ added_up (added_up s es) fs
unfolding added_up
added_on s [] fs = refl
added_on s (e ∷ es) fs = added_on (counted s e) es fs

calls_are_sound : (ks : List Call) (d : Device) (s : Sum) → Sound d s → Sound (after_of ks d) (added_up s (events_of ks d))
unfolding after_of events_of added_up
calls_are_sound [] d s h = h
calls_are_sound (k ∷ ks) d s h =
    rw (added_on s (call_of k d).events (events_of ks (call_of k d).next))
    (calls_are_sound ks (call_of k d).next (added_up s (call_of k d).events) (call_is_sound k d s h))

sound : (calls : List Call) → Sound (after calls) (sum_of (history calls))
unfolding after history sum_of
sound calls =
    rw (added_on (sum 0 0 0) fresh_of.events (events_of calls fresh_of.next))
    (calls_are_sound calls fresh_of.next (added_up (sum 0 0 0) fresh_of.events) fresh_is_sound)

module _ (calls : List Call) where
  -- what a call asks of its device, every earlier call has left
  pub every_call_leaves_the_device_ready : Ready (after calls).core (after calls).text
  every_call_leaves_the_device_ready = (sound calls).ready

  pub the_plunger_stays_within_travel : (after calls).core.body.plunger ≤ 44000
  the_plunger_stays_within_travel = (sound calls).ready.valid.body.plunger

  -- "The exact position is worked out in whole numbers from that history, however long it is."
  pub the_exact_position_is_the_sum_of_the_history : IsSum (after calls).core.body.exact (sum_of (history calls))
  the_exact_position_is_the_sum_of_the_history = (sound calls).told.sum

  -- "Whenever no movement is in progress the plunger stands within half an increment of the exact position"
  pub the_plunger_stands_near_the_exact_position : moving (after calls).core.course.state ≡ false → Near (after calls).core.body.plunger (after calls).core.body.exact
  the_plunger_stands_near_the_exact_position still =
      rw (at_rest (after calls).core.course.state (after calls).core.body.plunger (after calls).core.body.exact still) at (sound calls).told.near

  -- both in one, of the plunger and the history alone
  pub the_plunger_stands_by_the_history : moving (after calls).core.course.state ≡ false → StandsBy (after calls).core.body.plunger (sum_of (history calls))
  unfolding IsSum
  the_plunger_stands_by_the_history still =
      let s = sum_of (history calls) in
      let near = the_plunger_stands_near_the_exact_position still in
      let is = the_exact_position_is_the_sum_of_the_history in
      record { above = omega arith; below = omega arith }

-- to advance by ticks is to call as many ticks, and to run is to call some
module _ (x : Sense) where
  ticks_called : (n : ℕ) (d : Device) (v : News) → after_of (replicate n (tick x)) d ≡ device d.text (tip_after n x d.tip) (ticks_of n (around d.text x) (stepped d.core v)).core
  unfolding after_of call_of tick_of ticks_of next_of
  ticks_called zero d v = refl
  ticks_called (suc n) d v =
      ticks_called n (call_of (tick x) d).next (both_of v (tick_of x d).next.news)
      ∙ ap (λ (t : Bool). device d.text t (ticks_of (suc n) (around d.text x) (stepped d.core v)).core) (once_sensed (eqb n 0) ∙ each_senses (suc n) x d.tip (λ e. absurd (omega arith)))
    where
      once_sensed : (b : Bool) → (if b then x.tip else x.tip) ≡ x.tip
      once_sensed true = refl
      once_sensed false = refl

  pub to_advance_is_to_call_ticks : (n : ℕ) (d : Device) → after_of (replicate n (tick x)) d ≡ (advance_of n x d).device
  unfolding advance_of
  to_advance_is_to_call_ticks n d = ticks_called n d no_news

  pub to_run_is_to_call_ticks : (n : ℕ) (d : Device) → (k : ℕ) × (after_of (replicate k (tick x)) d ≡ (ran_of n x d).turned.device)
  unfolding ran_of after_of
  to_run_is_to_call_ticks n d =
      let k = used_of n (around d.text x) (fine d.core) in
      by (λ (r : Ran). (k : ℕ) × (after_of (replicate k (tick x)) d ≡ r.turned.device)) (ltb 60000 n)
      (λ h. (0, refl))
      (λ h. (k, to_advance_is_to_call_ticks k d))
