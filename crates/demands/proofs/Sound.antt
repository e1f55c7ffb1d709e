-- What every controller keeps that comes from making and any calls: the premise of every call, the sum of its history, its course, and what W has cleared.
use mathlib.Core.Path.{refl}
use mathlib.Core.List.{List, [], ◌∷◌}
use Prim.Native.Nat.{ℕ, zero, suc}
use native.Mathlib.Omega.{arith}
use lib.Dec.{ltb}
use lib.ListN.{replicate, length-replicate}
use Rattle.basics.proofs.Choice.{by}
use Rattle.motion.specs.declared.Sense.{Sense}
use Rattle.motion.specs.Events.{Turn}
use Rattle.motion.specs.Motion.{fresh_body}
use Rattle.machine.specs.declared.Device.{Device}
use Rattle.machine.specs.declared.Ran.{Ran}
use Rattle.machine.specs.Step.{around}
use Rattle.machine.specs.Valid.{Ready}
use Rattle.machine.specs.Device.{fresh_of, tick_of, halted_of, advance_of, ran_of}
use Rattle.machine.proofs.History.{added_on, to_advance_is_to_call_ticks}
use Rattle.machine.specs.History as Machine
use Rattle.machine.specs.History.{Sum, sum, added_up, sum_of, IsSum}
use Rattle.machine.specs.OnCourse.{OnCourse}
use Rattle.machine.proofs.Keeps.{step_keeps}
use Rattle.machine.proofs.Position.{CoreTold, step_tells, act_tells, stop_tells}
use Rattle.machine.proofs.Homing.{Homes, a_call_keeps_homing}
use Rattle.machine.proofs.OnCourse.{a_call_keeps_on_course, the_fresh_device_is_on_course}
use Rattle.pipettor.specs.declared.Controller.{Controller}
use Rattle.pipettor.specs.Valid.{Valid}
use Rattle.pipettor.specs.Controller.{on, made_of, ticked_of, stopped_of, advanced_of, run_of}
use Rattle.pipettor.proofs.Keeps.{Sized, made_is_valid, tick_keeps, stop_keeps_valid, advance_keeps, run_keeps, byte_keeps, byte_keeps_sizes, listen_keeps_valid, listen_keeps_sizes}
use Rattle.demands.specs.Calls.{Making, made, Call, byte, listen, tick, stop, advance, run, ticks_events, call_of, after_of, events_of, after, history}
use Rattle.demands.proofs.Does.{Does, none, new_error, call, ticks, every_call_does}

-- the exact position stays the sum of the history, and the plunger by it or on its way
call_tells : (k : Machine.Call) (d : Device) (s : Sum) → CoreTold d.core s → (let t = Machine.call_of k d in CoreTold t.next.core (added_up s t.events))
unfolding Machine.call_of tick_of halted_of
call_tells (Machine.tick x) d s told = step_tells d.core s told (around d.text x)
call_tells (Machine.act a added) d s told = act_tells a added d s told
call_tells Machine.stop d s told = stop_tells d.core s told

-- ticks are as many calls of one
ticks_tell : (n : ℕ) (x : Sense) (d : Device) (s : Sum) → CoreTold d.core s → CoreTold (Machine.after_of (replicate n (Machine.tick x)) d).core (added_up s (ticks_events n x d))
unfolding ticks_events Machine.after_of Machine.events_of added_up
ticks_tell zero x d s told = told
ticks_tell (suc n) x d s told =
    let t = Machine.call_of (Machine.tick x) d in
    rw (added_on s t.events (ticks_events n x t.next))
    (ticks_tell n x t.next (added_up s t.events) (call_tells (Machine.tick x) d s told))

does_tell : (d : Device) (s : Sum) (t : Turn Device) → Does d t → CoreTold d.core s → CoreTold t.next.core (added_up s t.events)
unfolding added_up
does_tell d s t none told = told
does_tell d s t (new_error why) told = told
does_tell d s t (call k sent) told = call_tells k d s told
does_tell d s t (ticks n x) told = rw (to_advance_is_to_call_ticks x n d) at (ticks_tell n x d s told)

-- the course is kept
ticks_keep_on_course : (n : ℕ) (x : Sense) (d : Device) → Ready d.core d.text → OnCourse d → OnCourse (Machine.after_of (replicate n (Machine.tick x)) d)
unfolding Machine.after_of Machine.call_of tick_of
ticks_keep_on_course zero x d r o = o
ticks_keep_on_course (suc n) x d r o =
    ticks_keep_on_course n x (Machine.call_of (Machine.tick x) d).next
    (record { valid = step_keeps d.core r.valid (around d.text x); long = r.long })
    (a_call_keeps_on_course (Machine.tick x) d r tt o)

does_keep_on_course : (d : Device) (t : Turn Device) → Does d t → Ready d.core d.text → OnCourse d → OnCourse t.next
does_keep_on_course d t none r o = o
does_keep_on_course d t (new_error why) r o = o
does_keep_on_course d t (call k sent) r o = a_call_keeps_on_course k d r sent o
does_keep_on_course d t (ticks n x) r o = rw (to_advance_is_to_call_ticks x n d) at (ticks_keep_on_course n x d r o)

-- while W is in progress the plunger is not initialised
ticks_keep_homing : (n : ℕ) (x : Sense) (d : Device) → Homes d.core → Homes (Machine.after_of (replicate n (Machine.tick x)) d).core
unfolding Machine.after_of
ticks_keep_homing zero x d h = h
ticks_keep_homing (suc n) x d h = ticks_keep_homing n x (Machine.call_of (Machine.tick x) d).next (a_call_keeps_homing (Machine.tick x) d h)

does_keep_homing : (d : Device) (t : Turn Device) → Does d t → Homes d.core → Homes t.next.core
does_keep_homing d t none h = h
does_keep_homing d t (new_error why) h = h
does_keep_homing d t (call k sent) h = a_call_keeps_homing k d h
does_keep_homing d t (ticks n x) h = rw (to_advance_is_to_call_ticks x n d) at (ticks_keep_homing n x d h)

-- the premise of every call, and the lengths of the arrays
pub call_keeps_valid : (c : Call) (k : Controller) → Sized k → Valid k → Valid (call_of c k).next
unfolding call_of
call_keeps_valid (byte b l) k s v = byte_keeps k b l.buffer s.text v
call_keeps_valid (listen bytes) k s v = listen_keeps_valid k bytes v
call_keeps_valid (tick x) k s v = tick_keeps k v x
call_keeps_valid stop k s v = stop_keeps_valid k v
call_keeps_valid (advance n x) k s v = advance_keeps k v n x
call_keeps_valid (run n x) k s v = run_keeps k v n x

pub call_keeps_sized : (c : Call) (k : Controller) → Sized k → Valid k → Sized (call_of c k).next
unfolding call_of ticked_of tick_of stopped_of halted_of advanced_of advance_of run_of ran_of
call_keeps_sized (byte b l) k s v = byte_keeps_sizes k b l.buffer s v
call_keeps_sized (listen bytes) k s v = listen_keeps_sizes k bytes s
call_keeps_sized (tick x) k s v = record { frame = s.frame; text = s.text }
call_keeps_sized stop k s v = record { frame = s.frame; text = s.text }
call_keeps_sized (advance n x) k s v = record { frame = s.frame; text = s.text }
call_keeps_sized (run n x) k s v =
    by (λ (r : Ran). Sized (on r.turned.device k)) (ltb 60000 n)
    (λ h. record { frame = s.frame; text = s.text })
    (λ h. record { frame = s.frame; text = s.text })

pub made_is_sized : (a : Making) → Sized (made a).next
unfolding made_of fresh_of
made_is_sized a = record { frame = length-replicate {A = ℕ} 320 0; text = length-replicate {A = ℕ} 256 0 }

-- all of it, over any calls from making
pub record Sound (k : Controller) (s : Sum) : Type 0 where
  pub valid : Valid k
  pub sized : Sized k
  pub told : CoreTold k.device.core s
  pub on_course : OnCourse k.device
  pub homes : Homes k.device.core

made_is_sound : (a : Making) → Sound (made a).next (sum_of (made a).events)
unfolding made_of fresh_of fresh_body sum_of added_up IsSum
made_is_sound a =
    record { valid = made_is_valid a.framing a.address; sized = made_is_sized a; told = record { sum = refl; near = omega arith }; on_course = the_fresh_device_is_on_course; homes = tt }

call_keeps_sound : (c : Call) (k : Controller) (s : Sum) → Sound k s → Sound (call_of c k).next (added_up s (call_of c k).events)
call_keeps_sound c k s h =
    let does = every_call_does c k in
    record {
      valid = call_keeps_valid c k h.sized h.valid;
      sized = call_keeps_sized c k h.sized h.valid;
      told = does_tell k.device s _ does h.told;
      on_course = does_keep_on_course k.device _ does (record { valid = h.valid.core; long = h.sized.text }) h.on_course;
      homes = does_keep_homing k.device _ does h.homes;
    }

calls_keep_sound : (cs : List Call) (k : Controller) (s : Sum) → Sound k s → Sound (after_of cs k) (added_up s (events_of cs k))
unfolding after_of events_of added_up
calls_keep_sound [] k s h = h
calls_keep_sound (c ∷ cs) k s h =
    let t = call_of c k in
    rw (added_on s t.events (events_of cs t.next))
    (calls_keep_sound cs t.next (added_up s t.events) (call_keeps_sound c k s h))

pub every_controller_is_sound : (a : Making) (calls : List Call) → Sound (after a calls) (sum_of (history a calls))
unfolding after history sum_of
every_controller_is_sound a calls =
    let m = made a in
    rw (added_on (sum 0 0 0) m.events (events_of calls m.next))
    (calls_keep_sound calls m.next (sum_of m.events) (made_is_sound a))
