-- Theorems: a host that makes a controller and then calls, in any order and as often as it likes, sees the methods, call for call; and memory that is no controller's stays so.
use mathlib.Core.Path.{◌≡◌, refl, sym, ap}
use mathlib.Core.Bool.{Bool, true, false, false≢true}
use mathlib.Core.List.{List, [], ◌∷◌}
use Prim.Native.Nat.{ℕ}
use lib.Dec.{ltb}
use lib.ListN.{length}
use Rattle.basics.proofs.Choice.{by}
use Rattle.line.specs.declared.Framing.{Framing}
use Rattle.line.specs.declared.Deed.{Deed}
use Rattle.line.specs.declared.Deed.TheVariants as W
use Rattle.line.specs.Wire.{hear_of, keep_of}
use Rattle.motion.specs.declared.Sense.{Sense}
use Rattle.buffer.specs.declared.course.State.{State}
use Rattle.buffer.specs.declared.course.State.TheVariants as S
use Rattle.motion.specs.declared.Activity.TheVariants.{Initialising, Moving, Delaying, Approaching, Searching, Ejecting, Between}
use Rattle.machine.specs.declared.Device.{Device}
use Rattle.machine.specs.declared.Turned.{Turned}
use Rattle.machine.specs.declared.Ran.{Ran}
use Rattle.machine.specs.declared.step.Core.{Core}
use Rattle.machine.specs.Step.{Around, around, fine, step_of, active_of}
use Rattle.machine.specs.Device.{turned, fresh_of, tick_of, halted_of, advance_of, ran_of}
use Rattle.pipettor.specs.declared.address.Address.{Address}
use Rattle.pipettor.specs.declared.Controller.{Controller}
use Rattle.pipettor.specs.Valid.{Valid}
use Rattle.pipettor.specs.Byte.{byte_of, heard_of, got_of, squeezed_of, dealt_of, performed_of, task_of, outcome_of, said_of, written_of}
use Rattle.pipettor.specs.Controller.{on, ticked, made_of, ticked_of, advanced_of, run_of, stopped_of}
use Rattle.pipettor.specs.Listening.{listened_of}
use Rattle.pipettor.proofs.Keeps.{Sized, made_is_valid, tick_keeps, stop_keeps_valid, advance_keeps, run_keeps, byte_keeps, byte_keeps_sizes, listen_keeps_valid, listen_keeps_sizes}
use Rattle.image.specs.Progress.{progress_of}
use Rattle.image.specs.Image.{small_of, idle}
use Rattle.host.specs.Host.{encode_of, received, moved, pose_of, address_held, news_code, spoke, spoken_of, turned_in, tick_in, run_in, stop_in, listen_in, ended_by, heard_by, byte_in}
use Rattle.host.specs.Session.{Call, byte, listen, tick, advance, run, stop, call_in, call_of, written_down, session_in, session_of}
use Rattle.std.proofs.lemmas.Bool.{and_parts}
use Rattle.host.proofs.Back.{line_held_lem, receiver_taken, device_held_lem, mover_taken, controller_held_lem, address_held_lem}

-- a tick while nothing runs
idle_steps : (st : State) (w : Around) (c : Core) → ltb (progress_of st).tag 4 ≡ true → (active_of st w c).next ≡ fine c
unfolding active_of
idle_steps S.Empty w c e = refl
idle_steps S.Stored w c e = refl
idle_steps S.Stopped w c e = refl
idle_steps S.Done w c e = refl
idle_steps (S.Running Between) w c e = absurd (false≢true e)
idle_steps (S.Running (Delaying n)) w c e = absurd (false≢true e)
idle_steps (S.Running (Initialising t)) w c e = absurd (false≢true e)
idle_steps (S.Running (Moving t)) w c e = absurd (false≢true e)
idle_steps (S.Running (Approaching t z)) w c e = absurd (false≢true e)
idle_steps (S.Running (Searching s)) w c e = absurd (false≢true e)
idle_steps (S.Running Ejecting) w c e = absurd (false≢true e)

idle_tick : (s : Sense) (d : Device) → idle (small_of (pose_of d)) ≡ true → (tick_of s d).next ≡ turned 1 s d (fine d.core)
unfolding idle tick_of step_of
idle_tick s d e = ap (turned 1 s d) (idle_steps d.core.course.state (around d.text s) d.core (and_parts _ _ e).0)

-- a call on what is written of a controller is the method, written
module _ (k : Controller) (v : Valid k) where
  ended_is : (b : ℕ) (buf : List ℕ) → ltb (length buf) 32 ≡ false → ended_by (address_held (encode_of k)) b buf (encode_of k) ≡ spoken_of (heard_of k b buf).next
  unfolding ended_by byte_of
  ended_is b buf h = rw (address_held_lem k, mover_taken k v, controller_held_lem k, h)

  by_deed :
      (b : ℕ) (buf : List ℕ) → ltb (length buf) 32 ≡ false → (d : Deed) → (hear_of k.line b).deed ≡ d →
      heard_by d (hear_of k.line b).line b buf (encode_of k) ≡ spoken_of (heard_of k b buf).next
  unfolding heard_by encode_of received heard_of keep_of got_of squeezed_of dealt_of performed_of task_of outcome_of said_of written_of
  by_deed b buf h W.Nothing e = rw e
  by_deed b buf h (W.Keep at) e = rw e
  by_deed b buf h (W.Frame a n) e = ended_is b buf h

  byte_is : (b : ℕ) (buf : List ℕ) → byte_in b buf (encode_of k) ≡ spoken_of (byte_of k b buf).next
  unfolding byte_of byte_in
  byte_is b buf = go (ltb (length buf) 32) refl
    where
      go : (x : Bool) → ltb (length buf) 32 ≡ x → byte_in b buf (encode_of k) ≡ spoken_of (byte_of k b buf).next
      go true h = rw h
      go false h = rw (h, receiver_taken k, line_held_lem k) (by_deed b buf h (hear_of k.line b).deed refl)

  listen_is : (bytes : List ℕ) → call_in (listen bytes) (encode_of k) ≡ written_down (call_of (listen bytes) k)
  unfolding call_in call_of listen_in listened_of encode_of received
  listen_is bytes = rw (receiver_taken k, line_held_lem k)

  tick_is : (s : Sense) → call_in (tick s) (encode_of k) ≡ written_down (call_of (tick s) k)
  unfolding call_in call_of tick_in turned_in ticked_of encode_of moved news_code
  tick_is s = go (idle (small_of (pose_of k.device))) refl
    where
      go : (b : Bool) → idle (small_of (pose_of k.device)) ≡ b → call_in (tick s) (encode_of k) ≡ written_down (call_of (tick s) k)
      go true h = rw h (ap (λ (t : Turned). spoke (encode_of (on t.device k)) [] (news_code 0 t.news)) (sym (idle_tick s k.device h)))
      go false h = rw (h, mover_taken k v, device_held_lem k)

  advance_is : (n : ℕ) (s : Sense) → call_in (advance n s) (encode_of k) ≡ written_down (call_of (advance n s) k)
  unfolding call_in call_of turned_in advanced_of encode_of
  advance_is n s = rw (mover_taken k v, device_held_lem k)

  run_is : (n : ℕ) (s : Sense) → call_in (run n s) (encode_of k) ≡ written_down (call_of (run n s) k)
  unfolding call_in call_of run_in run_of encode_of
  run_is n s = rw (mover_taken k v, device_held_lem k)

  stop_is : call_in stop (encode_of k) ≡ written_down (call_of stop k)
  unfolding call_in call_of stop_in stopped_of encode_of
  stop_is = rw (mover_taken k v, device_held_lem k)

  call_is : (c : Call) → call_in c (encode_of k) ≡ written_down (call_of c k)
  unfolding call_in call_of
  call_is (byte b buf) = byte_is b buf
  call_is (listen bytes) = listen_is bytes
  call_is (tick s) = tick_is s
  call_is (advance n s) = advance_is n s
  call_is (run n s) = run_is n s
  call_is stop = stop_is

-- what a call leaves can be called again
pub record Kept (k : Controller) : Type 0 where
  pub valid : Valid k
  pub sizes : Sized k

run_keeps_sizes : (n : ℕ) (s : Sense) (k : Controller) → Sized k → Sized (run_of n s k).ticked.controller
unfolding run_of ran_of advance_of
run_keeps_sizes n s k z =
    by (λ (r : Ran). Sized (ticked r.turned k).controller) (ltb 60000 n) (λ h. record { frame = z.frame; text = z.text }) (λ h. record { frame = z.frame; text = z.text })

call_kept : (c : Call) (k : Controller) → Kept k → Kept (call_of c k).controller
unfolding call_of ticked_of tick_of advanced_of advance_of stopped_of halted_of
call_kept (byte b buf) k h = record { valid = byte_keeps k b buf h.sizes.text h.valid; sizes = byte_keeps_sizes k b buf h.sizes h.valid }
call_kept (listen bytes) k h = record { valid = listen_keeps_valid k bytes h.valid; sizes = listen_keeps_sizes k bytes h.sizes }
call_kept (tick s) k h = record { valid = tick_keeps k h.valid s; sizes = record { frame = h.sizes.frame; text = h.sizes.text } }
call_kept (advance n s) k h = record { valid = advance_keeps k h.valid n s; sizes = record { frame = h.sizes.frame; text = h.sizes.text } }
call_kept (run n s) k h = record { valid = run_keeps k h.valid n s; sizes = run_keeps_sizes n s k h.sizes }
call_kept stop k h = record { valid = stop_keeps_valid k h.valid; sizes = record { frame = h.sizes.frame; text = h.sizes.text } }

session_is : (cs : List Call) (k : Controller) → Kept k → session_in cs (encode_of k) ≡ session_of cs k
unfolding session_in session_of
session_is [] k h = refl
session_is (c ∷ cs) k h = rw (call_is k h.valid c, session_is cs (call_of c k).controller (call_kept c k h))

made_is_kept : (f : Framing) (a : Address) → Kept (made_of f a).next
unfolding made_of fresh_of
made_is_kept f a = record { valid = made_is_valid f a; sizes = record { frame = refl; text = refl } }

-- from making, over any list of calls
pub a_host_sees_the_methods : (f : Framing) (a : Address) (cs : List Call) → session_in cs (encode_of (made_of f a).next) ≡ session_of cs (made_of f a).next
a_host_sees_the_methods f a cs = session_is cs (made_of f a).next (made_is_kept f a)
