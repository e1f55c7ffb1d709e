-- Every call on a controller is, on its device, nothing, a new last error, a call of the machine, or so many ticks; and a string that comes with a call reads.
use mathlib.Core.Path.{◌≡◌, refl, sym}
use mathlib.Core.Bool.{Bool, true, false}
use mathlib.Core.List.{List, [], ◌∷◌}
use Prim.Native.Nat.{ℕ, zero, suc, ◌+◌, ◌≤◌, ◌<◌}
use native.Mathlib.Omega.{arith}
use borrow.Author.Tests.{eqb-true}
use lib.Dec.{ltb, eqb}
use lib.ListN.{length, take, drop}
use lib.Seq.{length-take-le, take-append-le}
use Rattle.std.specs.Prelude.{if◌then◌else◌, None, Ok, Option, Some}
use Rattle.basics.specs.Lay.{over}
use Rattle.basics.proofs.Choice.{by}
use Rattle.command.specs.declared.refusal.Refusal.{Refusal}
use Rattle.command.specs.declared.refusal.Refusal.TheVariants as R
use Rattle.command.specs.Numbers.{refusal_number, refusal_column}
use Rattle.text.specs.declared.Data.{Data}
use Rattle.text.specs.declared.Data.TheVariants as D
use Rattle.text.specs.declared.Control.{Control}
use Rattle.text.specs.declared.Control.TheVariants.{Run, Stop, Again, Clear, Reset}
use Rattle.text.specs.Text.{Step, Reading, reads, wrong, read_of, verdict, check_of}
use Rattle.text.specs.Data.{spaceless, body, control_of, data_of}
use Rattle.text.proofs.Strings.{a_text_stands_in_front}
use Rattle.line.specs.declared.Deed.{Deed}
use Rattle.line.specs.declared.Deed.TheVariants as W
use Rattle.line.specs.Wire.{hear_of, keep_of}
use Rattle.motion.specs.declared.Sense.{Sense}
use Rattle.motion.specs.Events.{Turn, quiet}
use Rattle.machine.specs.declared.Device.{Device}
use Rattle.machine.specs.declared.Ran.{Ran}
use Rattle.machine.specs.Run.{used_of}
use Rattle.machine.specs.Act.{core_error}
use Rattle.machine.specs.Step.{around, fine}
use Rattle.machine.specs.Device.{device, advance_of, ran_of}
use Rattle.machine.specs.History as Machine
use Rattle.machine.specs.OnCourse.{Loaded, SentBy}
use Rattle.pipettor.specs.declared.Controller.{Controller}
use Rattle.pipettor.specs.Address.{letter_of}
use Rattle.pipettor.specs.Byte.{After, fetched_of, squeezed_in, got_of, squeezed_of, action_of, string_action, task_of, size_of, performed_of, dealt_of, heard_of, byte_of}
use Rattle.pipettor.specs.Listening.{listened_of}
use Rattle.pipettor.specs.Controller.{ticked_of, stopped_of, advanced_of, run_of}
use Rattle.demands.specs.Calls as Calls
use Rattle.demands.specs.Calls.{Call, ticks_events, ticks_used, call_of}

-- what a call does to a device
pub data Does (d : Device) : Turn Device → Type 0 where
  none : Does d (quiet d)
  new_error : (why : Refusal) → Does d (quiet (device d.text d.tip (core_error (refusal_number why) (refusal_column why) d.core)))
  call : (k : Machine.Call) → SentBy k → Does d (Machine.call_of k d)
  ticks : (n : ℕ) (s : Sense) → Does d (record { next = (advance_of n s d).device; events = ticks_events n s d })

-- a text that stands in front of data reads, and isn't empty
reading_of : (t : List ℕ) (r : Reading) → read_of t ≡ r → verdict r ≡ Ok tt → (steps : List Step) × (read_of t ≡ reads steps)
reading_of t (reads steps) e v = (steps, e)
reading_of t (wrong r) e v = let z : ◌≡◌ {A = ℕ} 0 1 = cc in absurd (omega arith)

module _ (n : ℕ) (run : Bool) where
  never_R : data_of (82 ∷ []) ≡ D.Text n run → ⊥
  unfolding data_of control_of
  never_R e = let z : ◌≡◌ {A = ℕ} 0 1 = cc in omega arith

  some_body : (t : List ℕ) → data_of t ≡ D.Text n run → body t ≡ [] → ⊥
  unfolding body data_of
  some_body [] e = λ q. let z : ◌≡◌ {A = ℕ} 0 1 = cc in omega arith
  some_body (b ∷ []) e =
      by (λ (x : List ℕ). x ≡ [] → ⊥) (eqb b 82)
      (λ h q. never_R (rw (eqb-true b 82 h) at e))
      (λ h q. let z : ◌≡◌ {A = ℕ} 0 1 = cc in omega arith)
  some_body (b ∷ c ∷ t) e = λ q. let z : ◌≡◌ {A = ℕ} 0 1 = cc in omega arith

  some_text : (t : List ℕ) → data_of t ≡ D.Text n run → (m : ℕ) → n ≡ m → 0 < m
  some_text t e zero p = absurd (some_body t e (sym (rw p at (a_text_stands_in_front n run t e).front)))
  some_text t e (suc m) p = omega arith

  a_text_in_front_is_loaded : (t : List ℕ) → data_of t ≡ D.Text n run → Loaded (take n t)
  unfolding check_of
  a_text_in_front_is_loaded t e =
      let w = a_text_stands_in_front n run t e in
      let (steps, reading) = reading_of (take n t) (read_of (take n t)) refl w.good in
      record { steps = steps; reading = reading; some = rw (length-take-le n t w.short) (some_text t e n refl) }

-- what stands in front of squeezed data
front_of_squeezed : (n : ℕ) (t frame : List ℕ) → n ≤ length t → take n (over t 0 frame) ≡ take n t
unfolding over
front_of_squeezed n t frame h = take-append-le n t (drop (0 + length t) frame) h

abbrev Brings : Option Data → List ℕ → Type 0
Brings None added = Unit {0}
Brings (Some (D.Report q)) added = Unit {0}
Brings (Some D.WrongReport) added = Unit {0}
Brings (Some (D.Control c)) added = Unit {0}
Brings (Some (D.Text n run)) added = Loaded added
Brings (Some (D.Wrong r)) added = Unit {0}
Brings (Some D.TooLong) added = Unit {0}

data_brings : (t frame : List ℕ) (d : Data) → data_of t ≡ d → Brings (Some d) (take (size_of (Some d)) (over t 0 frame))
data_brings t frame (D.Report q) e = tt
data_brings t frame D.WrongReport e = tt
data_brings t frame (D.Control c) e = tt
data_brings t frame (D.Text n run) e =
    let w = a_text_stands_in_front n run t e in
    rw (front_of_squeezed n t frame w.short) (a_text_in_front_is_loaded n run t e)
data_brings t frame (D.Wrong r) e = tt
data_brings t frame D.TooLong e = tt

got_brings : (ours : ℕ) (deed : Deed) (frame : List ℕ) → (let g = got_of ours deed frame in Brings g (take (size_of g) (squeezed_of ours deed frame)))
unfolding got_of squeezed_of fetched_of squeezed_in
got_brings ours W.Nothing frame = tt
got_brings ours (W.Keep at) frame = tt
got_brings ours (W.Frame a n) frame = go (eqb a ours) (ltb 320 n)
  where
    t : List ℕ
    t = spaceless (take n frame)

    go :
        (x y : Bool) →
        (let g = if x then (if y then Some D.TooLong else Some (data_of t)) else None in
        Brings g (take (size_of g) (if x then (if y then frame else over t 0 frame) else frame)))
    go true true = tt
    go true false = data_brings t frame (data_of t) refl
    go false y = tt

-- what a frame does to a device, by what it brings
module _ (d : Device) where
  abbrev outcome : Option Data → List ℕ → Turn Device
  outcome g added = let t = performed_of (task_of g) added d in record { next = t.next.device; events = t.events }

  control_sent : (c : Control) (added : List ℕ) → SentBy (Machine.act (action_of c) added)
  control_sent Run added = tt
  control_sent Stop added = tt
  control_sent Again added = tt
  control_sent Clear added = tt
  control_sent Reset added = tt

  string_sent : (run : Bool) (added : List ℕ) → Loaded added → SentBy (Machine.act (string_action run) added)
  string_sent true added l = l
  string_sent false added l = l

  frame_does : (g : Option Data) (added : List ℕ) → Brings g added → Does d (outcome g added)
  unfolding task_of performed_of Machine.call_of
  frame_does None added b = none
  frame_does (Some (D.Report q)) added b = none
  frame_does (Some D.WrongReport) added b = none
  frame_does (Some (D.Control c)) added b = call (Machine.act (action_of c) added) (control_sent c added)
  frame_does (Some (D.Text n run)) added b = call (Machine.act (string_action run) added) (string_sent run added b)
  frame_does (Some (D.Wrong m)) added b = new_error (R.Misread m)
  frame_does (Some D.TooLong) added b = new_error R.TooLong

-- every call
abbrev on_device : Turn Controller → Turn Device
on_device t = record { next = t.next.device; events = t.events }

pub every_call_does : (c : Call) (k : Controller) → Does k.device (on_device (call_of c k))
unfolding call_of byte_of heard_of dealt_of listened_of ticked_of stopped_of advanced_of run_of ran_of ticks_events Machine.call_of Machine.events_of
every_call_does (Calls.byte b l) k =
    let deed = (hear_of k.line b).deed in
    let frame = keep_of k.frame deed b in
    let ours = letter_of k.address in
    let g = got_of ours deed frame in
    by (λ (t : Turn After). Does k.device (record { next = t.next.reply.controller.device; events = t.events })) (ltb (length l.buffer) 32)
    (λ h. none)
    (λ h. frame_does k.device g (take (size_of g) (squeezed_of ours deed frame)) (got_brings ours deed frame))
every_call_does (Calls.listen bytes) k = none
every_call_does (Calls.tick s) k = call (Machine.tick s) tt
every_call_does Calls.stop k = call Machine.stop tt
every_call_does (Calls.advance n s) k = ticks n s
every_call_does (Calls.run n s) k =
    by (λ (r : Ran). Does k.device (record { next = r.turned.device; events = ticks_events (ticks_used r.used) s k.device })) (ltb 60000 n)
    (λ h. none)
    (λ h. ticks (used_of n (around k.device.text s) (fine k.device.core)) s)
