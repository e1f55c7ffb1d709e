-- Theorems of 02, W-203: "?31 reports the tip of the last tick, 0 before any; reset leaves it"; no frame changes it, nor does it change what any frame but a ?31 does.
use mathlib.Core.Path.{◌≡◌, refl, ap}
use mathlib.Core.Bool.{Bool, true, false}
use mathlib.Core.List.{List}
use Prim.Native.Nat.{ℕ}
use lib.Dec.{eqb, ltb}
use lib.ListN.{length, take}
use Rattle.std.specs.Prelude.{if◌then◌else◌, None, Option, Some}
use Rattle.text.specs.declared.Data.{Data}
use Rattle.line.specs.declared.Report.{Report}
use Rattle.command.specs.Verdict.{Verdict}
use Rattle.basics.proofs.Choice.{by}
use Rattle.text.specs.declared.Question.TheVariants as Q
use Rattle.text.specs.declared.Data.TheVariants as D
use Rattle.line.specs.declared.Framing.{Framing}
use Rattle.line.specs.Wire.{framing_of, hear_of, keep_of}
use Rattle.motion.specs.declared.Sense.{Sense}
use Rattle.motion.specs.declared.Body.{Body}
use Rattle.motion.specs.Events.{Turn}
use Rattle.buffer.specs.declared.course.State.{State}
use Rattle.machine.specs.declared.step.Core.{Core}
use Rattle.machine.specs.declared.Device.{Device}
use Rattle.machine.specs.Act.{Acted, act_of}
use Rattle.machine.specs.Device.{fresh_of, tick_of, halted_of}
use Rattle.reports.specs.Reports.{value_of, tell_of}
use Rattle.pipettor.specs.declared.address.Address.{Address}
use Rattle.pipettor.specs.declared.acting.Task.{Task}
use Rattle.pipettor.specs.declared.acting.Task.TheVariants as T
use Rattle.pipettor.specs.declared.Controller.{Controller}
use Rattle.pipettor.specs.Address.{letter_of}
use Rattle.pipettor.specs.Byte.{After, after, reply, Exchange, got_of, squeezed_of, task_of, size_of, performed_of, outcome_of, told_code, dealt_of, heard_of, byte_of}
use Rattle.pipettor.specs.Controller.{made_of, ticked_of, stopped_of}
use Rattle.frames.specs.Tips.{with_tip, tipped, tipped_after, asks_tip, completes_tip}

-- what is done with another tip: the same, but for the tip
abbrev tipped_acted : Bool → Turn Acted → Turn Acted
tipped_acted t a = record { next = record { device = with_tip t a.next.device; verdict = a.next.verdict }; events = a.events }

performed_tipped : (x : Task) (added : List ℕ) (t : Bool) (d : Device) → performed_of x added (with_tip t d) ≡ tipped_acted t (performed_of x added d)
unfolding performed_of act_of
performed_tipped T.Leave added t d = refl
performed_tipped (T.Refuse why) added t d = refl
performed_tipped (T.Act action) added t d = refl

-- a frame leaves the tip as it was
performed_keeps_tip : (x : Task) (added : List ℕ) (d : Device) → (performed_of x added d).next.device.tip ≡ d.tip
unfolding performed_of act_of
performed_keeps_tip T.Leave added d = refl
performed_keeps_tip (T.Refuse why) added d = refl
performed_keeps_tip (T.Act action) added d = refl

-- what is answered with another tip: the same, but to a ?31
value_tipped : (n : ℕ) (t u : Bool) (b : Body) (s : State) → eqb n 31 ≡ false → value_of n t b s ≡ value_of n u b s
unfolding value_of
value_tipped n t u b s h = rw h

outcome_tipped : (g : Option Data) (a : Address) (v : Verdict) (t u : Bool) (c : Core) → asks_tip g ≡ false → outcome_of g a v t c ≡ outcome_of g a v u c
unfolding outcome_of tell_of
outcome_tipped (Some (D.Report (Q.Value n))) a v t u c h = ap (λ (x : Option Report). told_code x c.course.error) (value_tipped n t u c.body c.course.state h)
outcome_tipped (Some (D.Report (Q.Query n))) a v t u c h = refl
outcome_tipped (Some (D.Report Q.Address)) a v t u c h = refl
outcome_tipped (Some D.WrongReport) a v t u c h = refl
outcome_tipped (Some (D.Control k)) a v t u c h = refl
outcome_tipped (Some (D.Text n run)) a v t u c h = refl
outcome_tipped (Some (D.Wrong m)) a v t u c h = refl
outcome_tipped (Some D.TooLong) a v t u c h = refl
outcome_tipped None a v t u c h = refl

-- what a frame does to the device, whatever it asks
module _ (f : Framing) (g : Option Data) (added : List ℕ) (a : Address) (t : Bool) (d : Device) (buf : List ℕ) where
  dealt_device : (dealt_of f g added a (with_tip t d) buf).next.device ≡ with_tip t (dealt_of f g added a d buf).next.device
  unfolding dealt_of
  dealt_device = ap (λ (x : Turn Acted). x.next.device) (performed_tipped (task_of g) added t d)

  dealt_events : (dealt_of f g added a (with_tip t d) buf).events ≡ (dealt_of f g added a d buf).events
  unfolding dealt_of
  dealt_events = ap (λ (x : Turn Acted). x.events) (performed_tipped (task_of g) added t d)

  -- and what it answers
  abbrev tipped_exchange : Turn Exchange → Turn Exchange
  tipped_exchange e = record { next = record { device = with_tip t e.next.device; said = e.next.said; buffer = e.next.buffer }; events = e.events }

  dealt_tipped : asks_tip g ≡ false → dealt_of f g added a (with_tip t d) buf ≡ tipped_exchange (dealt_of f g added a d buf)
  unfolding dealt_of
  dealt_tipped h = rw (performed_tipped (task_of g) added t d, outcome_tipped g a (performed_of (task_of g) added d).next.verdict t d.tip d.core h)

-- what holds of both ways of a choice
pub both_ways : {A B : Type 0} (f : A → B) (g : A → B) (x : Bool) (p q r s : A) → f p ≡ g r → f q ≡ g s → f (if x then p else q) ≡ g (if x then r else s)
both_ways f g true p q r s h l = h
both_ways f g false p q r s h l = l

module _ (k : Controller) (b : ℕ) (buf : List ℕ) where
  -- what the byte brings
  abbrev frame : List ℕ
  frame = keep_of k.frame (hear_of k.line b).deed b

  abbrev got : Option Data
  got = got_of (letter_of k.address) (hear_of k.line b).deed frame

  abbrev squeezed : List ℕ
  squeezed = squeezed_of (letter_of k.address) (hear_of k.line b).deed frame

  abbrev holding : Device → Controller
  holding d = record { address = k.address; line = (hear_of k.line b).line; frame = squeezed; device = d }

  -- a byte, whatever it completes
  pub another_tip_leaves_the_controller : (t : Bool) → (byte_of (tipped t k) b buf).next.reply.controller ≡ tipped t (byte_of k b buf).next.reply.controller
  unfolding byte_of heard_of
  another_tip_leaves_the_controller t =
      both_ways (λ (a : Turn After). a.next.reply.controller) (λ (a : Turn After). tipped t a.next.reply.controller) (ltb (length buf) 32) _ _ _ _ refl
      (ap holding (dealt_device (framing_of k.line) got (take (size_of got) squeezed) k.address t k.device buf))

  pub another_tip_leaves_the_history : (t : Bool) → (byte_of (tipped t k) b buf).events ≡ (byte_of k b buf).events
  unfolding byte_of heard_of
  another_tip_leaves_the_history t =
      both_ways (λ (a : Turn After). a.events) (λ (a : Turn After). a.events) (ltb (length buf) 32) _ _ _ _ refl
      (dealt_events (framing_of k.line) got (take (size_of got) squeezed) k.address t k.device buf)

  -- and all that it is answered, but to a ?31
  pub another_tip_changes_no_answer : (t : Bool) → completes_tip k b ≡ false → byte_of (tipped t k) b buf ≡ tipped_after t (byte_of k b buf)
  unfolding byte_of heard_of
  another_tip_changes_no_answer t h =
      both_ways (λ (a : Turn After). a) (tipped_after t) (ltb (length buf) 32) _ _ _ _ refl
      (ap (λ (e : Turn Exchange). record { next = after (reply (holding e.next.device) e.next.said) e.next.buffer; events = e.events })
      (dealt_tipped (framing_of k.line) got (take (size_of got) squeezed) k.address t k.device buf h))

  -- a byte leaves the tip: "reset leaves it"
  pub no_byte_changes_the_tip : (byte_of k b buf).next.reply.controller.device.tip ≡ k.device.tip
  unfolding byte_of heard_of dealt_of
  no_byte_changes_the_tip = by (λ (a : Turn After). a.next.reply.controller.device.tip ≡ k.device.tip) (ltb (length buf) 32) (λ _. refl) (λ _. performed_keeps_tip (task_of got) (take (size_of got) squeezed) k.device)

-- a fresh controller has none; a tick brings what is sensed, in every state; the stop leaves it
pub a_fresh_controller_has_no_tip : (f : Framing) (a : Address) → (made_of f a).next.device.tip ≡ false
unfolding made_of fresh_of
a_fresh_controller_has_no_tip f a = refl

pub a_tick_brings_the_tip_sensed : (s : Sense) (k : Controller) → (ticked_of s k).next.controller.device.tip ≡ s.tip
unfolding ticked_of tick_of
a_tick_brings_the_tip_sensed s k = refl

pub the_stop_leaves_the_tip : (k : Controller) → (stopped_of k).next.device.tip ≡ k.device.tip
unfolding stopped_of halted_of
the_stop_leaves_the_tip k = refl
