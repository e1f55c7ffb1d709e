-- Theorems: no accepted text loses a character when it is stored, nor while it runs; an accepted string waits, or runs from its start.
use mathlib.Core.Path.{◌≡◌, refl, sym, ap, subst, ◌∙◌}
use mathlib.Core.Bool.{Bool, true, false}
use mathlib.Core.Logic.{◌⊎◌, inl, inr}
use mathlib.Core.List.{List, [], ◌++◌}
use Prim.Native.Nat.{ℕ, zero, suc, ◌+◌, ◌%◌, ◌≤◌}
use native.Mathlib.Omega.{arith}
use lib.ListN.{length, take, get_or}
use Rattle.std.specs.Prelude.{if◌then◌else◌, Err, Ok}
use Rattle.basics.specs.Lay.{over}
use Rattle.command.specs.declared.refusal.Refusal.{Refusal}
use Rattle.command.specs.declared.refusal.Refusal.TheVariants as R
use Rattle.command.proofs.Numbers.{zero_is_fine}
use Rattle.text.specs.declared.Data.TheVariants as D
use Rattle.text.specs.Data.{spaceless, body, received_of}
use Rattle.line.specs.declared.Framing.{Framing}
use Rattle.line.specs.Wire.{Form, formed, Sendable, Hears}
use Rattle.line.specs.Answer as Answer
use Rattle.line.specs.Answer.{status_of}
use Rattle.line.proofs.Answers.{status_bits}
use Rattle.motion.specs.declared.Sense.{Sense}
use Rattle.motion.specs.declared.Activity.{Activity}
use Rattle.motion.specs.declared.Activity.TheVariants.{Initialising, Moving, Delaying, Approaching, Searching, Ejecting, Between}
use Rattle.motion.specs.Events.{Turn}
use Rattle.buffer.specs.declared.course.State.{State}
use Rattle.buffer.specs.declared.course.State.TheVariants.{Empty, Stored, Running, Stopped, Done}
use Rattle.buffer.specs.declared.course.Column.{Column}
use Rattle.buffer.specs.declared.course.Column.TheVariants as K
use Rattle.buffer.specs.declared.course.Course.{Course}
use Rattle.buffer.specs.declared.order.Loading.TheVariants.{Joined, Replacing}
use Rattle.buffer.specs.declared.order.Order.{Order}
use Rattle.buffer.specs.declared.order.Order.TheVariants as O
use Rattle.buffer.specs.Course.{course_of, no_loops, while_of, reached, with_error, begun, waiting}
use Rattle.buffer.specs.Order.{cell_of, order_of, verdict_of}
use Rattle.machine.specs.declared.step.Stepped.{Stepped}
use Rattle.machine.specs.declared.Device.{Device}
use Rattle.machine.specs.Step.{Around, around, fine, next_of}
use Rattle.machine.specs.Run.{ready_in, ready_of, ticks_of}
use Rattle.machine.specs.Device.{advance_of}
use Rattle.machine.specs.Valid.{Ready}
use Rattle.machine.specs.Refusals as Buffer
use Rattle.machine.specs.Refusals.{verdict_for}
use Rattle.machine.specs.Act.{done_of, acted_of, act_of}
use Rattle.machine.specs.History as Machine
use Rattle.machine.proofs.Ways.{step_by}
use Rattle.machine.proofs.Runs.{ready_ticks}
use Rattle.machine.proofs.Stored.{a_string_that_is_loaded_is_stored_whole}
use Rattle.pipettor.specs.declared.address.Address.{Address}
use Rattle.pipettor.specs.declared.Controller.{Controller}
use Rattle.pipettor.specs.Address.{letter_of}
use Rattle.pipettor.specs.Controller.{advanced_of}
use Rattle.pipettor.specs.Byte.{string_action, task_of, performed_of, Exchange, dealt_of}
use Rattle.frames.specs.Frame.{exchange_of}
use Rattle.frames.specs.Refused.{number_for, refusal_of, Known}
use Rattle.frames.specs.Limits.{front_of, whole_of}
use Rattle.frames.proofs.Refusals.{no_other_number, every_frame_is_answered}
use Rattle.frames.proofs.Texts.{added_body}
use Rattle.demands.specs.Calls.{Making, Call, after}
use Rattle.demands.specs.Frames.{frame_seen}
use Rattle.demands.specs.Texts.{held, SaysAccepted, waits_or_runs}
use Rattle.demands.proofs.Frames.{a_frame_is_seen_as_an_exchange}
use Rattle.demands.proofs.Sound.{every_controller_is_sound}

-- a string that is accepted is loaded, behind the stored text or instead of it
data Loads (run : Bool) (stored : List ℕ) : Order → List ℕ → Type 0 where
  joins : Loads run stored (O.Load Joined run) stored
  replaces : Loads run stored (O.Load Replacing run) []
  refuses : (why : Refusal) (front : List ℕ) → Loads run stored (O.Refuse why) front

loads_while : (run : Bool) (k : Column) (stored : List ℕ) → (k ≡ K.Busy) ⊎ (k ≡ K.Delaying) → Loads run stored (cell_of (string_action run) k) []
unfolding cell_of
loads_while true k stored (inl e) = rw e (refuses R.Busy [])
loads_while true k stored (inr e) = rw e replaces
loads_while false k stored (inl e) = rw e (refuses R.Busy [])
loads_while false k stored (inr e) = rw e (refuses R.Busy [])

column_while : (a : Activity) → (while_of a ≡ K.Busy) ⊎ (while_of a ≡ K.Delaying)
column_while (Initialising t) = inl refl
column_while (Moving t) = inl refl
column_while (Delaying k) = inr refl
column_while (Approaching t z) = inl refl
column_while (Searching f) = inl refl
column_while Ejecting = inl refl
column_while Between = inl refl

loads : (run : Bool) (s : State) (stored : List ℕ) → Loads run stored (order_of (string_action run) s) (front_of s stored)
unfolding cell_of
loads true Empty stored = replaces
loads true Stored stored = joins
loads true Stopped stored = replaces
loads true Done stored = replaces
loads false Empty stored = replaces
loads false Stored stored = joins
loads false Stopped stored = replaces
loads false Done stored = replaces
loads run (Running a) stored = loads_while run (while_of a) stored (column_while a)

-- the text that is held after a string is accepted
stored_by_lem :
    (added : List ℕ) (d : Device) → Ready d.core d.text → (run : Bool) (o : Order) (front : List ℕ) → order_of (string_action run) d.core.course.state ≡ o →
    Loads run (held d) o front → verdict_for (string_action run) added d ≡ Ok tt → held (act_of (string_action run) added d).next.device ≡ front ++ added
unfolding verdict_of
stored_by_lem added d ready run o front e joins ok = a_string_that_is_loaded_is_stored_whole (string_action run) added d Joined run ready ok e
stored_by_lem added d ready run o front e replaces ok = a_string_that_is_loaded_is_stored_whole (string_action run) added d Replacing run ready ok e
stored_by_lem added d ready run o front e (refuses why other) ok =
    let z : Err why ≡ Ok tt = rw e at ok in
    let y : ◌≡◌ {A = ℕ} 0 1 = cc in
    absurd (omega arith)

-- and its course: it waits, or runs from its start, with no loop open and no error
started : (run : Bool) (m : ℕ) (c : Course) → with_error 0 0 (if run then begun m c else waiting m c) ≡ course_of 0 m no_loops (waits_or_runs run) 0 0
started true m c = refl
started false m c = refl

course_by :
    (added : List ℕ) (d : Device) (run : Bool) (o : Order) (front : List ℕ) → order_of (string_action run) d.core.course.state ≡ o →
    Loads run (held d) o front → verdict_for (string_action run) added d ≡ Ok tt →
    (m : ℕ) × ((act_of (string_action run) added d).next.device.core.course ≡ course_of 0 m no_loops (waits_or_runs run) 0 0)
unfolding verdict_of act_of acted_of done_of
course_by added d run o front e joins ok = (d.core.course.len + length added, rw (ok, e) (started run (d.core.course.len + length added) d.core.course))
course_by added d run o front e replaces ok = (0 + length added, rw (ok, e) (started run (0 + length added) d.core.course))
course_by added d run o front e (refuses why other) ok =
    let z : Err why ≡ Ok tt = rw e at ok in
    let y : ◌≡◌ {A = ℕ} 0 1 = cc in
    absurd (omega arith)

-- a number that a frame can get, of which the status byte's low four bits say 0
accepted_is_0 : (n : ℕ) → Known n → n % 16 ≡ 0 → n ≡ 0
accepted_is_0 n (inl h) e = h
accepted_is_0 n (inr (inl h)) e = omega arith
accepted_is_0 n (inr (inr (inl h))) e = omega arith
accepted_is_0 n (inr (inr (inr (inl h)))) e = omega arith
accepted_is_0 n (inr (inr (inr (inr h)))) e = omega arith

-- data that are a string
module _ (ds : List ℕ) (n : ℕ) (run : Bool) (string : received_of ds ≡ D.Text n run) (f : Framing) (a : Address) (d : Device) (buf : List ℕ) where
  acts : (exchange_of f ds a d buf).next.device ≡ (Machine.call_of (Machine.act (string_action run) (body (spaceless ds))) d).next
  unfolding exchange_of dealt_of task_of performed_of Machine.call_of
  acts = rw (added_body ds n run string, string)

  number_is : refusal_of ds a d ≡ Buffer.number_for (string_action run) (body (spaceless ds)) d
  unfolding refusal_of number_for
  number_is = rw (added_body ds n run string, string)

  status_is : get_or (exchange_of f ds a d buf).next.buffer 2 0 ≡ status_of (ready_of (exchange_of f ds a d buf).next.device.core) (refusal_of ds a d)
  unfolding over Answer.answer_of
  status_is = rw ((every_frame_is_answered ds a d f buf).buffer, string)

  accepted : SaysAccepted (exchange_of f ds a d buf).next.buffer → refusal_of ds a d ≡ 0
  accepted e =
      let bits = (status_bits (ready_of (exchange_of f ds a d buf).next.device.core) (refusal_of ds a d)).low in
      let says = rw status_is at e in
      accepted_is_0 (refusal_of ds a d) (no_other_number ds a d) (omega arith)

  is_fine : refusal_of ds a d ≡ 0 → verdict_for (string_action run) (body (spaceless ds)) d ≡ Ok tt
  is_fine e = zero_is_fine (verdict_for (string_action run) (body (spaceless ds)) d) (rw number_is at e)

  pub kept : Ready d.core d.text → refusal_of ds a d ≡ 0 → held (exchange_of f ds a d buf).next.device ≡ whole_of ds d
  unfolding Machine.call_of
  kept ready e =
      let s = d.core.course.state in
      rw acts (stored_by_lem (body (spaceless ds)) d ready run (order_of (string_action run) s) (front_of s (held d)) refl (loads run s (held d)) (is_fine e))

  pub an_accepted_string_waits_or_runs_from_its_start :
      refusal_of ds a d ≡ 0 → (m : ℕ) × ((exchange_of f ds a d buf).next.device.core.course ≡ course_of 0 m no_loops (waits_or_runs run) 0 0)
  unfolding Machine.call_of
  an_accepted_string_waits_or_runs_from_its_start e =
      let s = d.core.course.state in
      let (m, is) = course_by (body (spaceless ds)) d run (order_of (string_action run) s) (front_of s (held d)) refl (loads run s (held d)) (is_fine e) in
      (m, rw acts is)

-- No accepted text loses a character: where the answer to a frame says accepted, all of its text is held, behind what was stored where it is joined.
pub no_accepted_text_loses_a_character :
    (form : Form) (a : Making) (calls : List Call) (ds buf : List ℕ) (n : ℕ) (run : Bool) → Hears form (after a calls).line → Sendable form (letter_of (after a calls).address) ds → 32 ≤ length buf → received_of ds ≡ D.Text n run →
    (let k = after a calls in
    let e = (frame_seen form k ds buf).next in
    SaysAccepted e.buffer → held e.device ≡ whole_of ds k.device)
no_accepted_text_loses_a_character form a calls ds buf n run heard good long string =
    let k = after a calls in
    let sound = every_controller_is_sound a calls in
    subst (λ (e : Turn Exchange). SaysAccepted e.next.buffer → held e.next.device ≡ whole_of ds k.device)
    (sym (a_frame_is_seen_as_an_exchange k sound.sized.frame buf long form ds heard good))
    (λ e. kept ds n run string (formed form) k.address k.device buf (record { valid = sound.valid.core; long = sound.sized.text }) (accepted ds n run string (formed form) k.address k.device buf e))

-- while it runs, a text stays as it was accepted, or is erased whole
abbrev Stays : Course → Course → Type 0
Stays c d = (d.len ≡ c.len) ⊎ (d.state ≡ Empty)

next_stays : (w : Around) (s : Stepped) → Stays s.core.course (next_of w s).core.course
unfolding next_of reached
next_stays w s =
    step_by (λ (r : Stepped). Stays s.core.course r.core.course) s.core
    (record { rests = inl refl; goes = λ b a at. inl refl; ends = λ b at l. inl refl; breaks = λ why b. inr refl; asks = λ at. inl refl })
    w

ticks_stay : (n : ℕ) (w : Around) (s : Stepped) → Stays s.core.course (ticks_of n w s).core.course
unfolding ticks_of
ticks_stay zero w s = inl refl
ticks_stay (suc n) w s = go (next_stays w s) (ticks_stay n w (next_of w s))
  where
    go : Stays s.core.course (next_of w s).core.course → Stays (next_of w s).core.course (ticks_of n w (next_of w s)).core.course → Stays s.core.course (ticks_of n w (next_of w s)).core.course
    go first (inr e) = inr e
    go (inl p) (inl q) = inl (q ∙ p)
    go (inr e) (inl q) = inr (ap (λ (r : Stepped). r.core.course.state) (ready_ticks n w (next_of w s) (ap ready_in e)) ∙ e)

pub a_text_stays_while_it_runs :
    (n : ℕ) (s : Sense) (k : Controller) → (held (advanced_of n s k).controller.device ≡ held k.device) ⊎ ((advanced_of n s k).controller.device.core.course.state ≡ Empty)
unfolding advanced_of advance_of
a_text_stays_while_it_runs n s k = go (ticks_stay n (around k.device.text s) (fine k.device.core))
  where
    later : Course
    later = (ticks_of n (around k.device.text s) (fine k.device.core)).core.course

    go : Stays k.device.core.course later → (take later.len k.device.text ≡ held k.device) ⊎ (later.state ≡ Empty)
    go (inl e) = inl (ap (λ (m : ℕ). take m k.device.text) e)
    go (inr e) = inr e
