-- `Valid`, and the length of the text's array, are kept by every action and by the stop.
use mathlib.Core.Path.{◌≡◌, refl, ap}
use mathlib.Core.Bool.{true, false}
use mathlib.Core.List.{List}
use Prim.Native.Nat.{ℕ, ◌+◌, ◌≤◌}
use native.Mathlib.Omega.{arith}
use borrow.Author.Tests.{leb-true}
use lib.Dec.{ltb, leb}
use lib.ListN.{length, take}
use lib.Seq.{length-take-le}
use Rattle.std.specs.Prelude.{Err, Ok}
use Rattle.command.specs.Verdict.{Verdict}
use Rattle.basics.specs.Lay.{fits, laid_in}
use Rattle.basics.proofs.Choice.{by}
use Rattle.basics.proofs.Over.{length_over}
use Rattle.command.specs.Numbers.{refusal_number}
use Rattle.command.proofs.Numbers.{every_number_is_1_to_15}
use Rattle.motion.proofs.Keeps.{cut_keeps, reset_keeps}
use Rattle.buffer.specs.declared.course.State.{State}
use Rattle.buffer.specs.declared.course.State.TheVariants.{Empty, Stored, Running, Stopped, Done}
use Rattle.buffer.specs.declared.course.Course.{Course}
use Rattle.machine.specs.declared.step.Core.{Core}
use Rattle.machine.specs.declared.Device.{Device}
use Rattle.buffer.specs.declared.order.Action.{Action}
use Rattle.buffer.specs.declared.order.Change.{Change}
use Rattle.buffer.specs.declared.order.Change.TheVariants as C
use Rattle.buffer.specs.declared.order.Order.{Order}
use Rattle.buffer.specs.declared.order.Order.TheVariants as O
use Rattle.machine.specs.Step.{core}
use Rattle.buffer.specs.Course.{waiting, begun, halted}
use Rattle.buffer.specs.Order.{order_of, kept_of, length_by, verdict_of, laid_by, stored_by}
use Rattle.machine.specs.Act.{halt_of, stop_of, changed_of, done_of, core_error, acted_of, Judged, Acted, act_of}
use Rattle.machine.specs.Device.{device}
use Rattle.machine.specs.Valid.{CourseOk, Valid, Ready}
use Rattle.machine.proofs.Keeps.{reached_ok}
use Rattle.machine.specs.Acts.{Acts}
use Rattle.machine.proofs.Acting.{accepted_fits, acts}

module _ (c : Core) (ok : Valid c) where
  -- the body as it is, over another course
  over_course : (d : Course) → CourseOk d → Valid (core c.body d)
  over_course d h = record { body = ok.body; course = h }

  begun_ok : (n : ℕ) → n ≤ 256 → Valid (core c.body (begun n c.course))
  begun_ok n h = over_course (begun n c.course) (record { len = h; state = tt; error = ok.course.error })

  waiting_ok : (n : ℕ) → n ≤ 256 → Valid (core c.body (waiting n c.course))
  waiting_ok n h = over_course (waiting n c.course) (record { len = h; state = tt; error = ok.course.error })

  halted_ok : CourseOk (halted c.course)
  unfolding halted
  halted_ok =
      by CourseOk (ltb c.course.at c.course.len)
      (λ h. record { len = ok.course.len; state = tt; error = ok.course.error })
      (λ h. record { len = omega arith; state = tt; error = ok.course.error })

  halt_keeps : (s : State) → Valid (halt_of s c).next
  unfolding halt_of
  halt_keeps (Running a) = record { body = cut_keeps a c.body ok.body; course = halted_ok }
  halt_keeps Empty = ok
  halt_keeps Stored = ok
  halt_keeps Stopped = ok
  halt_keeps Done = ok

  pub stop_keeps : Valid (stop_of c).next
  unfolding stop_of
  stop_keeps = halt_keeps c.course.state

  changed_keeps : (k : Change) → Valid (changed_of k c).next
  unfolding changed_of
  changed_keeps C.Begin = begun_ok c.course.len ok.course.len
  changed_keeps C.Resume = over_course _ (record { len = ok.course.len; state = tt; error = ok.course.error })
  changed_keeps C.EndDelay = over_course _ (reached_ok c.course ok.course c.course.at c.course.loops)
  changed_keeps C.Repeat = begun_ok c.course.len ok.course.len
  changed_keeps C.Erase = over_course _ (record { len = omega arith; state = tt; error = ok.course.error })
  changed_keeps C.Halt = stop_keeps
  changed_keeps C.Reset = record { body = reset_keeps c.body ok.body; course = record { len = omega arith; state = tt; error = ok.course.error } }

  done_keeps : (o : Order) (n : ℕ) → length_by o c.course.len n ≤ 256 → Valid (done_of o n c).next
  unfolding done_of
  done_keeps (O.Refuse why) n h = ok
  done_keeps (O.Load l true) n h = begun_ok _ h
  done_keeps (O.Load l false) n h = waiting_ok _ h
  done_keeps (O.Change k) n h = changed_keeps k

pub error_ok : (code column : ℕ) (c : Core) → code ≤ 15 → Valid c → Valid (core_error code column c)
error_ok code column c small ok = record { body = ok.body; course = record { len = ok.course.len; state = ok.course.state; error = small } }

acted_keeps : (o : Order) (v : Verdict) (n : ℕ) (c : Core) → Valid c → (v ≡ Ok tt → length_by o c.course.len n ≤ 256) → Valid (acted_of o v n c).next
unfolding acted_of
acted_keeps o (Ok tt) n c ok h = error_ok 0 0 (done_of o n c).next (omega arith) (done_keeps c ok o n (h refl))
acted_keeps o (Err why) n c ok h = error_ok (refusal_number why) 0 c (every_number_is_1_to_15 why).1 ok

-- the array keeps its length
length_laid_in : (added : List ℕ) (at : ℕ) (text : List ℕ) → length (laid_in added at text) ≡ length text
unfolding laid_in fits
length_laid_in added at text =
    by (λ (t : List ℕ). length t ≡ length text) (leb (at + length added) (length text))
    (λ h. length_over added at text (leb-true (at + length added) (length text) h))
    (λ h. refl)

pub length_laid_by : (o : Order) (len : ℕ) (added text : List ℕ) → length (laid_by o len added text) ≡ length text
unfolding laid_by
length_laid_by (O.Refuse why) len added text = refl
length_laid_by (O.Load l run) len added text = length_laid_in added (kept_of l len) text
length_laid_by (O.Change k) len added text = refl

length_stored_by : (o : Order) (v : Verdict) (len : ℕ) (added text : List ℕ) → length (stored_by o v len added text) ≡ length text
unfolding stored_by
length_stored_by o (Ok tt) len added text = length_laid_by o len added text
length_stored_by o (Err why) len added text = refl

-- a string or a control that is accepted has room, and one refused changes only the last error
pub act_keeps : (a : Action) (added : List ℕ) (d : Device) → Ready d.core d.text → (let e = (act_of a added d).next.device in Ready e.core e.text)
unfolding act_of
act_keeps a added d ready =
    let c = d.core in
    let o = order_of a c.course.state in
    let stored = take c.course.len d.text in
    let all : length stored ≡ c.course.len = length-take-le c.course.len d.text (omega (arith, ready.valid.course.len, ready.long)) in
    let long = length_stored_by o (verdict_of o stored added) c.course.len added d.text in
    record {
      valid = acted_keeps o (verdict_of o stored added) (length added) c ready.valid (λ e. rw all at (accepted_fits o stored added e));
      long = omega (arith, ready.long);
    }

-- what is left of a string or a control: as defined, and valid again
pub acts_again :
    (a : Action) (added text after : List ℕ) (c d : Core) (o : Order) (v : Verdict) → Valid c → length text ≡ 256 → o ≡ order_of a c.course.state →
    Judged o text added c.course.len v → after ≡ stored_by o v c.course.len added text → d ≡ (acted_of o v (length added) c).next →
    Acts a added text c after (record { core = d; verdict = v })
acts_again a added text after c d o v ok long p q s e =
    let is = acts a added text after c d o v p q s e in
    let same : d ≡ (act_of a added (device text false c)).next.device.core = ap (λ (x : Acted). x.device.core) (is false) in
    record { is = is; again = rw same (act_keeps a added (device text false c) (record { valid = ok; long = long })).valid }
