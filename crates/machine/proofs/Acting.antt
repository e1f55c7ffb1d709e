-- Laws of `specs/Act`, one for each return of the code.
use mathlib.Core.Path.{◌≡◌, sym, ap, ◌∙◌}
use mathlib.Core.Bool.{Bool, true, false}
use mathlib.Core.List.{List}
use Prim.Native.Nat.{ℕ, ◌+◌, ◌≤◌}
use mir.Syntax.{w64}
use mir.Val.{Fits}
use native.Mathlib.Omega.{arith}
use borrow.Author.Tests.{ltb-false}
use lib.Dec.{ltb}
use lib.ListN.{length, take}
use lib.Seq.{length-take-le}
use Rattle.std.specs.Prelude.{if◌then◌else◌, Err, Ok}
use Rattle.command.specs.Verdict.{Verdict}
use Rattle.basics.proofs.Choice.{by}
use Rattle.command.specs.declared.refusal.Refusal.{Refusal}
use Rattle.command.specs.Numbers.{refusal_number}
use Rattle.motion.specs.declared.Activity.{Activity}
use Rattle.motion.specs.declared.Activity.TheVariants.{Between}
use Rattle.motion.specs.declared.Body.{Body}
use Rattle.motion.specs.Motion.{cut_of, reset_of}
use Rattle.buffer.specs.declared.course.State.{State}
use Rattle.buffer.specs.declared.course.State.TheVariants.{Running}
use Rattle.buffer.specs.declared.course.Course.{Course}
use Rattle.buffer.specs.declared.order.Action.{Action}
use Rattle.buffer.specs.declared.order.Loading.{Loading}
use Rattle.buffer.specs.declared.order.Change.{Change}
use Rattle.buffer.specs.declared.order.Change.TheVariants as C
use Rattle.buffer.specs.declared.order.Order.{Order}
use Rattle.buffer.specs.declared.order.Order.TheVariants as O
use Rattle.buffer.specs.Course.{in_state, with_error, reached, erased_of, waiting, begun, halted}
use Rattle.buffer.specs.Order.{order_of, kept_of, length_by, loops_by, sized, verdict_of, stored_by}
use Rattle.machine.specs.declared.step.Core.{Core}
use Rattle.machine.specs.Step.{core}
use Rattle.machine.specs.Device.{device}
use Rattle.machine.specs.Valid.{Valid}
use Rattle.machine.specs.Act.{halt_of, stop_of, changed_of, done_of, core_error, acted_of, Fitting, Judged, acted, act_of}

-- T
pub cuts : (a : Activity) (c : Core) (b : Body) (on : Course) → b ≡ (cut_of a c.body).next → on ≡ halted c.course → core b on ≡ (halt_of (Running a) c).next
unfolding halt_of
cuts a c b on p q = rw (p, q)

pub stop_case : (j : State) (c r : Core) → c.course.state ≡ j → r ≡ (halt_of j c).next → r ≡ (stop_of c).next
unfolding stop_of
stop_case j c r p e = e ∙ ap (λ (s : State). (halt_of s c).next) (sym p)

-- what is changed
pub resets : (c : Core) (b : Body) (on : Course) → b ≡ (reset_of c.body).next → on ≡ erased_of c.course → core b on ≡ (changed_of C.Reset c).next
unfolding changed_of
resets c b on p q = rw (p, q)

module _ (c r : Core) (on : Course) (e : r ≡ core c.body on) where
  pub loads_run : (run : Bool) (n : ℕ) → run ≡ true → on ≡ begun n c.course → r ≡ core c.body (if run then begun n c.course else waiting n c.course)
  loads_run run n h q = rw (h, ← q) e

  pub loads_waiting : (run : Bool) (n : ℕ) → run ≡ false → on ≡ waiting n c.course → r ≡ core c.body (if run then begun n c.course else waiting n c.course)
  loads_waiting run n h q = rw (h, ← q) e

  pub starts : on ≡ begun c.course.len c.course → r ≡ (changed_of C.Begin c).next
  unfolding changed_of
  starts q = rw (← q) e

  pub resumes : on ≡ in_state (Running Between) c.course → r ≡ (changed_of C.Resume c).next
  unfolding changed_of
  resumes q = rw (← q) e

  pub ends_delay : on ≡ reached c.course.at c.course.loops c.course → r ≡ (changed_of C.EndDelay c).next
  unfolding changed_of
  ends_delay q = rw (← q) e

  pub clears : on ≡ erased_of c.course → r ≡ (changed_of C.Erase c).next
  unfolding changed_of
  clears q = rw (← q) e

  pub errs : (code column : ℕ) → on ≡ with_error code column c.course → r ≡ core_error code column c
  errs code column q = rw (← q) e

pub change_case : (k j : Change) (c r : Core) → k ≡ j → r ≡ (changed_of j c).next → r ≡ (changed_of k c).next
change_case k j c r p e = rw p e

-- what an accepted order does
module _ (o : Order) (n : ℕ) (c : Core) where
  pub done_refusing : (why : Refusal) → o ≡ O.Refuse why → c ≡ (done_of o n c).next
  unfolding done_of
  done_refusing why p = rw p

  pub done_changing : (k : Change) (r : Core) → o ≡ O.Change k → r ≡ (changed_of k c).next → r ≡ (done_of o n c).next
  unfolding done_of
  done_changing k r p e = rw p e

  module _ (l : Loading) (run : Bool) (p : o ≡ O.Load l run) (kept : ℕ) (k : kept ≡ kept_of l c.course.len) where
    pub kept_fits : length_by o c.course.len n ≤ 256 → Fits w64 (kept + n)
    kept_fits h = let g : kept_of l c.course.len + n ≤ 256 = rw p at h in omega arith

    pub done_loading :
        (len : ℕ) (r : Core) → len ≡ kept + n → r ≡ core c.body (if run then begun len c.course else waiting len c.course) → r ≡ (done_of o n c).next
    unfolding done_of
    done_loading len r q e = rw p (rw (q, k) at e)

-- an order that was accepted or refused
module _ (o : Order) (v : Verdict) (n : ℕ) (c r : Core) where
  pub accepts : (d : Core) → v ≡ Ok tt → d ≡ (done_of o n c).next → r ≡ core_error 0 0 d → r ≡ (acted_of o v n c).next
  unfolding acted_of
  accepts d h p e = rw h (e ∙ ap (λ (x : Core). core_error 0 0 x) p)

  pub refuses : (why : Refusal) (code : ℕ) → v ≡ Err why → code ≡ refusal_number why → r ≡ core_error code 0 c → r ≡ (acted_of o v n c).next
  unfolding acted_of
  refuses why code h q e = rw h (rw q at e)

pub what_is_fine_fits : (o : Order) (v : Verdict) (len n : ℕ) → Fitting o v len n → v ≡ Ok tt → length_by o len n ≤ 256
what_is_fine_fits o v len n f e = f.fits e

-- what is accepted fits: over 256 is refused first
sized_fits : (n : ℕ) (loops : Bool) → sized n loops ≡ Ok tt → n ≤ 256
unfolding sized
sized_fits n loops =
    by (λ (v : Verdict). v ≡ Ok tt → n ≤ 256) (ltb 256 n)
    (λ h e. let z : ◌≡◌ {A = ℕ} 0 1 = cc in absurd (omega arith))
    (λ h e. ltb-false 256 n h)

pub accepted_fits : (o : Order) (stored added : List ℕ) → verdict_of o stored added ≡ Ok tt → length_by o (length stored) (length added) ≤ 256
unfolding verdict_of
accepted_fits (O.Refuse why) stored added e = omega arith
accepted_fits (O.Load l run) stored added e = sized_fits (kept_of l (length stored) + length added) (loops_by (O.Load l run) stored added) e
accepted_fits (O.Change k) stored added e = omega arith

module _ (o : Order) (v : Verdict) (text added : List ℕ) (len : ℕ) where
  pub judged : len ≤ length text → v ≡ verdict_of o (take len text) added → Judged o text added len v
  judged h e =
      record { is = e; fitting = record { fits = λ f. rw (length-take-le len text h) at (accepted_fits o (take len text) added (sym e ∙ f)) } }

  pub judged_fits : Judged o text added len v → Fitting o v len (length added)
  judged_fits j = j.fitting

pub part_of_text : (c : Core) (text : List ℕ) → Valid c → length text ≡ 256 → c.course.len ≤ length text
part_of_text c text v l = let k = v.course.len in rw l k

-- a string or a control
pub acts :
    (a : Action) (added text after : List ℕ) (c d : Core) (o : Order) (v : Verdict) → o ≡ order_of a c.course.state →
    Judged o text added c.course.len v → after ≡ stored_by o v c.course.len added text → d ≡ (acted_of o v (length added) c).next →
    (tip : Bool) → acted after tip d v ≡ (act_of a added (device text tip c)).next
unfolding act_of
acts a added text after c d o v p q s e tip = rw (s, e, q.is, p)
