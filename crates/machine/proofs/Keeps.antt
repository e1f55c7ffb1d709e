-- `Valid` is kept by every tick.
use mathlib.Core.Path.{◌≡◌, refl}
use Prim.Native.Nat.{ℕ}
use native.Mathlib.Omega.{arith}
use lib.Dec.{ltb}
use lib.ListN.{take}
use Rattle.std.specs.Prelude.{Err, None, Ok, Result, Some}
use Rattle.command.specs.Found.{Found}
use Rattle.basics.proofs.Choice.{by}
use Rattle.command.specs.declared.Command.{Command}
use Rattle.command.specs.declared.refusal.Refusal.{Refusal}
use Rattle.command.specs.declared.refusal.Refusal.TheVariants as R
use Rattle.command.proofs.Numbers.{every_number_is_1_to_15}
use Rattle.command.specs.Command.{command_at}
use Rattle.command.specs.Allowed.{Allowed}
use Rattle.command.proofs.Allowed.{a_command_read_is_allowed}
use Rattle.motion.specs.declared.Sense.{Sense}
use Rattle.motion.specs.declared.Activity.{Activity}
use Rattle.motion.specs.declared.Effect.{Effect}
use Rattle.motion.specs.declared.Effect.TheVariants.{Goes, Ends, Fails, Asks, Opens, Closes}
use Rattle.motion.specs.Events.{Turn}
use Rattle.motion.specs.Motion.{effect_of, onward_of, between}
use Rattle.motion.specs.Bounds.{ActivityOk, EffectOk}
use Rattle.motion.proofs.Keeps.{effect_keeps, onward_keeps}
use Rattle.buffer.specs.declared.course.State.{State}
use Rattle.buffer.specs.declared.course.State.TheVariants.{Empty, Stored, Running, Stopped, Done}
use Rattle.buffer.specs.declared.course.Loops.{Loops}
use Rattle.buffer.specs.declared.course.Course.{Course}
use Rattle.buffer.specs.Course.{reached, failed_of}
use Rattle.machine.specs.declared.step.Core.{Core}
use Rattle.machine.specs.declared.step.Stepped.{Stepped}
use Rattle.machine.specs.Step.{Around, went_of, applied_of, taken_of, carried_on, running_of, active_of, step_of}
use Rattle.machine.specs.Valid.{StateOk, CourseOk, Valid}
use Rattle.machine.proofs.Looping.{behind_open, behind_close}

module _ (c : Course) (ok : CourseOk c) where
  pub reached_ok : (at : ℕ) (l : Loops) → CourseOk (reached at l c)
  unfolding reached
  reached_ok at l = record { len = ok.len; state = by StateOk (ltb at c.len) (λ h. tt) (λ h. tt); error = ok.error }

  failed_ok : (why : Refusal) → CourseOk (failed_of why c)
  failed_ok why = record { len = omega arith; state = tt; error = (every_number_is_1_to_15 why).1 }

module _ (c : Core) (ok : Valid c) where
  reaches : (at : ℕ) (l : Loops) → CourseOk (reached at l c.course)
  reaches = reached_ok c.course ok.course

  off : (why : Refusal) → CourseOk (failed_of why c.course)
  off = failed_ok c.course ok.course

  abbrev WentOk : Result Course Refusal → Type 0
  WentOk g = Valid (went_of g c.body c.course).core

  looped : (at : ℕ) (l : Loops) → Valid (record { body = c.body; course = reached at l c.course })
  looped at l = record { body = ok.body; course = reaches at l }

  applied_ok : (e : Effect) (next : ℕ) → EffectOk e → Valid (applied_of e next c).core
  unfolding applied_of
  applied_ok (Goes b a) next h = record { body = h.0; course = record { len = ok.course.len; state = h.1; error = ok.course.error } }
  applied_ok (Ends b) next h = record { body = h; course = reaches next c.course.loops }
  applied_ok (Fails why b) next h = record { body = h; course = off why }
  applied_ok Asks next h = record { body = ok.body; course = record { len = ok.course.len; state = tt; error = ok.course.error } }
  applied_ok Opens next h = behind_open WentOk c.course looped (record { body = ok.body; course = off R.Loops }) next
  applied_ok (Closes n) next h = behind_close WentOk c.course looped (record { body = ok.body; course = off R.Loops }) n next

  taken_ok : (x : Sense) (f : Found) → ((k : Command) (next : ℕ) → f ≡ Ok (Some (k, next)) → Allowed k) → Valid (taken_of x f c).next.core
  unfolding taken_of
  taken_ok x (Ok (Some (k, next))) h = applied_ok (effect_of x k c.body).next next (effect_keeps x k c.body (h k next refl) ok.body)
  taken_ok x (Err m) h = record { body = ok.body; course = off (R.Misread m) }
  taken_ok x (Ok None) h = looped c.course.at c.course.loops

  carried_ok : (x : Sense) (a : Activity) → ActivityOk a → Valid (carried_on x a c).next.core
  unfolding carried_on
  carried_ok x a h = applied_ok (onward_of x a c.body).next c.course.at (onward_keeps x a c.body h ok.body)

  running_ok : (a : Activity) (w : Around) → ActivityOk a → Valid (running_of a w c).next.core
  unfolding running_of
  running_ok a w h =
      let t = take c.course.len w.text in
      by (λ (r : Turn Stepped). Valid r.next.core) (between a)
      (λ e. taken_ok w.sense (command_at t c.course.at) (a_command_read_is_allowed t c.course.at))
      (λ e. carried_ok w.sense a h)

  active_keeps : (s : State) (w : Around) → StateOk s → Valid (active_of s w c).next.core
  unfolding active_of
  active_keeps (Running a) w h = running_ok a w h
  active_keeps Empty w h = ok
  active_keeps Stored w h = ok
  active_keeps Stopped w h = ok
  active_keeps Done w h = ok

  pub step_keeps : (w : Around) → Valid (step_of w c).next.core
  unfolding step_of
  step_keeps w = active_keeps c.course.state w ok.course.state
