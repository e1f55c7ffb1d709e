-- The ways in which a tick ends: what holds of each of them holds of every tick.
use Prim.Native.Nat.{ℕ}
use lib.ListN.{take}
use Rattle.std.specs.Prelude.{Err, None, Ok, Result, Some}
use Rattle.command.specs.Found.{Found}
use Rattle.buffer.specs.declared.course.Course.{Course}
use Rattle.basics.proofs.Choice.{by}
use Rattle.command.specs.declared.refusal.Refusal.{Refusal}
use Rattle.command.specs.declared.refusal.Refusal.TheVariants as R
use Rattle.command.specs.Command.{command_at}
use Rattle.motion.specs.declared.Body.{Body}
use Rattle.motion.specs.declared.Activity.{Activity}
use Rattle.motion.specs.declared.Activity.TheVariants.{Ejecting}
use Rattle.motion.specs.declared.Effect.{Effect}
use Rattle.motion.specs.declared.Effect.TheVariants.{Goes, Ends, Fails, Asks, Opens, Closes}
use Rattle.motion.specs.Events.{Turn}
use Rattle.motion.specs.Motion.{effect_of, onward_of, between}
use Rattle.buffer.specs.declared.course.State.{State}
use Rattle.buffer.specs.declared.course.State.TheVariants.{Empty, Stored, Running, Stopped, Done}
use Rattle.buffer.specs.declared.course.Loops.{Loops}
use Rattle.buffer.specs.Course.{reached, gone_on}
use Rattle.machine.specs.declared.step.Core.{Core}
use Rattle.machine.specs.declared.step.Stepped.{Stepped}
use Rattle.machine.specs.Step.{Around, core, fine, asking, fails, went_of, applied_of, taken_of, carried_on, running_of, active_of, step_of}
use Rattle.machine.proofs.Looping.{behind_open, behind_close}

module _ (P : Stepped → Type 0) (c : Core) where
  -- nothing advances; something goes on; something has ended; the run fails; the host is asked
  pub record Ways : Type 0 where
    pub rests : P (fine c)
    pub goes : (b : Body) (a : Activity) (at : ℕ) → P (fine (core b (gone_on a at c.course)))
    pub ends : (b : Body) (at : ℕ) (l : Loops) → P (fine (core b (reached at l c.course)))
    pub breaks : (why : Refusal) (b : Body) → P (fails why b c.course)
    pub asks : (at : ℕ) → P (asking (core c.body (gone_on Ejecting at c.course)))

  module _ (ways : Ways) where
    applied_by : (e : Effect) (next : ℕ) → P (applied_of e next c)
    unfolding applied_of
    applied_by (Goes b a) next = ways.goes b a next
    applied_by (Ends b) next = ways.ends b next c.course.loops
    applied_by (Fails why b) next = ways.breaks why b
    applied_by Asks next = ways.asks next
    applied_by Opens next = behind_open (λ (g : Result Course Refusal). P (went_of g c.body c.course)) c.course (ways.ends c.body) (ways.breaks R.Loops c.body) next
    applied_by (Closes n) next = behind_close (λ (g : Result Course Refusal). P (went_of g c.body c.course)) c.course (ways.ends c.body) (ways.breaks R.Loops c.body) n next

    module _ (w : Around) where
      taken_by : (f : Found) → P (taken_of w.sense f c).next
      unfolding taken_of
      taken_by (Ok (Some (k, next))) = applied_by (effect_of w.sense k c.body).next next
      taken_by (Err m) = ways.breaks (R.Misread m) c.body
      taken_by (Ok None) = ways.ends c.body c.course.at c.course.loops

      active_by : (s : State) → P (active_of s w c).next
      unfolding active_of running_of carried_on
      active_by (Running a) =
          by (λ (t : Turn Stepped). P t.next) (between a)
          (λ e. taken_by (command_at (take c.course.len w.text) c.course.at))
          (λ e. applied_by (onward_of w.sense a c.body).next c.course.at)
      active_by Empty = ways.rests
      active_by Stored = ways.rests
      active_by Stopped = ways.rests
      active_by Done = ways.rests

      pub step_by : P (step_of w c).next
      unfolding step_of
      step_by = active_by c.course.state
