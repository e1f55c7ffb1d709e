-- Theorem: strings, R, X and C leave the plunger, the exact position, "initialised" and the settings alone, and add nothing to the history.
use mathlib.Core.Path.{◌≡◌, refl}
use mathlib.Core.List.{List, []}
use Prim.Native.Nat.{ℕ}
use lib.ListN.{length}
use Rattle.std.specs.Prelude.{Err, Ok}
use Rattle.command.specs.Verdict.{Verdict}
use Rattle.motion.specs.Events.{Turn}
use Rattle.buffer.specs.declared.course.Column.{Column}
use Rattle.buffer.specs.declared.course.Column.TheVariants as K
use Rattle.buffer.specs.declared.order.Action.{Action}
use Rattle.buffer.specs.declared.order.Action.TheVariants as A
use Rattle.buffer.specs.declared.order.Change.{Change}
use Rattle.buffer.specs.declared.order.Change.TheVariants as C
use Rattle.buffer.specs.declared.order.Order.{Order}
use Rattle.buffer.specs.declared.order.Order.TheVariants as O
use Rattle.buffer.specs.Course.{column_of}
use Rattle.buffer.specs.Order.{cell_of, order_of}
use Rattle.machine.specs.declared.step.Core.{Core}
use Rattle.machine.specs.declared.Device.{Device}
use Rattle.machine.specs.Act.{changed_of, done_of, acted_of, act_of}
use Rattle.machine.specs.Refusals.{verdict_for}

record SameBody (c : Core) (t : Turn Core) : Type 0 where
  body : t.next.body ≡ c.body
  events : t.events ≡ []

-- only T and !R touch the body
abbrev QuietChange : Change → Type 0
QuietChange C.Begin = Unit {0}
QuietChange C.Resume = Unit {0}
QuietChange C.EndDelay = Unit {0}
QuietChange C.Repeat = Unit {0}
QuietChange C.Erase = Unit {0}
QuietChange C.Halt = ⊥
QuietChange C.Reset = ⊥

abbrev Quiet : Order → Type 0
Quiet (O.Refuse why) = Unit {0}
Quiet (O.Load loading run) = Unit {0}
Quiet (O.Change change) = QuietChange change

changed_leaves : (k : Change) (c : Core) → QuietChange k → SameBody c (changed_of k c)
unfolding changed_of
changed_leaves C.Begin c h = record { body = refl; events = refl }
changed_leaves C.Resume c h = record { body = refl; events = refl }
changed_leaves C.EndDelay c h = record { body = refl; events = refl }
changed_leaves C.Repeat c h = record { body = refl; events = refl }
changed_leaves C.Erase c h = record { body = refl; events = refl }
changed_leaves C.Halt c h = absurd h
changed_leaves C.Reset c h = absurd h

done_leaves : (o : Order) (n : ℕ) (c : Core) → Quiet o → SameBody c (done_of o n c)
unfolding done_of
done_leaves (O.Refuse why) n c h = record { body = refl; events = refl }
done_leaves (O.Load loading run) n c h = record { body = refl; events = refl }
done_leaves (O.Change change) n c h = changed_leaves change c h

acted_leaves : (o : Order) (v : Verdict) (n : ℕ) (c : Core) → Quiet o → SameBody c (acted_of o v n c)
unfolding acted_of
acted_leaves o (Ok tt) n c h = let s = done_leaves o n c h in record { body = s.body; events = s.events }
acted_leaves o (Err why) n c h = record { body = refl; events = refl }

-- strings, R, X and C
abbrev pub NoStop : Action → Type 0
NoStop A.Store = Unit {0}
NoStop A.Launch = Unit {0}
NoStop A.Run = Unit {0}
NoStop A.Again = Unit {0}
NoStop A.Clear = Unit {0}
NoStop A.Stop = ⊥
NoStop A.Reset = ⊥

cell_is_quiet : (a : Action) (k : Column) → NoStop a → Quiet (cell_of a k)
unfolding cell_of
cell_is_quiet A.Store K.Empty h = tt
cell_is_quiet A.Store K.Stored h = tt
cell_is_quiet A.Store K.Busy h = tt
cell_is_quiet A.Store K.Delaying h = tt
cell_is_quiet A.Store K.Stopped h = tt
cell_is_quiet A.Store K.Done h = tt
cell_is_quiet A.Launch K.Empty h = tt
cell_is_quiet A.Launch K.Stored h = tt
cell_is_quiet A.Launch K.Busy h = tt
cell_is_quiet A.Launch K.Delaying h = tt
cell_is_quiet A.Launch K.Stopped h = tt
cell_is_quiet A.Launch K.Done h = tt
cell_is_quiet A.Run K.Empty h = tt
cell_is_quiet A.Run K.Stored h = tt
cell_is_quiet A.Run K.Busy h = tt
cell_is_quiet A.Run K.Delaying h = tt
cell_is_quiet A.Run K.Stopped h = tt
cell_is_quiet A.Run K.Done h = tt
cell_is_quiet A.Again K.Empty h = tt
cell_is_quiet A.Again K.Stored h = tt
cell_is_quiet A.Again K.Busy h = tt
cell_is_quiet A.Again K.Delaying h = tt
cell_is_quiet A.Again K.Stopped h = tt
cell_is_quiet A.Again K.Done h = tt
cell_is_quiet A.Clear K.Empty h = tt
cell_is_quiet A.Clear K.Stored h = tt
cell_is_quiet A.Clear K.Busy h = tt
cell_is_quiet A.Clear K.Delaying h = tt
cell_is_quiet A.Clear K.Stopped h = tt
cell_is_quiet A.Clear K.Done h = tt
cell_is_quiet A.Stop k h = absurd h
cell_is_quiet A.Reset k h = absurd h

module _ (a : Action) (added : List ℕ) (d : Device) (h : NoStop a) where
  leaves : SameBody d.core (acted_of (order_of a d.core.course.state) (verdict_for a added d) (length added) d.core)
  leaves = acted_leaves (order_of a d.core.course.state) (verdict_for a added d) (length added) d.core (cell_is_quiet a (column_of d.core.course.state) h)

  pub strings_R_X_and_C_leave_the_body : (act_of a added d).next.device.core.body ≡ d.core.body
  unfolding act_of
  strings_R_X_and_C_leave_the_body = leaves.body

  pub strings_R_X_and_C_add_nothing_to_the_history : (act_of a added d).events ≡ []
  unfolding act_of
  strings_R_X_and_C_add_nothing_to_the_history = leaves.events
