-- 01, "The buffer": what strings and controls do to the plunger and the buffer.
use Rattle.std.specs.Prelude.{ℕ, ◌≤◌, ◌≡◌, Bool, List, length, take, if◌then◌else◌, Err, Ok}
use Rattle.command.specs.Verdict.{Verdict}
use Rattle.command.specs.Numbers.{refusal_number}
use Rattle.motion.specs.declared.Activity.TheVariants.{Between}
use Rattle.motion.specs.Events.{Turn, quiet}
use Rattle.motion.specs.Motion.{cut_of, reset_of}
use Rattle.buffer.specs.declared.course.State.{State}
use Rattle.buffer.specs.declared.course.State.TheVariants.{Empty, Stored, Running, Stopped, Done}
use Rattle.buffer.specs.declared.order.Action.{Action}
use Rattle.buffer.specs.declared.order.Change.{Change}
use Rattle.buffer.specs.declared.order.Change.TheVariants as C
use Rattle.buffer.specs.declared.order.Order.{Order}
use Rattle.buffer.specs.declared.order.Order.TheVariants as O
use Rattle.buffer.specs.Course.{in_state, with_error, reached, erased_of, waiting, begun, halted}
use Rattle.buffer.specs.Order.{order_of, length_by, verdict_of, stored_by}
use Rattle.machine.specs.declared.step.Core.{Core}
use Rattle.machine.specs.declared.Device.{Device}
use Rattle.machine.specs.Step.{core}

unfoldable pub halt_of : State → Core → Turn Core
halt_of (Running a) c = let t = cut_of a c.body in record { next = core t.next (halted c.course); events = t.events }
halt_of Empty c = quiet c
halt_of Stored c = quiet c
halt_of Stopped c = quiet c
halt_of Done c = quiet c

-- T
unfoldable pub stop_of : Core → Turn Core
stop_of c = halt_of c.course.state c

-- what is done to the text that is there, and its run
unfoldable pub changed_of : Change → Core → Turn Core
changed_of C.Begin c = quiet (core c.body (begun c.course.len c.course))
changed_of C.Resume c = quiet (core c.body (in_state (Running Between) c.course))
changed_of C.EndDelay c = quiet (core c.body (reached c.course.at c.course.loops c.course))
changed_of C.Repeat c = quiet (core c.body (begun c.course.len c.course))
changed_of C.Erase c = quiet (core c.body (erased_of c.course))
changed_of C.Halt c = stop_of c
changed_of C.Reset c = let t = reset_of c.body in record { next = core t.next (erased_of c.course); events = t.events }

-- what an accepted order does, with so many characters added: what is loaded runs or waits
unfoldable pub done_of : Order → ℕ → Core → Turn Core
done_of (O.Refuse why) n c = quiet c
done_of (O.Load loading run) n c =
    let len = length_by (O.Load loading run) c.course.len n in
    quiet (core c.body (if run then begun len c.course else waiting len c.course))
done_of (O.Change change) n c = changed_of change c

-- "An accepted frame that isn't a report sets it to 0, a refused one to its code"; a refusal leaves everything else as it was. Neither leaves a column (02, W-202)
abbrev pub core_error : ℕ → ℕ → Core → Core
core_error code column c = core c.body (with_error code column c.course)

unfoldable pub acted_of : Order → Verdict → ℕ → Core → Turn Core
acted_of order (Ok tt) n c = let t = done_of order n c in record { next = core_error 0 0 t.next; events = t.events }
acted_of order (Err why) n c = quiet (core_error (refusal_number why) 0 c)

-- what is accepted fits
pub record Fitting (order : Order) (verdict : Verdict) (len n : ℕ) : Type 0 where
  pub fits : verdict ≡ Ok tt → length_by order len n ≤ 256

-- whether an order is refused, over a text of so many characters (a private function's promise)
pub record Judged (order : Order) (text added : List ℕ) (len : ℕ) (verdict : Verdict) : Type 0 where
  pub is : verdict ≡ verdict_of order (take len text) added
  pub fitting : Fitting order verdict len (length added)

-- a device after a string or a control, and whether that was refused
pub record Acted : Type 0 where
  pub device : Device
  pub verdict : Verdict

abbrev pub acted : List ℕ → Bool → Core → Verdict → Acted
acted text tip c v = record { device = record { text = text; tip = tip; core = c }; verdict = v }

-- a string or a control, with the characters that come with it: what the table asks, whether it is refused, and what is then done
unfoldable pub act_of : Action → List ℕ → Device → Turn Acted
act_of action added d =
    let c = d.core in
    let order = order_of action c.course.state in
    let verdict = verdict_of order (take c.course.len d.text) added in
    let turn = acted_of order verdict (length added) c in
    record { next = acted (stored_by order verdict c.course.len added d.text) d.tip turn.next verdict; events = turn.events }
