-- From a byte received to the bytes answered: the layers' own definitions, one after the other.
use Rattle.std.specs.Prelude.{ℕ, Bool, true, false, List, ◌≡◌, ltb, eqb, length, take, if◌then◌else◌, Err, None, Ok, Option, Some}
use Rattle.text.specs.declared.Data.{Data}
use Rattle.pipettor.specs.Said.{Said, s1}
use Rattle.line.specs.declared.Report.{Report}
use Rattle.command.specs.Verdict.{Verdict}
use Rattle.basics.specs.Lay.{over}
use Rattle.command.specs.declared.refusal.Refusal.TheVariants as R
use Rattle.command.specs.Numbers.{refusal_number, refusal_column, verdict_number}
use Rattle.text.specs.declared.Question.{Question}
use Rattle.text.specs.declared.Control.{Control}
use Rattle.text.specs.declared.Control.TheVariants.{Run, Stop, Again, Clear, Reset}
use Rattle.text.specs.declared.Data.TheVariants as D
use Rattle.text.specs.Data.{spaceless, data_of}
use Rattle.line.specs.declared.Report.TheVariants.{Nothing}
use Rattle.line.specs.declared.Deed.{Deed}
use Rattle.line.specs.declared.Deed.TheVariants as W
use Rattle.line.specs.declared.Framing.{Framing}
use Rattle.line.specs.Wire.{framing_of, hear_of, keep_of}
use Rattle.line.specs.Answer.{status_of, answer_of}
use Rattle.motion.specs.Events.{Turn, quiet}
use Rattle.machine.specs.declared.step.Core.{Core}
use Rattle.buffer.specs.declared.order.Action.{Action}
use Rattle.buffer.specs.declared.order.Action.TheVariants as A
use Rattle.machine.specs.Run.{ready_of}
use Rattle.machine.specs.declared.Device.{Device}
use Rattle.machine.specs.Act.{core_error, Acted, acted, act_of}
use Rattle.pipettor.specs.declared.address.Address.{Address}
use Rattle.pipettor.specs.declared.acting.Task.{Task}
use Rattle.pipettor.specs.declared.acting.Task.TheVariants as T
use Rattle.pipettor.specs.declared.Controller.{Controller}
use Rattle.pipettor.specs.declared.Reply.{Reply}
use Rattle.pipettor.specs.Address.{letter_of}
use Rattle.reports.specs.Reports.{tell_of}

-- the data of a frame to us: "more than 320 data bytes, spaces counted (15)" come first
unfoldable pub fetched_of : ℕ → List ℕ → Option Data
fetched_of n frame = if ltb 320 n then Some D.TooLong else Some (data_of (spaceless (take n frame)))

-- "Spaces are dropped first, everywhere": where they stand in the frame
unfoldable pub squeezed_in : ℕ → List ℕ → List ℕ
squeezed_in n frame = if ltb 320 n then frame else over (spaceless (take n frame)) 0 frame

-- "Any other address: silent."
unfoldable pub got_of : ℕ → Deed → List ℕ → Option Data
got_of ours W.Nothing frame = None
got_of ours (W.Keep at) frame = None
got_of ours (W.Frame a n) frame = if eqb a ours then fetched_of n frame else None

unfoldable pub squeezed_of : ℕ → Deed → List ℕ → List ℕ
squeezed_of ours W.Nothing frame = frame
squeezed_of ours (W.Keep at) frame = frame
squeezed_of ours (W.Frame a n) frame = if eqb a ours then squeezed_in n frame else frame

-- both, as functions on a lent frame promise them
pub record Fetched (n : ℕ) (before : List ℕ) (r : Option Data) (after : List ℕ) : Type 0 where
  pub got : r ≡ fetched_of n before
  pub left : after ≡ squeezed_in n before

pub record Gotten (ours : ℕ) (deed : Deed) (before : List ℕ) (r : Option Data) (after : List ℕ) : Type 0 where
  pub got : r ≡ got_of ours deed before
  pub left : after ≡ squeezed_of ours deed before

-- what a control is to the buffer
abbrev pub action_of : Control → Action
action_of Run = A.Run
action_of Stop = A.Stop
action_of Again = A.Again
action_of Clear = A.Clear
action_of Reset = A.Reset

abbrev pub string_action : Bool → Action
string_action true = A.Launch
string_action false = A.Store

-- what data ask of the device: reports nothing; what is refused in reading, that refusal
unfoldable pub task_of : Option Data → Task
task_of None = T.Leave
task_of (Some (D.Report q)) = T.Leave
task_of (Some D.WrongReport) = T.Leave
task_of (Some (D.Control c)) = T.Act (action_of c)
task_of (Some (D.Text n run)) = T.Act (string_action run)
task_of (Some (D.Wrong m)) = T.Refuse (R.Misread m)
task_of (Some D.TooLong) = T.Refuse R.TooLong

-- how many characters come with it
abbrev pub size_of : Option Data → ℕ
size_of None = 0
size_of (Some (D.Report q)) = 0
size_of (Some D.WrongReport) = 0
size_of (Some (D.Control c)) = 0
size_of (Some (D.Text n run)) = n
size_of (Some (D.Wrong r)) = 0
size_of (Some D.TooLong) = 0

-- what a task does to a device, with the characters that come with it
unfoldable pub performed_of : Task → List ℕ → Device → Turn Acted
performed_of T.Leave added d = quiet (acted d.text d.tip d.core (Ok tt))
performed_of (T.Refuse why) added d = quiet (acted d.text d.tip (core_error (refusal_number why) (refusal_column why) d.core) (Err why))
performed_of (T.Act action) added d = act_of action added d

-- what is answered: "an accepted report's [status] carries the last error, an accepted other frame's 0, a refused frame's its own code"
abbrev pub told_code : Option Report → ℕ → Option (Report × ℕ)
told_code (Some report) error = Some (report, error)
told_code None error = Some (Nothing, refusal_number R.Report)

abbrev pub told_of : Question → Address → Bool → Core → Option Report
told_of q address tip c = tell_of q (letter_of address) tip c.body c.course

unfoldable pub outcome_of : Option Data → Address → Verdict → Bool → Core → Option (Report × ℕ)
outcome_of None address v tip c = None
outcome_of (Some (D.Report q)) address v tip c = told_code (told_of q address tip c) c.course.error
outcome_of (Some D.WrongReport) address v tip c = Some (Nothing, refusal_number R.Report)
outcome_of (Some (D.Control k)) address v tip c = Some (Nothing, verdict_number v)
outcome_of (Some (D.Text n run)) address v tip c = Some (Nothing, verdict_number v)
outcome_of (Some (D.Wrong m)) address v tip c = Some (Nothing, verdict_number v)
outcome_of (Some D.TooLong) address v tip c = Some (Nothing, verdict_number v)

-- how it is written, in the framing of the line: all that the framing decides of an answer
unfoldable pub said_of : Framing → Option (Report × ℕ) → Bool → Said
said_of f None ready = Ok None
said_of f (Some (report, code)) ready = Ok (Some (length (answer_of f (status_of ready code) report)))

unfoldable pub written_of : Framing → Option (Report × ℕ) → Bool → List ℕ → List ℕ
written_of f None ready buf = buf
written_of f (Some (report, code)) ready buf = over (answer_of f (status_of ready code) report) 0 buf

-- an answer that finds less than 32 bytes isn't written
abbrev pub unsaid : Option (Report × ℕ) → Said
unsaid None = Ok None
unsaid (Some (report, code)) = Err s1

pub record Spoken (f : Framing) (o : Option (Report × ℕ)) (ready : Bool) (before : List ℕ) (r : Said) (after : List ℕ) : Type 0 where
  pub said : r ≡ (if ltb (length before) 32 then unsaid o else said_of f o ready)
  pub left : after ≡ (if ltb (length before) 32 then before else written_of f o ready before)

-- a controller with what was said, and the answer buffer
pub record After : Type 0 where
  pub reply : Reply
  pub buffer : List ℕ

abbrev pub after : Reply → List ℕ → After
after r buf = record { reply = r; buffer = buf }

abbrev pub reply : Controller → Said → Reply
reply c said = record { controller = c; said = said }

-- what was brought, with the characters that come with it: what is left of the device, what is said, and the answer buffer
pub record Exchange : Type 0 where
  pub device : Device
  pub said : Said
  pub buffer : List ℕ

-- "Ready or busy is taken after the frame has acted."
unfoldable pub dealt_of : Framing → Option Data → List ℕ → Address → Device → List ℕ → Turn Exchange
dealt_of f got added a d buf =
    let turn = performed_of (task_of got) added d in
    let outcome = outcome_of got a turn.next.verdict d.tip d.core in
    let ready = ready_of turn.next.device.core in
    record { next = record { device = turn.next.device; said = said_of f outcome ready; buffer = written_of f outcome ready buf }; events = turn.events }

-- a byte that is heard: the receiver, the frame, what it brings, and what comes of that
unfoldable pub heard_of : Controller → ℕ → List ℕ → Turn After
heard_of k b buf =
    let h = hear_of k.line b in
    let ours = letter_of k.address in
    let frame = keep_of k.frame h.deed b in
    let got = got_of ours h.deed frame in
    let squeezed = squeezed_of ours h.deed frame in
    let e = dealt_of (framing_of k.line) got (take (size_of got) squeezed) k.address k.device buf in
    record {
      next = after (reply (record { address = k.address; line = h.line; frame = squeezed; device = e.next.device }) e.next.said) e.next.buffer;
      events = e.events;
    }

-- "S1 comes before everything else": "controller and buffer unchanged"
unfoldable pub byte_of : Controller → ℕ → List ℕ → Turn After
byte_of k b buf = if ltb (length buf) 32 then quiet (after (reply k (Err s1)) buf) else heard_of k b buf
