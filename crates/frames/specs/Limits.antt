-- 01, "The buffer": "Text holds at most 256 characters, without spaces and the final R."
use Rattle.std.specs.Prelude.{ℕ, ◌≡◌, Bool, true, List, [], ◌++◌, length, take}
use Rattle.line.specs.declared.Framing.{Framing}
use Rattle.motion.specs.declared.Activity.TheVariants.{Delaying}
use Rattle.text.specs.Text.{read_of}
use Rattle.text.specs.Loops.{loops_in}
use Rattle.text.specs.Data.{spaceless, body, received_of}
use Rattle.buffer.specs.declared.course.State.{State}
use Rattle.buffer.specs.declared.course.State.TheVariants.{Empty, Stored, Running, Stopped, Done}
use Rattle.machine.specs.declared.Device.{Device}
use Rattle.pipettor.specs.declared.address.Address.{Address}
use Rattle.frames.specs.Frame.{exchange_of}
use Rattle.frames.specs.Refused.{refusal_of, Refused}

-- a string, with R or without, in a state that takes it: "String without R: Stored"; "String with R: joined after Stored text and run; in Empty, Done or Stopped it replaces and runs; while delaying it replaces and runs"
pub data Takes : Bool → State → Type 0 where
  empty : (run : Bool) → Takes run Empty
  stopped : (run : Bool) → Takes run Stopped
  done : (run : Bool) → Takes run Done
  stored : (run : Bool) → Takes run Stored
  delaying : (k : ℕ) → Takes true (Running (Delaying k))

-- what stands before it then, with R or without: Stored text (02, W-201), and else nothing
abbrev pub front_of : State → List ℕ → List ℕ
front_of Stored text = text
front_of Empty text = []
front_of Stopped text = []
front_of Done text = []
front_of (Running a) text = []

abbrev pub front_in : Device → List ℕ
front_in d = front_of d.core.course.state (take d.core.course.len d.text)

-- the text that a string makes in a device
abbrev pub whole_of : List ℕ → Device → List ℕ
whole_of ds d = front_in d ++ body (spaceless ds)

-- "Loops are checked over the whole text when it is to run."
abbrev pub LoopsRight : Bool → List ℕ → List ℕ → Type 0
LoopsRight run front added = run ≡ true → loops_in (read_of front) (read_of added) ≡ true

-- a device whose text is this, all of it
pub record Holds (whole : List ℕ) (d : Device) : Type 0 where
  pub len : d.core.course.len ≡ length whole
  pub text : take (length whole) d.text ≡ whole

-- Data that are accepted, and make this text.
pub record Accepts (f : Framing) (whole ds : List ℕ) (a : Address) (d : Device) (buf : List ℕ) : Type 0 where
  pub number : refusal_of ds a d ≡ 0
  pub holds : Holds whole (exchange_of f ds a d buf).next.device

-- Data that are refused with a code, and what they leave.
pub record RefusesWith (f : Framing) (code : ℕ) (ds : List ℕ) (a : Address) (d : Device) (buf : List ℕ) : Type 0 where
  pub number : refusal_of ds a d ≡ code
  pub left : Refused (received_of ds) code d (exchange_of f ds a d buf)
