-- 01, "Numbers that come back": the number each frame to us gets, and where it gets it.
use Rattle.std.specs.Prelude.{ℕ, ◌+◌, ◌≤◌, ◌≡◌, ◌⊎◌, Bool, true, false, ◌&&◌, ◌||◌, List, [], ◌∷◌, eqb, length, if◌then◌else◌, None, Ok, Option, Some}
use Rattle.basics.specs.Lay.{over}
use Rattle.command.specs.declared.refusal.Refusal.TheVariants as R
use Rattle.command.specs.Numbers.{refusal_number, refusal_column}
use Rattle.text.specs.declared.Question.{Question}
use Rattle.text.specs.declared.Control.{Control}
use Rattle.text.specs.declared.Data.{Data}
use Rattle.text.specs.declared.Data.TheVariants as D
use Rattle.text.specs.Data.{spaceless, body, received_of}
use Rattle.line.specs.declared.Report.{Report}
use Rattle.line.specs.declared.Report.TheVariants.{Nothing}
use Rattle.line.specs.declared.Framing.{Framing}
use Rattle.line.specs.Answer.{status_of, answer_of}
use Rattle.motion.specs.Events.{Turn}
use Rattle.buffer.specs.declared.course.State.{State}
use Rattle.buffer.specs.Course.{column_of}
use Rattle.machine.specs.declared.step.Core.{Core}
use Rattle.machine.specs.declared.Device.{Device}
use Rattle.machine.specs.Run.{ready_of}
use Rattle.machine.specs.Act.{core_error}
use Rattle.machine.specs.Refusals as Buffer
use Rattle.machine.specs.Refusals.{stored_in, NothingToRun, TooMuch, WrongLoops}
use Rattle.pipettor.specs.declared.address.Address.{Address}
use Rattle.pipettor.specs.Byte.{told_of, action_of, string_action, Exchange}
use Rattle.frames.specs.Frame.{added_of}
use Rattle.frames.specs.Grammar.{LetterAt, OperandAt}

-- "Reports never change it; a refused report answers its own code 3 and changes nothing."
abbrev pub told_number : Option Report → ℕ
told_number (Some report) = 0
told_number None = refusal_number R.Report

-- 0 where data are accepted, and else the number they are refused with: too many (15), the first wrong place (2 or 3), then what the buffer says
unfoldable pub number_for : Data → List ℕ → Address → Device → ℕ
number_for D.TooLong added a d = 15
number_for (D.Wrong m) added a d = refusal_number (R.Misread m)
number_for D.WrongReport added a d = refusal_number R.Report
number_for (D.Report q) added a d = told_number (told_of q a d.tip d.core)
number_for (D.Control c) added a d = Buffer.number_for (action_of c) added d
number_for (D.Text n run) added a d = Buffer.number_for (string_action run) added d

-- of a frame to us
unfoldable pub refusal_of : List ℕ → Address → Device → ℕ
refusal_of ds a d = number_for (received_of ds) (added_of ds) a d

-- the numbers a frame can get: 7, 8 and 10 come in a run only
abbrev pub Known : ℕ → Type 0
Known n = (n ≡ 0) ⊎ (n ≡ 2) ⊎ (n ≡ 3) ⊎ (n ≡ 14) ⊎ (n ≡ 15)

-- a report, answered or refused: "Over 320 bytes no frame counts as a report."
abbrev pub is_report : Data → Bool
is_report (D.Report q) = true
is_report D.WrongReport = true
is_report (D.Control c) = false
is_report (D.Text n run) = false
is_report (D.Wrong r) = false
is_report D.TooLong = false

-- "Empty data acts as Q. Q, ? or f first: a report."
abbrev pub report_first : List ℕ → Bool
report_first [] = true
report_first (b ∷ t) = eqb b 81 || eqb b 63 || eqb b 102

-- what is reported: nothing but in an accepted report
abbrev pub told_report : Option Report → Report
told_report (Some report) = report
told_report None = Nothing

abbrev pub report_in : Data → Address → Device → Report
report_in (D.Report q) a d = told_report (told_of q a d.tip d.core)
report_in D.WrongReport a d = Nothing
report_in (D.Control k) a d = Nothing
report_in (D.Text n run) a d = Nothing
report_in (D.Wrong r) a d = Nothing
report_in D.TooLong a d = Nothing

-- the code in the status byte: an accepted report's is the last error, an accepted other frame's 0, a refused frame's its own number
abbrev pub status_code : Data → ℕ → ℕ → ℕ
status_code x number error = if is_report x && eqb number 0 then error else number

-- the answer's bytes in the framing of the line. "Ready or busy is taken after the frame has acted."
abbrev pub answer_to : Framing → Data → ℕ → Address → Device → Core → List ℕ
answer_to f x number a before after = answer_of f (status_of (ready_of after) (status_code x number before.core.course.error)) (report_in x a before)

-- Every frame to us is answered so; "Bytes after an answer's end stay as they were."
pub record Replied (f : Framing) (x : Data) (number : ℕ) (a : Address) (d : Device) (buf : List ℕ) (e : Turn Exchange) : Type 0 where
  pub said : e.next.said ≡ Ok (Some (length (answer_to f x number a d e.next.device.core)))
  pub buffer : e.next.buffer ≡ over (answer_to f x number a d e.next.device.core) 0 buf

-- 02, W-202: the column that a frame leaves, by its data, where another was left before: "the last load refusal by 2 or 3"; "Reports don't set it. It is 0 after any other frame to us"
abbrev pub column_after : Data → ℕ → ℕ
column_after (D.Report q) before = before
column_after D.WrongReport before = before
column_after (D.Wrong m) before = refusal_column (R.Misread m)
column_after (D.Control k) before = 0
column_after (D.Text n run) before = 0
column_after D.TooLong before = 0

-- "Left behind: last error only", with its column; a refused report "changes nothing"
abbrev pub refused_core : Data → ℕ → Core → Core
refused_core x number c = if is_report x then c else core_error number (column_after x c.course.misread) c

pub record Refused (x : Data) (number : ℕ) (d : Device) (e : Turn Exchange) : Type 0 where
  pub text : e.next.device.text ≡ d.text
  pub tip : e.next.device.tip ≡ d.tip
  pub core : e.next.device.core ≡ refused_core x number d.core
  pub events : e.events ≡ []

-- a report, refused or not
pub record Unchanged (d : Device) (e : Turn Exchange) : Type 0 where
  pub device : e.next.device ≡ d
  pub events : e.events ≡ []

-- "Exactly R, T, X, C, !R: a control."
abbrev pub control_alone : List ℕ → Bool
control_alone [] = false
control_alone (b ∷ []) = eqb b 82 || eqb b 84 || eqb b 88 || eqb b 67
control_alone (b ∷ c ∷ []) = eqb b 33 && eqb c 82
control_alone (b ∷ c ∷ d ∷ t) = false

-- data that are read as a string: not too many, no report and no control
pub record IsString (ds : List ℕ) : Type 0 where
  pub short : length ds ≤ 320
  pub no_report : report_first (spaceless ds) ≡ false
  pub no_control : control_alone (spaceless ds) ≡ false

-- what is read of it: "commands, then an optional final R"
abbrev pub text_in : List ℕ → List ℕ
text_in ds = body (spaceless ds)

-- 2: "command letter not allowed here": the string is commands up to a letter outside the table
pub record WrongLetter (ds : List ℕ) : Type 0 where
  pub string : IsString ds
  pub place : ℕ
  pub letter : LetterAt (text_in ds) place

-- 3: "operand, report number or loops wrong": the string is commands up to a letter whose operand text it doesn't take; a report that asks for what there isn't; or a text that is to run and has no tree of loops
pub data WrongNumber (a : Address) (d : Device) (ds : List ℕ) : Type 0 where
  operand : IsString ds → (place read : ℕ) → OperandAt (text_in ds) place read → WrongNumber a d ds
  report : received_of ds ≡ D.WrongReport → WrongNumber a d ds
  report_number : (q : Question) → received_of ds ≡ D.Report q → told_of q a d.tip d.core ≡ None → WrongNumber a d ds
  loops_of_control : (c : Control) → received_of ds ≡ D.Control c → WrongLoops (action_of c) d.core.course.state (stored_in d) (added_of ds) → WrongNumber a d ds
  loops_of_text : (n : ℕ) (run : Bool) → received_of ds ≡ D.Text n run → WrongLoops (string_action run) d.core.course.state (stored_in d) (added_of ds) → WrongNumber a d ds

module _ (a : Address) (d : Device) (added : List ℕ) where
  -- 15: "data or text too long, or busy"
  pub data TooMuchNow : Data → Type 0 where
    too_many_bytes : TooMuchNow D.TooLong
    control : (c : Control) → TooMuch (action_of c) d.core.course.state (stored_in d) added → TooMuchNow (D.Control c)
    text : (n : ℕ) (run : Bool) → TooMuch (string_action run) d.core.course.state (stored_in d) added → TooMuchNow (D.Text n run)

-- 14: "R or X with nothing to run"
pub data NothingNow (s : State) : Data → Type 0 where
  nothing : (c : Control) → NothingToRun (action_of c) (column_of s) → NothingNow s (D.Control c)

-- 02, W-202: what the column means that a frame with these data leaves
pub record Columned (ds : List ℕ) (a : Address) (d : Device) (e : Turn Exchange) : Type 0 where
  -- the characters before it read as commands, and the one there is no letter of the table
  pub at_the_wrong_letter : (place : ℕ) → IsString ds → LetterAt (text_in ds) place → e.next.device.core.course.misread ≡ place + 1
  -- those before the letter in front of it read as commands, and from there on stands an operand text that this letter doesn't take
  pub at_the_wrong_operand : (place read : ℕ) → IsString ds → OperandAt (text_in ds) place read → e.next.device.core.course.misread ≡ place + 1
  pub a_report_leaves_it : is_report (received_of ds) ≡ true → e.next.device.core.course.misread ≡ d.core.course.misread
  -- "It is 0 after any other frame to us"
  pub any_other_frame_makes_it_0 :
      is_report (received_of ds) ≡ false → (WrongLetter ds → ⊥) → ((place read : ℕ) → IsString ds → OperandAt (text_in ds) place read → ⊥) → e.next.device.core.course.misread ≡ 0
