-- The text that a device holds, an answer that says accepted, and what becomes of a string then.
use Rattle.std.specs.Prelude.{ℕ, ◌%◌, ◌≡◌, Bool, true, false, List, take, get_or}
use Rattle.motion.specs.declared.Activity.TheVariants.{Between}
use Rattle.buffer.specs.declared.course.State.{State}
use Rattle.buffer.specs.declared.course.State.TheVariants.{Stored, Running}
use Rattle.machine.specs.declared.Device.{Device}

-- the text that a device holds
abbrev pub held : Device → List ℕ
held d = take d.core.course.len d.text

-- the status byte stands third, and its low four bits are the error code
abbrev pub SaysAccepted : List ℕ → Type 0
SaysAccepted buf = get_or buf 2 0 % 16 ≡ 0

-- "String without R: Stored"; "String with R: .. run"
abbrev pub waits_or_runs : Bool → State
waits_or_runs false = Stored
waits_or_runs true = Running Between
