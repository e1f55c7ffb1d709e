-- A receiver of either framing, chosen when a controller is made (02, W-204: "It stands beside DT, chosen at making"): DT's rules stand in `Dt`, OEM's in `Oem`. And frames as they are sent.
use Rattle.std.specs.Prelude.{ℕ, ◌≡◌, Bool, true, false, ◌&&◌, not, List, [], ◌∷◌, ◌++◌, eqb, set, if◌then◌else◌}
use Rattle.basics.specs.Bytes.{every}
use Rattle.line.specs.declared.Framing.{Framing}
use Rattle.line.specs.declared.Framing.TheVariants as F
use Rattle.line.specs.declared.Line.{Line}
use Rattle.line.specs.declared.Line.TheVariants.{Dt, Oem}
use Rattle.line.specs.declared.Deed.{Deed}
use Rattle.line.specs.declared.Deed.TheVariants.{Nothing, Keep, Frame}
use Rattle.line.specs.declared.Heard.{Heard}
use Rattle.line.specs.declared.dt.Dt.TheVariants as D
use Rattle.line.specs.declared.oem.Oem.TheVariants as O
use Rattle.line.specs.Bytes.{printable, sum_of}
use Rattle.line.specs.Dt as Dt
use Rattle.line.specs.Dt.{slash, cr}
use Rattle.line.specs.Oem as Oem
use Rattle.line.specs.Oem.{stx, etx, sequenced}

-- before any byte
abbrev pub fresh_line : Framing → Line
fresh_line F.Dt = Dt D.Outside
fresh_line F.Oem = Oem O.Outside

abbrev pub framing_of : Line → Framing
framing_of (Dt d) = F.Dt
framing_of (Oem o) = F.Oem

-- what either hands up
unfoldable pub hear_of : Line → ℕ → Heard Line
hear_of (Dt d) b = let s = Dt.hear_of d b in record { line = Dt s.line; deed = s.deed }
hear_of (Oem o) b = let s = Oem.hear_of o b in record { line = Oem s.line; deed = s.deed }

-- the frame's data after a byte that asked for a deed
unfoldable pub keep_of : List ℕ → Deed → ℕ → List ℕ
keep_of frame Nothing b = frame
keep_of frame (Keep at) b = set frame at b
keep_of frame (Frame a n) b = frame

-- a receiver: the line, and the data of the frame in hand
pub record Received : Type 0 where
  pub line : Line
  pub frame : List ℕ

-- after one byte
unfoldable pub hears : Received → ℕ → Received
hears r b = record { line = (hear_of r.line b).line; frame = keep_of r.frame (hear_of r.line b).deed b }

-- after bytes
unfoldable pub feed : Received → List ℕ → Received
feed r [] = r
feed r (b ∷ bs) = feed (hears r b) bs

-- a deed that completes a frame, before those of later bytes
unfoldable pub completes : Deed → List Deed → List Deed
completes Nothing later = later
completes (Keep at) later = later
completes (Frame a n) later = Frame a n ∷ later

-- the frames that bytes complete
unfoldable pub frames_of : Line → List ℕ → List Deed
frames_of l [] = []
frames_of l (b ∷ bs) = completes (hear_of l b).deed (frames_of (hear_of l b).line bs)

-- the bytes before the first that completes a frame
abbrev pub is_whole : Deed → Bool
is_whole Nothing = false
is_whole (Keep at) = false
is_whole (Frame a n) = true

unfoldable pub before_frame : Line → List ℕ → List ℕ
before_frame l [] = []
before_frame l (b ∷ bs) = if is_whole (hear_of l b).deed then [] else b ∷ before_frame (hear_of l b).line bs

-- how a frame is sent: DT; OEM with a sequence byte
pub data Form : Type 0 where
  dt : Form
  oem : ℕ → Form

abbrev pub formed : Form → Framing
formed dt = F.Dt
formed (oem s) = F.Oem

-- what an address or data may hold
unfoldable pub data_byte : Framing → ℕ → Bool
data_byte F.Dt b = printable b && not (eqb b slash)
data_byte F.Oem b = printable b

abbrev pub good_form : Form → Bool
good_form dt = true
good_form (oem s) = sequenced s

-- a frame: all but its last byte, and that one
abbrev pub front : Form → ℕ → List ℕ → List ℕ
front dt a ds = slash ∷ a ∷ ds
front (oem s) a ds = stx ∷ a ∷ s ∷ (ds ++ (etx ∷ []))

abbrev pub last_byte : Form → ℕ → List ℕ → ℕ
last_byte dt a ds = cr
last_byte (oem s) a ds = sum_of (front (oem s) a ds)

abbrev pub framed : Form → ℕ → List ℕ → List ℕ
framed form a ds = front form a ds ++ (last_byte form a ds ∷ [])

-- OEM: the byte behind a frame's 03h is its sum, whatever it is
abbrev pub sum_due : Line → Bool
sum_due (Dt d) = false
sum_due (Oem O.Outside) = false
sum_due (Oem O.Started) = false
sum_due (Oem (O.Addressed a)) = false
sum_due (Oem (O.Collecting h n)) = false
sum_due (Oem (O.Ended h n)) = true

-- what a byte leaves that is met outside a frame
abbrev pub begun : ℕ → Line
begun b = if eqb b stx then Oem O.Started else Oem O.Outside

-- a frame that can be sent: of bytes that it may hold, with a sequence of 30h to 37h
pub record Sendable (form : Form) (a : ℕ) (ds : List ℕ) : Type 0 where
  pub sequence : good_form form ≡ true
  pub address : data_byte (formed form) a ≡ true
  pub bytes : every (data_byte (formed form)) ds ≡ true

-- a receiver that takes the next byte as the first of such a frame
pub record Hears (form : Form) (l : Line) : Type 0 where
  pub framing : framing_of l ≡ formed form
  pub no_sum : sum_due l ≡ false

-- a count is at most 321
abbrev pub Within : Line → Type 0
Within (Dt d) = Dt.Within d
Within (Oem o) = Oem.Within o
