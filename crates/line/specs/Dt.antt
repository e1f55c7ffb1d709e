-- 01, "From the wire": "Frame: `/` (2Fh), address, data, CR (0Dh). Bytes come one at a time."
use Rattle.std.specs.Prelude.{ℕ, ◌+◌, ◌≤◌, ltb, eqb, if◌then◌else◌}
use Rattle.line.specs.declared.Deed.TheVariants.{Keep, Frame}
use Rattle.line.specs.declared.dt.Dt.{Dt}
use Rattle.line.specs.declared.dt.Dt.TheVariants.{Outside, Started, Collecting}
use Rattle.line.specs.declared.Heard.{Heard}
use Rattle.line.specs.Bytes.{printable}
use Rattle.line.specs.Heard.{waits}

abbrev pub slash : ℕ
slash = 47

abbrev pub cr : ℕ
cr = 13

-- a frame has ended
abbrev pub whole : ℕ → ℕ → Heard Dt
whole a n = record { line = Outside; deed = Frame a n }

-- CR ends a frame. "Outside a frame everything but `/` is ignored. CR straight after `/` drops the frame."
unfoldable pub end_of : Dt → Heard Dt
end_of Outside = waits Outside
end_of Started = waits Outside
end_of (Collecting a n) = whole a n

-- a byte of a frame: the address, and then data, of which 320 bytes are kept; a count of 321 stands for more
unfoldable pub take_of : Dt → ℕ → Heard Dt
take_of Outside b = waits Outside
take_of Started b = waits (Collecting b 0)
take_of (Collecting a n) b = if ltb n 320 then record { line = Collecting a (n + 1); deed = Keep n } else waits (Collecting a 321)

-- "`/` always starts a new frame and drops the one in hand. A byte other than CR and 20h to 7Eh drops the frame; the receiver waits for `/`."
unfoldable pub hear_of : Dt → ℕ → Heard Dt
hear_of d b =
    if eqb b slash then waits Started
    else if eqb b cr then end_of d
    else if printable b then take_of d b
    else waits Outside

-- a count is at most 321
abbrev pub Within : Dt → Type 0
Within Outside = Unit {0}
Within Started = Unit {0}
Within (Collecting a n) = n ≤ 321
