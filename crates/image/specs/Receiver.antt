-- A line in the host's memory: eight tags, and the numbers that go with them; those that don't are 0.
use Rattle.std.specs.Prelude.{ℕ, Bool, ◌&&◌, eqb, if◌then◌else◌}
use Rattle.line.specs.declared.Line.{Line}
use Rattle.line.specs.declared.Line.TheVariants.{Dt, Oem}
use Rattle.line.specs.declared.dt.Dt as DT
use Rattle.line.specs.declared.dt.Dt.TheVariants as D
use Rattle.line.specs.declared.oem.Oem as OEM
use Rattle.line.specs.declared.oem.Oem.TheVariants as O
use Rattle.line.specs.declared.oem.Head.{Head}
use Rattle.image.specs.declared.receiver.Held.{Held}

abbrev pub bare : ℕ → ℕ → ℕ → Held
bare tag owner n = record { tag = tag; owner = owner; sequence = 0; sum = 0; count = n }

abbrev pub headed : ℕ → Head → ℕ → Held
headed tag h n = record { tag = tag; owner = h.address; sequence = h.sequence; sum = h.sum; count = n }

abbrev pub held_dt : DT.Dt → Held
held_dt D.Outside = bare 0 0 0
held_dt D.Started = bare 1 0 0
held_dt (D.Collecting a n) = bare 2 a n

abbrev pub held_oem : OEM.Oem → Held
held_oem O.Outside = bare 3 0 0
held_oem O.Started = bare 4 0 0
held_oem (O.Addressed a) = bare 5 a 0
held_oem (O.Collecting h n) = headed 6 h n
held_oem (O.Ended h n) = headed 7 h n

abbrev pub held_of : Line → Held
held_of (Dt d) = held_dt d
held_of (Oem o) = held_oem o

-- and back: by the tag
abbrev pub head_in : Held → Head
head_in h = record { address = h.owner; sequence = h.sequence; sum = h.sum }

unfoldable pub line_at : ℕ → ℕ → ℕ → Head → Line
line_at tag owner n h =
    if eqb tag 1 then Dt D.Started
    else if eqb tag 2 then Dt (D.Collecting owner n)
    else if eqb tag 3 then Oem O.Outside
    else if eqb tag 4 then Oem O.Started
    else if eqb tag 5 then Oem (O.Addressed owner)
    else if eqb tag 6 then Oem (O.Collecting h n)
    else if eqb tag 7 then Oem (O.Ended h n)
    else Dt D.Outside

abbrev pub line_by : Held → Line
line_by h = line_at h.tag h.owner h.count (head_in h)

unfoldable pub same_held : Held → Held → Bool
same_held a b =
    eqb a.tag b.tag && (eqb a.owner b.owner && (eqb a.sequence b.sequence && (eqb a.sum b.sum && eqb a.count b.count)))
