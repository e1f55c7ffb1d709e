-- 02, W-204, "OEM framing": "Received: 02h, address, sequence 30h to 37h (otherwise unused), data, 03h, then the exclusive-or of everything before it."
use Rattle.std.specs.Prelude.{ℕ, ◌+◌, ◌≤◌, Bool, ◌&&◌, ltb, leb, eqb, if◌then◌else◌}
use Rattle.std.specs.Int.Bits.{bit_xor}
use Rattle.line.specs.declared.Deed.TheVariants.{Keep, Frame}
use Rattle.line.specs.declared.oem.Head.{Head}
use Rattle.line.specs.declared.oem.Oem.{Oem}
use Rattle.line.specs.declared.oem.Oem.TheVariants.{Outside, Started, Addressed, Collecting, Ended}
use Rattle.line.specs.declared.Heard.{Heard}
use Rattle.line.specs.Bytes.{printable}
use Rattle.line.specs.Heard.{waits}

abbrev pub stx : ℕ
stx = 2

abbrev pub etx : ℕ
etx = 3

-- "sequence 30h to 37h"
unfoldable pub sequenced : ℕ → Bool
sequenced b = leb 48 b && leb b 55

-- a frame in hand: to whom, its sequence byte, and the exclusive-or of all its bytes so far
abbrev pub head_of : ℕ → ℕ → Head
head_of a s = record { address = a; sequence = s; sum = bit_xor (bit_xor stx a) s }

-- with one byte more
abbrev pub with_byte : Head → ℕ → Head
with_byte h b = record { address = h.address; sequence = h.sequence; sum = bit_xor h.sum b }

-- the address and the sequence, each of 20h to 7Eh: "until 03h, 02h starts afresh, and 03h in place of address or sequence, or another byte outside 20h to 7Eh, drops the frame"
unfoldable pub header_of : ℕ → Oem → Heard Oem
header_of b next =
    if eqb b stx then waits Started
    else if printable b then waits next
    else waits Outside

-- a data byte, of which 320 are kept; a count of 321 stands for more
unfoldable pub take_of : Head → ℕ → ℕ → Heard Oem
take_of h n b = if ltb n 320 then record { line = Collecting (with_byte h b) (n + 1); deed = Keep n } else waits (Collecting (with_byte h b) 321)

-- inside a frame: 02h and what drops it as before; 03h ends the data
unfoldable pub collect_of : Head → ℕ → ℕ → Heard Oem
collect_of h n b =
    if eqb b stx then waits Started
    else if eqb b etx then waits (Ended (with_byte h etx) n)
    else if printable b then take_of h n b
    else waits Outside

-- "The checksum may be any byte, 02h included"; "a bad sum, sequence or address, judged once the sum is in, is silent": the address is judged above
unfoldable pub judged_of : Head → ℕ → ℕ → Heard Oem
judged_of h n b = if eqb b h.sum && sequenced h.sequence then record { line = Outside; deed = Frame h.address n } else waits Outside

unfoldable pub hear_of : Oem → ℕ → Heard Oem
hear_of Outside b = if eqb b stx then waits Started else waits Outside
hear_of Started b = header_of b (Addressed b)
hear_of (Addressed a) b = header_of b (Collecting (head_of a b) 0)
hear_of (Collecting h n) b = collect_of h n b
hear_of (Ended h n) b = judged_of h n b

-- a count is at most 321
abbrev pub Within : Oem → Type 0
Within Outside = Unit {0}
Within Started = Unit {0}
Within (Addressed a) = Unit {0}
Within (Collecting h n) = n ≤ 321
Within (Ended h n) = n ≤ 321
