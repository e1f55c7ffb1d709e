-- 01, "From the wire": answers and the status byte; and 02, W-204: what an answer is in OEM framing.
use Rattle.std.specs.Prelude.{ℕ, ◌+◌, ◌%◌, ◌≡◌, Bool, List, [], ◌∷◌, ◌++◌, ltb, length, take, if◌then◌else◌, None, Option, Some}
use Rattle.basics.specs.Bytes.{zero_digit}
use Rattle.basics.specs.Lay.{over}
use Rattle.decimal.specs.Digits.{fixed_of}
use Rattle.line.specs.declared.Framing.{Framing}
use Rattle.line.specs.declared.Framing.TheVariants.{Dt, Oem}
use Rattle.line.specs.Bytes.{sum_of}
use Rattle.line.specs.Dt.{slash, cr}
use Rattle.line.specs.Oem.{stx, etx}
use Rattle.line.specs.declared.Report.{Report}
use Rattle.line.specs.declared.Report.TheVariants.{Nothing, Character, Whole, Tenths, Thousandths}

-- "bits 7 and 6 are 0 and 1, bit 5 is 1 when ready and 0 when busy, bit 4 is 0, the low four bits are the error code"
unfoldable pub status_of : Bool → ℕ → ℕ
status_of ready code = 64 + (if ready then 32 else 0) + code % 16

-- what is reported, as it is written
unfoldable pub report_of : Report → List ℕ
report_of Nothing = []
report_of (Character c) = c ∷ []
report_of (Whole n) = fixed_of 0 n
report_of (Tenths n) = fixed_of 1 n
report_of (Thousandths n) = fixed_of 3 n

abbrev pub lf : ℕ
lf = 10

-- status and data are the same in both: "Answer: `/`, `0`, status byte, data, 03h, CR, LF."; "Answered: 02h, 30h, status, data, 03h, checksum."
unfoldable pub start_of : Framing → ℕ
start_of Dt = slash
start_of Oem = stx

unfoldable pub tail_of : Framing → List ℕ → List ℕ
tail_of Dt before = etx ∷ cr ∷ lf ∷ []
tail_of Oem before = etx ∷ sum_of (before ++ (etx ∷ [])) ∷ []

unfoldable pub answer_of : Framing → ℕ → Report → List ℕ
answer_of f status report = let before = start_of f ∷ zero_digit ∷ status ∷ report_of report in before ++ tail_of f before

-- what ends an answer, laid behind its data (no public contract cites it)
pub record Closed (f : Framing) (at : ℕ) (before : List ℕ) (r : ℕ) (after : List ℕ) : Type 0 where
  pub end : r ≡ at + length (tail_of f (take at before))
  pub bytes : after ≡ over (tail_of f (take at before)) at before

-- "S1: answer buffer lent is shorter than 32 bytes: controller and buffer unchanged." "Bytes after an answer's end stay as they were."
pub record Answered (f : Framing) (status : ℕ) (report : Report) (before : List ℕ) (r : Option ℕ) (after : List ℕ) : Type 0 where
  pub said : r ≡ (if ltb (length before) 32 then None else Some (length (answer_of f status report)))
  pub left : after ≡ (if ltb (length before) 32 then before else over (answer_of f status report) 0 before)
