-- 01, "Reading the data": what the data of a frame are.
use Rattle.std.specs.Prelude.{ℕ, ◌/◌, Bool, false, ◌&&◌, List, [], ◌∷◌, eqb, ltb, length, ◌≡◌, if◌then◌else◌, Err, None, Ok, Option, Result, Some}
use Rattle.command.specs.declared.refusal.Misread.{Misread}
use Rattle.basics.specs.Lay.{over}
use Rattle.operand.specs.declared.Number.{Number}
use Rattle.operand.specs.declared.Number.TheVariants as N
use Rattle.operand.specs.Number.{number_of}
use Rattle.text.specs.declared.Question.{Question}
use Rattle.text.specs.declared.Question.TheVariants.{Query, Value, Address}
use Rattle.text.specs.declared.Control.TheVariants.{Run, Stop, Again, Clear, Reset}
use Rattle.text.specs.declared.Data.{Data}
use Rattle.text.specs.declared.Data.TheVariants as D
use Rattle.text.specs.Text.{check_of}

-- "Spaces are dropped first, everywhere."
unfoldable pub spaceless : List ℕ → List ℕ
spaceless [] = []
spaceless (b ∷ t) = if eqb b 32 then spaceless t else b ∷ spaceless t

-- squeezing a buffer leaves the rest of it as it was
pub record Squeezed (before : List ℕ) (r : ℕ) (after : List ℕ) : Type 0 where
  pub count : r ≡ length (spaceless before)
  pub bytes : after ≡ over (spaceless before) 0 before

-- "Q and ? take nothing (read as 0) or a whole number of 1 to 6 digits"
unfoldable pub asked_of : Number → Option ℕ
asked_of N.Absent = Some 0
asked_of (N.Is n decimals) = if eqb decimals 0 then Some (n / 1000) else None
asked_of (N.Wrong read) = None

-- "all else is 3"
abbrev pub report : (ℕ → Question) → Option ℕ → Data
report f (Some n) = D.Report (f n)
report f None = D.WrongReport

-- the same of a question (a private function's promise)
abbrev pub asking : Option Question → Data
asking (Some q) = D.Report q
asking None = D.WrongReport

-- "f nothing"
abbrev pub addressed : List ℕ → Data
addressed [] = D.Report Address
addressed (b ∷ t) = D.WrongReport

-- "commands, then an optional final R": the text without it, and whether it stands there
unfoldable pub body : List ℕ → List ℕ
body [] = []
body (b ∷ []) = if eqb b 82 then [] else b ∷ []
body (b ∷ c ∷ t) = b ∷ body (c ∷ t)

unfoldable pub runs : List ℕ → Bool
runs [] = false
runs (b ∷ []) = eqb b 82
runs (b ∷ c ∷ t) = runs (c ∷ t)

abbrev pub string : List ℕ → Bool → Result Unit Misread → Data
string text run (Ok tt) = D.Text (length text) run
string text run (Err r) = D.Wrong r

-- a string; "T, X, C or ! first but not exactly so" are letters outside the table, and so is R before the end
unfoldable pub string_of : List ℕ → Data
string_of t = string (body t) (runs t) (check_of (body t))

-- the control that a byte is by itself, or else the string t
abbrev pub single_of : ℕ → List ℕ → Data
single_of b t =
    if eqb b 82 then D.Control Run
    else if eqb b 84 then D.Control Stop
    else if eqb b 88 then D.Control Again
    else if eqb b 67 then D.Control Clear
    else string_of t

-- "Exactly R, T, X, C, !R: a control."
unfoldable pub control_of : List ℕ → Data
control_of [] = string_of []
control_of (b ∷ []) = single_of b (b ∷ [])
control_of (b ∷ c ∷ []) = if eqb b 33 && eqb c 82 then D.Control Reset else string_of (b ∷ c ∷ [])
control_of (b ∷ c ∷ d ∷ t) = string_of (b ∷ c ∷ d ∷ t)

-- data whose spaces are dropped: "Empty data acts as Q. Q, ? or f first: a report."
unfoldable pub data_of : List ℕ → Data
data_of [] = D.Report (Query 0)
data_of (b ∷ t) =
    if eqb b 81 then report Query (asked_of (number_of t))
    else if eqb b 63 then report Value (asked_of (number_of t))
    else if eqb b 102 then addressed t
    else control_of (b ∷ t)

-- data as received: "more than 320 data bytes, spaces counted", come first, and then "no frame counts as a report"
unfoldable pub received_of : List ℕ → Data
received_of t = if ltb 320 (length t) then D.TooLong else data_of (spaceless t)
