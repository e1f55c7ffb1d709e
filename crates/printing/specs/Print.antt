-- What lines print: 01, "The bench program", and the training rig.
use Rattle.std.specs.Prelude.{ℕ, ◌+◌, ◌≤◌, ◌/◌, ◌%◌, ◌≡◌, Bool, true, false, not, List, [], ◌∷◌, ◌++◌, leb, eqb, length, take, if◌then◌else◌, Err, None, Ok, Result, Some}
use Rattle.pipettor.specs.Said.{Said}
use Rattle.machine.specs.declared.S3.{S3}
use Rattle.basics.specs.Bytes.{chars, every}
use Rattle.basics.specs.Lay.{over}
use Rattle.decimal.specs.Digits.{digits_of, long_of}
use Rattle.line.specs.declared.Framing.{Framing}
use Rattle.line.specs.Answer.{lf}
use Rattle.desk.specs.Desk.{printed_of}
use Rattle.desk.specs.Hex.{digit_for, hex_of}

-- a line
abbrev pub ended : List ℕ → List ℕ
ended text = text ++ (lf ∷ [])

-- "for a frame, status and data, or `-` if silent"; "`S1` if the buffer lent is too short"
unfoldable pub shown_of : Framing → Said → List ℕ → List ℕ
shown_of f (Ok None) answer = ended (chars "-")
shown_of f (Ok (Some n)) answer = ended (printed_of f n answer)
shown_of f (Err _) answer = ended (chars "S1")

-- the end of a line of ticks: "` eject` at the end of what `t` and `run` print where a tick asked"
abbrev pub last_of : Bool → List ℕ
last_of true = ended (chars " eject")
last_of false = ended []

-- "for ticks, the plunger, a space, the exact position"
unfoldable pub place_of : ℕ → ℕ → Bool → List ℕ
place_of plunger exact asked = ((digits_of plunger ++ chars " ") ++ long_of exact) ++ last_of asked

-- "ticks used, space, plunger, space, exact position; or `S3`"
unfoldable pub used_of : Result ℕ S3 → ℕ → ℕ → Bool → List ℕ
used_of (Ok n) plunger exact asked = (digits_of n ++ chars " ") ++ place_of plunger exact asked
used_of (Err _) plunger exact asked = ended (chars "S3")

-- "two answers separated by a space, a bar (7Ch) and a space"
abbrev pub bar_of : Bool → List ℕ
bar_of true = []
bar_of false = chars " | "

-- what a raw byte adds: "each answer's bytes in the same form, `S1` for a byte refused so"
unfoldable pub added_of : Bool → Said → List ℕ → List ℕ
added_of first (Ok None) answer = []
added_of first (Ok (Some n)) answer = if leb n (length answer) then bar_of first ++ hex_of (take n answer) else []
added_of first (Err _) answer = bar_of first ++ chars "S1"

-- "`-` if all were silent"
abbrev pub close_of : Bool → List ℕ
close_of true = ended (chars "-")
close_of false = ended []

-- one byte of several in hex
abbrev pub pair_of : Bool → ℕ → List ℕ
pair_of true b = digit_for (b / 16) ∷ digit_for (b % 16) ∷ []
pair_of false b = 32 ∷ digit_for (b / 16) ∷ digit_for (b % 16) ∷ []

-- a text of at most so many bytes, laid into the output from a place on, and where it ends
pub record Prints (most : ℕ) (text : List ℕ) (at : ℕ) (before : List ℕ) (r : ℕ) (after : List ℕ) : Type 0 where
  pub ends : r ≡ at + length text
  pub short : length text ≤ most
  pub left : after ≡ over text at before
  pub long : length after ≡ length before

-- "Every line gets exactly one line back": a text that holds no LF, and then one
abbrev pub no_lf : ℕ → Bool
no_lf b = not (eqb b lf)

pub record OneLine (text : List ℕ) : Type 0 where
  pub body : List ℕ
  pub is : text ≡ ended body
  pub inside : every no_lf body ≡ true
