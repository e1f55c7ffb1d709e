-- What a line asks: 01, "The bench program", and the training rig, which takes those lines and more. What is printed of an answer, and where a line ends.
use Rattle.std.specs.Prelude.{ℕ, ◌+◌, ◌-◌, ◌≤◌, ◌≡◌, Bool, true, false, ◌&&◌, List, [], ◌∷◌, leb, eqb, length, take, drop, if◌then◌else◌, None, Option, Some}
use Rattle.basics.specs.Bytes.{chars, every}
use Rattle.line.specs.declared.Framing.{Framing}
use Rattle.line.specs.declared.Framing.TheVariants as F
use Rattle.line.specs.Bytes.{printable}
use Rattle.desk.specs.declared.Desk.{Desk}
use Rattle.desk.specs.declared.Desk.TheVariants.{Bench, Rig}
use Rattle.desk.specs.declared.Quantity.{Quantity}
use Rattle.desk.specs.declared.Quantity.TheVariants.{Ticks, Run, Lend, New, Oem, Tip, Press, Minus}
use Rattle.desk.specs.declared.Word.{Word}
use Rattle.desk.specs.declared.Word.TheVariants as W
use Rattle.desk.specs.declared.Asked.{Asked}
use Rattle.desk.specs.declared.Asked.TheVariants.{Send, Number, Stop, Raw, Wrong}
use Rattle.desk.specs.Counts.{count_of}
use Rattle.desk.specs.Hex.{paired}

-- how a line begins
abbrev pub spelled : Word → List ℕ
spelled W.Frame = chars "> "
spelled (W.Number Ticks) = chars "t "
spelled (W.Number Run) = chars "run "
spelled (W.Number Lend) = chars "lend "
spelled (W.Number New) = chars "new "
spelled (W.Number Oem) = chars "oem "
spelled (W.Number Tip) = chars "tip "
spelled (W.Number Press) = chars "press "
spelled (W.Number Minus) = chars "press -"
spelled W.Stop = chars "stop"
spelled W.Raw = chars "x "
spelled W.Other = []

unfoldable pub begins : List ℕ → List ℕ → Bool
begins [] t = true
begins (a ∷ w) [] = false
begins (a ∷ w) (b ∷ t) = eqb a b && begins w t

-- none of the words begins with another, but `press -` with `press `, and so it is tested before it
unfoldable pub sense_word : List ℕ → Word
sense_word t =
    if begins (spelled (W.Number Tip)) t then W.Number Tip
    else if begins (spelled (W.Number Minus)) t then W.Number Minus
    else if begins (spelled (W.Number Press)) t then W.Number Press
    else W.Other

unfoldable pub number_word : List ℕ → Word
number_word t =
    if begins (spelled (W.Number Ticks)) t then W.Number Ticks
    else if begins (spelled (W.Number Run)) t then W.Number Run
    else if begins (spelled (W.Number Lend)) t then W.Number Lend
    else if begins (spelled (W.Number New)) t then W.Number New
    else if begins (spelled (W.Number Oem)) t then W.Number Oem
    else sense_word t

unfoldable pub word_of : List ℕ → Word
word_of t =
    if begins (spelled W.Frame) t then W.Frame
    else if begins (spelled W.Stop) t then W.Stop
    else if begins (spelled W.Raw) t then W.Raw
    else number_word t

-- the bench program has two forms of lines: "`> ` and text", "`t n`"
abbrev pub knows : Desk → Word → Bool
knows Bench W.Frame = true
knows Bench (W.Number Ticks) = true
knows Bench (W.Number Run) = false
knows Bench (W.Number Lend) = false
knows Bench (W.Number New) = false
knows Bench (W.Number Oem) = false
knows Bench (W.Number Tip) = false
knows Bench (W.Number Press) = false
knows Bench (W.Number Minus) = false
knows Bench W.Stop = false
knows Bench W.Raw = false
knows Bench W.Other = false
knows Rig w = true

-- "1 to 60000"; "0 to 64"; a tip is 0 or 1; a pressure is -40000 to 40000, without `-0`; any other number has at most 6 digits
abbrev pub least_of : Quantity → ℕ
least_of Ticks = 1
least_of Run = 0
least_of Lend = 0
least_of New = 0
least_of Oem = 0
least_of Tip = 0
least_of Press = 0
least_of Minus = 1

abbrev pub most_of : Quantity → ℕ
most_of Ticks = 60000
most_of Run = 999999
most_of Lend = 64
most_of New = 999999
most_of Oem = 999999
most_of Tip = 1
most_of Press = 40000
most_of Minus = 40000

unfoldable pub allowed : Quantity → ℕ → Bool
allowed q n = leb (least_of q) n && leb n (most_of q)

unfoldable pub ranged : Quantity → Option ℕ → Asked
ranged q (Some n) = if allowed q n then Number q n else Wrong
ranged q None = Wrong

-- by what stands behind the word: a text, a number, nothing, bytes
unfoldable pub behind : Word → List ℕ → Asked
behind W.Frame t = Send
behind (W.Number q) t = ranged q (count_of t)
behind W.Stop t = if eqb (length t) 0 then Stop else Wrong
behind W.Raw t = if paired t then Raw else Wrong
behind W.Other t = Wrong

unfoldable pub form_of : Desk → List ℕ → Asked
form_of desk t = let w = word_of t in if knows desk w then behind w (drop (length (spelled w)) t) else Wrong

-- "A line over 400 bytes, with a byte outside 20h to 7Eh, or of other form prints `?`."
unfoldable pub asked_of : Desk → List ℕ → Asked
asked_of desk t = if leb (length t) 400 && every printable t then form_of desk t else Wrong

-- "It prints, for a frame, status and data": an answer of n bytes without its first two and its last ones: 03h, CR and LF, or 03h and the sum
unfoldable pub tail_size : Framing → ℕ
tail_size F.Dt = 3
tail_size F.Oem = 2

unfoldable pub printed_of : Framing → ℕ → List ℕ → List ℕ
printed_of f n answer = if leb n (length answer) then take (n - (2 + tail_size f)) (drop 2 answer) else []

-- "It reads lines, ended by LF or the input's end": the line that a text begins with
unfoldable pub line_of : List ℕ → List ℕ
line_of [] = []
line_of (b ∷ t) = if eqb b 10 then [] else b ∷ line_of t

-- where a line ends that begins at a place: the place and the line's length on; not before the place, nor behind the text
pub record LineEnd (t : List ℕ) (from r : ℕ) : Type 0 where
  pub place : r ≡ from + length (line_of (drop from t))
  pub behind : from ≤ r
  pub inside : r ≤ from + (length t - from)
