-- 01, "Reading the data", as a grammar and not as a reader: a text is commands one behind the other, each a letter with its operand text; or it is so up to its first wrong place.
use Rattle.std.specs.Prelude.{ℕ, ◌+◌, ◌≡◌, Bool, true, false, ◌||◌, List, [], ◌∷◌, ◌++◌, eqb, length, Err, Ok, Result}
use Rattle.command.specs.declared.refusal.Misread.{Misread}
use Rattle.command.specs.declared.Malformed.TheVariants.{WrongOperand}
use Rattle.basics.specs.Bytes.{every}
use Rattle.operand.specs.declared.Class.TheVariants as Class
use Rattle.operand.specs.Text.{has}
use Rattle.command.specs.declared.Command.{Command}
use Rattle.command.specs.declared.refusal.Misread.TheVariants.{Letter, Operand}
use Rattle.command.specs.Table.{letter_of, command_of}

abbrev pub is_among : ℕ → List ℕ → Bool
is_among b [] = false
is_among b (x ∷ xs) = eqb b x || is_among b xs

-- "Commands: W A P D V v c L K b G g M"; 02 adds E (W-203), p and B (W-206)
abbrev pub letters : List ℕ
letters = 87 ∷ 65 ∷ 80 ∷ 68 ∷ 86 ∷ 118 ∷ 99 ∷ 76 ∷ 75 ∷ 98 ∷ 77 ∷ 112 ∷ 66 ∷ 69 ∷ 103 ∷ 71 ∷ []

-- "An operand text is the longest run of digits, points and commas after a letter": what follows it begins with none of them
abbrev pub Ended : List ℕ → Type 0
Ended [] = Unit {0}
Ended (b ∷ t) = has Class.Operand b ≡ false

-- a letter's whole operand text, with what follows it
pub record Operands (operand rest : List ℕ) : Type 0 where
  pub operands : every (has Class.Operand) operand ≡ true
  pub longest : Ended rest

-- a text that is commands from its first character to its last
pub data Commands : List ℕ → Type 0 where
  none : Commands []
  command :
      (letter : ℕ) (operand rest : List ℕ) (c : Command) →
      Operands operand rest → command_of (letter_of letter) operand ≡ Ok c → Commands rest → Commands (letter ∷ (operand ++ rest))

-- "Any character that belongs to no operand text counts as a letter": in front every character, and behind a command all but an operand text's
abbrev pub Apart : List ℕ → List ℕ → Type 0
Apart [] u = Unit {0}
Apart (x ∷ t) u = Ended u

-- a text that is commands up to a place (counted from 0), and then u
pub record UpTo (t : List ℕ) (place : ℕ) (u : List ℕ) : Type 0 where
  pub before : List ℕ
  pub whole : t ≡ before ++ u
  pub here : place ≡ length before
  pub commands : Commands before
  pub apart : Apart before u

-- 2: commands, and then a letter that isn't in the table
pub record LetterAt (t : List ℕ) (place : ℕ) : Type 0 where
  pub letter : ℕ
  pub after : List ℕ
  pub up_to : UpTo t place (letter ∷ after)
  pub foreign : is_among letter letters ≡ false

-- 3: commands, then a letter, and from the place on its operand text, empty or not, which is none that it takes; W-202: so many of its characters were read
pub record OperandAt (t : List ℕ) (place read : ℕ) : Type 0 where
  pub letter : ℕ
  pub operand : List ℕ
  pub after : List ℕ
  pub at : ℕ
  pub here : place ≡ at + 1
  pub up_to : UpTo t at (letter ∷ (operand ++ after))
  pub extent : Operands operand after
  pub untaken : command_of (letter_of letter) operand ≡ Err (WrongOperand read)

-- what the grammar says of a text
abbrev pub Judged : List ℕ → Result Unit Misread → Type 0
Judged t (Ok tt) = Commands t
Judged t (Err (Letter place)) = LetterAt t place
Judged t (Err (Operand place read)) = OperandAt t place read
