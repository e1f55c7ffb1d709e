-- The command at a place of a text, with the place after it; or why there is none.
use Rattle.std.specs.Prelude.{ℕ, ◌+◌, ◌≤◌, ◌<◌, ◌≡◌, true, false, List, [], ◌∷◌, length, drop, get_or, Err, None, Ok, Result, Some}
use Rattle.command.specs.declared.Malformed.{Malformed}
use Rattle.command.specs.declared.Malformed.TheVariants.{NoLetter, WrongOperand}
use Rattle.command.specs.declared.Command.{Command}
use Rattle.command.specs.Found.{Found}
use Rattle.operand.specs.declared.Class.TheVariants as Class
use Rattle.operand.specs.Text.{has, operand_text}
use Rattle.command.specs.declared.refusal.Misread.TheVariants.{Letter, Operand}
use Rattle.command.specs.Table.{letter_of, command_of, read_by}

-- a letter at a place with an operand text of n bytes behind it
unfoldable pub placed : ℕ → ℕ → Result Command Malformed → Found
placed at n (Ok c) = Ok (Some (c, at + 1 + n))
placed at n (Err NoLetter) = Err (Letter at)
placed at n (Err (WrongOperand read)) = Err (Operand (at + 1) read)

unfoldable pub found_in : ℕ → List ℕ → Found
found_in at [] = Ok None
found_in at (b ∷ t) = placed at (length (operand_text t)) (command_of (letter_of b) (operand_text t))

unfoldable pub command_at : List ℕ → ℕ → Found
command_at s at = found_in at (drop at s)

-- how far a command reaches that stands at a place: its letter and the operand text behind it, which ends at a byte that is no operand's, or with the text
pub record Reach (s : List ℕ) (at next : ℕ) : Type 0 where
  pub forward : at < next
  pub inside : next ≤ length s
  pub far : next ≡ at + 1 + length (operand_text (drop (at + 1) s))
  pub operands : (i : ℕ) → at < i → i < next → has Class.Operand (get_or s i 0) ≡ true
  pub behind : next < length s → has Class.Operand (get_or s next 0) ≡ false

-- where a wrong operand text begins, and how many of its characters were read
pub record OperandRefused (s : List ℕ) (at p read : ℕ) : Type 0 where
  pub behind_its_letter : p ≡ at + 1
  pub read_so_far : read ≡ read_by (letter_of (get_or s at 0)) (operand_text (drop (at + 1) s))
