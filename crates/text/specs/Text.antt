-- 01, "Reading the data": a text is read from the left, command by command, and the first wrong place decides.
use Rattle.std.specs.Prelude.{ℕ, ◌+◌, Bool, true, false, ◌&&◌, List, [], ◌∷◌, if◌then◌else◌, Err, None, Ok, Result, Some}
use Rattle.command.specs.Found.{Found}
use Rattle.operand.specs.declared.Class.TheVariants.{Operand}
use Rattle.operand.specs.Text.{has}
use Rattle.command.specs.declared.Command.{Command}
use Rattle.command.specs.declared.refusal.Misread.{Misread}
use Rattle.command.specs.Command.{found_in}

-- a command that was read, from a place up to the next
pub record Step : Type 0 where
  pub at : ℕ
  pub command : Command
  pub next : ℕ

pub data Reading : Type 0 where
  reads : List Step → Reading
  wrong : Misread → Reading

-- what stands at a place, and then what follows it
abbrev pub then_read : ℕ → Found → Reading → Reading
then_read at (Ok (Some (c, next))) (reads steps) = reads (record { at = at; command = c; next = next } ∷ steps)
then_read at (Ok (Some (c, next))) (wrong r) = wrong r
then_read at (Err r) rest = wrong r
then_read at (Ok None) rest = rest

-- "Any character that belongs to no operand text counts as a letter": behind a letter, digits, points and commas are its operand text
unfoldable pub read_from : Bool → ℕ → List ℕ → Reading
read_from behind at [] = reads []
read_from behind at (b ∷ t) =
    if behind && has Operand b
    then read_from true (at + 1) t
    else then_read at (found_in at (b ∷ t)) (read_from true (at + 1) t)

unfoldable pub read_of : List ℕ → Reading
read_of t = read_from false 0 t

-- whether a text reads, or its first wrong place
abbrev pub verdict : Reading → Result Unit Misread
verdict (reads steps) = Ok tt
verdict (wrong r) = Err r

unfoldable pub check_of : List ℕ → Result Unit Misread
check_of t = verdict (read_of t)
