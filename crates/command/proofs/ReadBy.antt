-- Theorem, W-202: a wrong operand says how many characters were read, by the letter's form.
use mathlib.Core.Path.{◌≡◌}
use mathlib.Core.Bool.{Bool, true, false}
use mathlib.Core.List.{List, [], ◌∷◌}
use Prim.Native.Nat.{ℕ}
use lib.Dec.{eqb}
use Rattle.std.specs.Prelude.{if◌then◌else◌, Err, None, Option, Result, Some}
use Rattle.settings.specs.declared.Aspect.{Aspect}
use Rattle.command.specs.declared.Malformed.{Malformed}
use Rattle.command.specs.declared.Malformed.TheVariants.{WrongOperand}
use Rattle.operand.specs.declared.Pair.{Pair}
use Rattle.operand.specs.Number.{pair_of}
use Rattle.command.specs.declared.Letter.{Letter}
use Rattle.command.specs.declared.Letter.TheVariants as L
use Rattle.command.specs.declared.Command.{Command}
use Rattle.command.specs.declared.Command.TheVariants as C
use Rattle.command.specs.Table.{made, both, in_unit, row_of, detail_of, set_by, volume_of, paced_of, slopes_of, compensation_of, aspect_of, command_of, read_by}

module _ (far read : ℕ) where
  of_made : (f : ℕ → Command) (t : Option ℕ) → made far f t ≡ Err (WrongOperand read) → read ≡ far
  unfolding made
  of_made f (Some n) e = cc
  of_made f None e = cc

  of_both : (f : ℕ → ℕ → Command) (t u : Option ℕ) → both far f t u ≡ Err (WrongOperand read) → read ≡ far
  unfolding both
  of_both f (Some n) (Some m) e = cc
  of_both f (Some n) None e = cc
  of_both f None u e = cc

  of_unit : (t : Option ℕ) (a b : Result Command Malformed) → (a ≡ Err (WrongOperand read) → read ≡ far) → (b ≡ Err (WrongOperand read) → read ≡ far) → in_unit far t a b ≡ Err (WrongOperand read) → read ≡ far
  unfolding in_unit
  of_unit (Some unit) a b h k e = go (eqb unit 0) e
    where
      go : (x : Bool) → (if x then a else b) ≡ Err (WrongOperand read) → read ≡ far
      go true q = h q
      go false q = k q
  of_unit None a b h k e = cc

of_row : (row : Option Aspect) (p : Pair) (read : ℕ) → set_by row p ≡ Err (WrongOperand read) → read ≡ p.read
unfolding set_by
of_row (Some a) p read e = of_made p.read read (C.Set a) (detail_of a p.second) e
of_row None p read e = cc

pub a_wrong_operand_was_read_so_far : (l : Letter) (t : List ℕ) (read : ℕ) → command_of l t ≡ Err (WrongOperand read) → read ≡ read_by l t
unfolding command_of volume_of paced_of slopes_of compensation_of aspect_of read_by pair_of
a_wrong_operand_was_read_so_far L.Home t read e = of_made _ read _ _ e
a_wrong_operand_was_read_so_far (L.Volume way) t read e = of_unit _ read _ _ _ (of_made _ read _ _) (of_made _ read _ _) e
a_wrong_operand_was_read_so_far (L.Speed pace) t read e = of_unit _ read _ _ _ (of_made _ read _ _) (of_made _ read _ _) e
a_wrong_operand_was_read_so_far L.Slopes t read e = of_both _ read _ _ _ e
a_wrong_operand_was_read_so_far L.Backlash t read e = of_made _ read _ _ e
a_wrong_operand_was_read_so_far L.Compensation t read e = of_both _ read _ _ _ e
a_wrong_operand_was_read_so_far L.Delay t read e = of_made _ read _ _ e
a_wrong_operand_was_read_so_far L.Aspect t read e = of_row (row_of (pair_of t).first) (pair_of t) read e
a_wrong_operand_was_read_so_far L.Detect t read e = of_made _ read _ _ e
a_wrong_operand_was_read_so_far L.Eject t read e = of_made _ read _ _ e
a_wrong_operand_was_read_so_far L.Open [] read e = cc
a_wrong_operand_was_read_so_far L.Open (b ∷ t) read e = cc
a_wrong_operand_was_read_so_far L.Close t read e = of_made _ read _ _ e
a_wrong_operand_was_read_so_far L.Other t read e = cc
