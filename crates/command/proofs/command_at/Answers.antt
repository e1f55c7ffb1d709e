use mathlib.Core.Path.{◌≡◌, refl, ap, ◌∙◌}
use mathlib.Core.List.{List}
use Prim.Native.Nat.{ℕ, ◌+◌, ◌-◌, ◌^◌, ◌≤◌, ◌<◌}
use native.Mathlib.Omega.{arith}
use borrow.Author.Rules.{rules}
use mir.Val.{Fits}
use mir.Syntax.{w64}
use lib.ListN.{length, take, drop, get_or, drop_of_length-le, length-drop}
use Rattle.std.specs.Prelude.{None, Ok, Result, Err, Some}
use Rattle.command.specs.declared.Malformed.{Malformed}
use Rattle.command.specs.declared.Malformed.TheVariants.{NoLetter, WrongOperand}
use Rattle.command.specs.declared.refusal.Misread.{Misread}
use Rattle.command.specs.declared.Command.{Command}
use Rattle.command.specs.Found.{Found}
use Rattle.basics.proofs.Lists.{drop_step, tail_all}
use Rattle.operand.specs.Text.{operand_text}
use Rattle.operand.proofs.Runs.{run_short, take_run}
use Rattle.operand.specs.declared.Class.TheVariants.{Operand}
use Rattle.command.specs.declared.Letter.{Letter}
use Rattle.command.specs.Table.{letter_of, command_of}
use Rattle.command.specs.Command.{placed, found_in, command_at}
use Rattle.command.proofs.command_at.Goals as goal

-- what is malformed is refused whatever stands behind it
any_size : (at n : ℕ) (why : Malformed) → placed at 0 (Err why) ≡ placed at n (Err why)
unfolding placed
any_size at n NoLetter = refl
any_size at n (WrongOperand read) = refl

module _ (s : List ℕ) (at : ℕ) where
  ended : length s ≤ at → Ok None ≡ command_at s at
  unfolding command_at found_in
  ended h = rw (drop_of_length-le s h)

  module _ (h : at < length s) (size : ℕ) (e : size ≡ length (operand_text (take (length s - (at + 1)) (drop (at + 1) s)))) where
    here : size ≡ length (operand_text (drop (at + 1) s))
    here = rw (tail_all (at + 1) s) at e

    short : at + 1 + size ≤ length s
    short = omega (arith, here, run_short Operand (drop (at + 1) s), length-drop (at + 1) s)

    fits : length s < 2 ^ 64 → Fits w64 (at + 1 + size)
    fits l = let k = short in omega arith

    found :
        (letter : Letter) (formed : Result Command Malformed) (r : Found) → letter ≡ letter_of (get_or s at 0) →
        formed ≡ command_of letter (take (at + 1 + size - (at + 1)) (drop (at + 1) s)) →
        r ≡ placed at (at + 1 + size - (at + 1)) formed → r ≡ command_at s at
    unfolding command_at found_in
    found letter formed r l f p =
        let n : at + 1 + size - (at + 1) ≡ length (operand_text (drop (at + 1) s)) = omega (arith, here) in
        rw (drop_step s at h) (rw (f, n, l, take_run Operand (drop (at + 1) s)) at p)

    made : (letter : Letter) (formed : Result Command Malformed) (c : Command) → letter ≡ letter_of (get_or s at 0) →
        formed ≡ command_of letter (take (at + 1 + size - (at + 1)) (drop (at + 1) s)) → formed ≡ Ok c → Ok (Some (c, at + 1 + size)) ≡ command_at s at
    unfolding placed
    made letter formed c l f o = found letter formed _ l f (rw o (ap (λ (n : ℕ). Ok (Some (c, n))) (omega arith)))

    refused : (letter : Letter) (formed : Result Command Malformed) (why : Malformed) (m : Misread) → letter ≡ letter_of (get_or s at 0) →
        formed ≡ command_of letter (take (at + 1 + size - (at + 1)) (drop (at + 1) s)) → formed ≡ Err why → Err m ≡ placed at 0 (Err why) → Err m ≡ command_at s at
    refused letter formed why m l f o e = found letter formed _ l f (rw o (e ∙ any_size at _ why))

ruleset laws = (rules, short, fits, made, refused)

pub overflow_add-next : goal.overflow_add-next
overflow_add-next c = search laws

pub slice_bounds-form-end : goal.slice_bounds-form-end
slice_bounds-form-end c = search laws

pub returns-in-Ok : goal.returns-in-Ok
returns-in-Ok c = search laws

pub returns-in-Err : goal.returns-in-Err
returns-in-Err c = search laws
