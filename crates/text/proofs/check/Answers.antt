use mathlib.Core.Path.{◌≡◌, refl, sym, ◌∙◌}
use mathlib.Core.List.{List}
use Prim.Native.Nat.{ℕ}
use borrow.Author.Rules.{rules}
use Rattle.std.specs.Prelude.{Err, None, Ok, Some}
use Rattle.command.specs.Found.{Found}
use Rattle.command.specs.declared.Command.{Command}
use Rattle.command.specs.declared.refusal.Misread.{Misread}
use Rattle.command.specs.Command.{command_at}
use Rattle.command.proofs.Reach.{nothing_only_at_the_end}
use Rattle.text.specs.Text.{Reading, reads, wrong, then_read, read_of, verdict, check_of}
use Rattle.text.proofs.Places.{read_at, read_end, read_refused, read_command, read_less, refused_inside, found_inside}
use Rattle.text.proofs.check.Invariants.{Left}
use Rattle.text.proofs.check.Goals as goal

start : (s : List ℕ) → Left s 0
unfolding read_at read_of check_of
start s = record { same = refl }

-- the verdict passes over a command
over : (at : ℕ) (c : Command) (next : ℕ) (rest : Reading) → verdict (then_read at (Ok (Some (c, next))) rest) ≡ verdict rest
over at c next (reads steps) = refl
over at c next (wrong r) = refl

module _ (s : List ℕ) (at : ℕ) (l : Left s at) (f : Found) (e : f ≡ command_at s at) where
  refused : (r : Misread) → f ≡ Err r → Err r ≡ check_of s
  refused r q = rw (read_refused s at r (refused_inside s at f r e q) (sym e ∙ q)) at l.same

  ended : f ≡ Ok None → Ok tt ≡ check_of s
  ended q = rw (read_end s at (nothing_only_at_the_end s at (sym e ∙ q))) at l.same

  again : (c : Command) (next : ℕ) → f ≡ Ok (Some (c, next)) → Left s next
  again c next q = record { same = sym (over at c next (read_at s next)) ∙ (rw (read_command s at c next (found_inside s at f c next e q) (sym e ∙ q)) at l.same) }

ruleset laws = (rules, start, refused, ended, read_less, again)

pub loop-next-init : goal.loop-next-init
loop-next-init c = search laws

pub returns-in_err-next : goal.returns-in_err-next
returns-in_err-next c = search laws

pub loop-next-smaller : goal.loop-next-smaller
loop-next-smaller c = search laws

pub loop-next-preserved : goal.loop-next-preserved
loop-next-preserved c = search laws

pub returns : goal.returns
returns c = search laws
