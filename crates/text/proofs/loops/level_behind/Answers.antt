use mathlib.Core.Path.{◌≡◌, refl, sym, ap, ◌∙◌}
use mathlib.Core.List.{List}
use Prim.Native.Nat.{ℕ}
use borrow.Author.Rules.{rules}
use Rattle.std.specs.Prelude.{Err, None, Ok, Option, Some}
use Rattle.command.specs.Found.{Found}
use Rattle.command.specs.declared.Command.{Command}
use Rattle.command.specs.declared.refusal.Misread.{Misread}
use Rattle.command.specs.Command.{command_at}
use Rattle.command.proofs.Reach.{nothing_only_at_the_end}
use Rattle.text.specs.Text.{read_of}
use Rattle.text.specs.Loops.{part_of, level_of, follow, levels, level_read}
use Rattle.text.proofs.Levels.{level_command}
use Rattle.text.proofs.Places.{read_at, read_end, read_refused, read_command, read_less, refused_inside, found_inside}
use Rattle.text.proofs.loops.level_behind.Invariants.{Left}
use Rattle.text.proofs.loops.level_behind.Goals as goal

start : (s : List ℕ) (first : ℕ) → Left s first 0 first
unfolding read_at read_of
start s first = record { same = refl }

module _ (s : List ℕ) (first at d : ℕ) (l : Left s first at d) (f : Found) (e : f ≡ command_at s at) where
  refused : (r : Misread) → f ≡ Err r → None ≡ level_read (read_of s) first
  refused r q = rw (read_refused s at r (refused_inside s at f r e q) (sym e ∙ q)) at l.same

  ended : f ≡ Ok None → Some d ≡ level_read (read_of s) first
  unfolding levels
  ended q = rw (read_end s at (nothing_only_at_the_end s at (sym e ∙ q))) at l.same

  module _ (c : Command) (next : ℕ) (q : f ≡ Ok (Some (c, next))) where
    step : follow (level_of d (part_of c)) (level_read (read_at s next)) ≡ level_read (read_of s) first
    step =
        sym (level_command at c next (read_at s next) d) ∙
        sym (ap (λ r. level_read r d) (read_command s at c next (found_inside s at f c next e q) (sym e ∙ q))) ∙ l.same

    module _ (v : Option ℕ) (w : v ≡ level_of d (part_of c)) where
      broken : v ≡ None → None ≡ level_read (read_of s) first
      broken z = rw (← w, z) at step

      again : (n : ℕ) → v ≡ Some n → Left s first next n
      again n z = record { same = rw (← w, z) at step }

ruleset laws = (rules, start, refused, ended, read_less, broken, again)

pub loop-c-init : goal.loop-c-init
loop-c-init c = search laws

pub returns-in_err-c : goal.returns-in_err-c
returns-in_err-c c = search laws

pub returns-in_err-level : goal.returns-in_err-level
returns-in_err-level c = search laws

pub loop-c-smaller : goal.loop-c-smaller
loop-c-smaller c = search laws

pub loop-c-preserved : goal.loop-c-preserved
loop-c-preserved c = search laws

pub returns : goal.returns
returns c = search laws
