-- Laws of open loops, counted: one text behind another, a command in front of what follows it.
use mathlib.Core.Path.{◌≡◌, refl, sym, ap, ◌∙◌}
use mathlib.Core.List.{List, [], ◌∷◌, ◌++◌}
use Prim.Native.Nat.{ℕ}
use Rattle.std.specs.Prelude.{None, Ok, Option, Some}
use Rattle.command.specs.declared.Command.{Command}
use Rattle.text.specs.Text.{Step, Reading, reads, wrong, then_read}
use Rattle.text.specs.Loops.{part_of, level_of, follow, levels, closed, loops_ok, loops_in, level_read}

-- a level that breaks the rules stays so
pub broken_after : (l : Option ℕ) → follow l (λ d. None) ≡ None
broken_after (Some d) = refl
broken_after None = refl

-- a command, and then what follows it
pub level_command :
    (at : ℕ) (c : Command) (next : ℕ) (rest : Reading) (d : ℕ) →
    level_read (then_read at (Ok (Some (c, next))) rest) d ≡ follow (level_of d (part_of c)) (level_read rest)
unfolding levels
level_command at c next (reads steps) d = refl
level_command at c next (wrong r) d = sym (broken_after (level_of d (part_of c)))

-- what follows may be counted in another way
pub follow_same : (f g : ℕ → Option ℕ) → ((d : ℕ) → f d ≡ g d) → (l : Option ℕ) → follow l f ≡ follow l g
follow_same f g h (Some d) = h d
follow_same f g h None = refl

follow_twice : (f g : ℕ → Option ℕ) (l : Option ℕ) → follow l (λ d. follow (f d) g) ≡ follow (follow l f) g
follow_twice f g (Some d) = refl
follow_twice f g None = refl

-- one text, and then another
pub levels_append : (a b : List Step) (d : ℕ) → levels (a ++ b) d ≡ follow (levels a d) (levels b)
unfolding levels
levels_append [] b d = refl
levels_append (s ∷ a) b d =
    let l = level_of d (part_of s.command) in
    follow_same (levels (a ++ b)) (λ e. follow (levels a e) (levels b)) (levels_append a b) l ∙ follow_twice (levels a) (levels b) l

-- the loops of a text in two parts
pub counted_on : (a b : Reading) → closed (follow (level_read a 0) (level_read b)) ≡ loops_in a b
unfolding loops_ok
counted_on (reads a) (reads b) = ap closed (sym (levels_append a b 0))
counted_on (reads a) (wrong r) = rw (broken_after (levels a 0))
counted_on (wrong r) b = refl
