-- 01: "G n gives n passes in all, each further one from the command after its g; a loop entered anew counts anew": which commands a text stands for, one after the other,
-- and which a run takes.
use Rattle.std.specs.Prelude.{ℕ, zero, suc, ◌<◌, ◌≡◌, List, [], ◌∷◌, ◌++◌, None, Ok, Result, Some}
use Rattle.command.specs.declared.refusal.Refusal.{Refusal}
use Rattle.text.specs.Text.{Step}
use Rattle.text.specs.Loops.{Part, opens, closes, plain, part_of, Nest, done, one, loop}
use Rattle.buffer.specs.declared.course.Loops.{Loops}
use Rattle.buffer.specs.declared.course.Course.{Course}
use Rattle.buffer.specs.Course.{mark, pushed, popped, repeated, pass_of, reached, opened_of, closed_of}

-- so many passes, one behind the other
abbrev pub passes : ℕ → List Step → List Step
passes zero pass = []
passes (suc n) pass = pass ++ passes n pass

-- a tree without its loops: of each its g, and n times its body with its G
abbrev pub unrolled : Nest → List Step
unrolled done = []
unrolled (one s f) = s ∷ unrolled f
unrolled (loop g inner n end f) = g ∷ passes n (unrolled inner ++ (end ∷ [])) ++ unrolled f

-- "0 is endless": a tree without endless loops
abbrev pub Ending : Nest → Type 0
Ending done = Unit {0}
Ending (one s f) = Ending f
Ending (loop g inner n end f) = (0 < n) × Ending inner × Ending f

-- where a run stands behind a command that has ended, and the loops that it then holds open
pub data Moves (s : Step) (l : Loops) : ℕ → Loops → Type 0 where
  ahead : part_of s.command ≡ plain → Moves s l s.next l
  enters : part_of s.command ≡ opens → l.depth < 4 → Moves s l s.next (pushed (mark s.next 0) l)
  returns : (n p : ℕ) → part_of s.command ≡ closes n → (l.depth ≡ 0 → ⊥) → pass_of n l.first.passes ≡ Some p → Moves s l l.first.start (repeated p l)
  leaves : (n : ℕ) → part_of s.command ≡ closes n → (l.depth ≡ 0 → ⊥) → pass_of n l.first.passes ≡ None → Moves s l s.next (popped l)

-- the same by the definitions of the run
abbrev pub went_by : Part → ℕ → Course → Result Course Refusal
went_by opens next c = opened_of next c
went_by (closes n) next c = closed_of n next c
went_by plain next c = Ok (reached next c.loops c)

-- the commands that are taken between two places of a run, first to last
pub data Taken : ℕ → Loops → List Step → ℕ → Loops → Type 0 where
  none : (at : ℕ) (l : Loops) → Taken at l [] at l
  step : (s : Step) (l : Loops) (next : ℕ) (m : Loops) (others : List Step) (to : ℕ) (r : Loops) → Moves s l next m → Taken next m others to r → Taken s.at l (s ∷ others) to r
