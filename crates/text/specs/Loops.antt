-- 01, "Loops": a text as a tree of commands and loops.
use Rattle.std.specs.Prelude.{ℕ, ◌+◌, ◌-◌, ◌≤◌, max, ◌≡◌, Bool, false, List, [], ◌∷◌, ◌++◌, ltb, eqb, if◌then◌else◌, None, Option, Some}
use Rattle.command.specs.declared.Command.{Command}
use Rattle.command.specs.declared.Command.TheVariants as C
use Rattle.text.specs.Text.{Step, Reading, reads, wrong}

-- g and G mark loops; every other command stands for itself
pub data Part : Type 0 where
  opens : Part
  closes : ℕ → Part
  plain : Part

abbrev pub part_of : Command → Part
part_of C.Open = opens
part_of (C.Close n) = closes n
part_of (C.Initialise n) = plain
part_of (C.Move way v) = plain
part_of (C.Speed pace n) = plain
part_of (C.Slopes up down) = plain
part_of (C.Backlash n) = plain
part_of (C.Compensate b down) = plain
part_of (C.Delay ms) = plain
part_of (C.Set a n) = plain
part_of (C.Detect here) = plain
part_of (C.Eject bare) = plain

-- nothing; a command and what follows; a loop with its g, its body, its passes and its G, and what follows. Each command with its places
pub data Nest : Type 0 where
  done : Nest
  one : Step → Nest → Nest
  loop : Step → Nest → ℕ → Step → Nest → Nest

-- the commands of a tree, and then some more
abbrev pub spell : Nest → List Step → List Step
spell done more = more
spell (one s f) more = s ∷ spell f more
spell (loop g inner n end f) more = g ∷ spell inner (end ∷ spell f more)

-- "g opens, G closes the nearest open g": no g or G stands for itself
abbrev pub Proper : Nest → Type 0
Proper done = Unit {0}
Proper (one s f) = (part_of s.command ≡ plain) × Proper f
Proper (loop g inner n end f) = (part_of g.command ≡ opens) × (part_of end.command ≡ closes n) × Proper inner × Proper f

-- how many loops lie round a place, at most
abbrev pub depth : Nest → ℕ
depth done = 0
depth (one s f) = depth f
depth (loop g inner n end f) = max (depth inner + 1) (depth f)

-- "Depth at most 4"; a g left open and a G without an open g are in no tree (02, W-213)
pub record Accepted (t : List Step) : Type 0 where
  pub nest : Nest
  pub proper : Proper nest
  pub spelt : spell nest [] ≡ t
  pub shallow : depth nest ≤ 4

-- counted: how many loops are open behind a command, or that it breaks the rules: depth 5, or a G without an open g
unfoldable pub level_of : ℕ → Part → Option ℕ
level_of d opens = if ltb d 4 then Some (d + 1) else None
level_of d (closes n) = if eqb d 0 then None else Some (d - 1)
level_of d plain = Some d

abbrev pub follow : Option ℕ → (ℕ → Option ℕ) → Option ℕ
follow (Some d) more = more d
follow None more = None

-- behind a whole text, from so many open loops on
unfoldable pub levels : List Step → ℕ → Option ℕ
levels [] d = Some d
levels (s ∷ t) d = follow (level_of d (part_of s.command)) (levels t)

-- "A g left open .. is 3": none is open at the end
abbrev pub closed : Option ℕ → Bool
closed (Some d) = eqb d 0
closed None = false

-- right loops: none is open at the start, nor at the end
unfoldable pub loops_ok : List Step → Bool
loops_ok t = closed (levels t 0)

-- "Loops are checked over the whole text": a text in two parts, the one stored and the one joined behind it
abbrev pub loops_in : Reading → Reading → Bool
loops_in (reads a) (reads b) = loops_ok (a ++ b)
loops_in (reads a) (wrong r) = false
loops_in (wrong r) b = false

-- one part's share of it
abbrev pub level_read : Reading → ℕ → Option ℕ
level_read (reads steps) d = levels steps d
level_read (wrong r) d = None
