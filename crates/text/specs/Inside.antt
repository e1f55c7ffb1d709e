-- A place in the tree of a text: what is to come there, and the loops round it. A run of the text is at such a place before each command.
use Rattle.std.specs.Prelude.{ℕ, ◌<◌, ◌≡◌, List, [], ◌∷◌, length, take, Some}
use Rattle.text.specs.Text.{Step, reads, read_of}
use Rattle.text.specs.Loops.{Nest, one, loop, spell, Accepted, levels}

-- a loop round a place: its g, its body, its passes, its G, and what follows it
pub record Round : Type 0 where
  pub opening : Step
  pub body : Nest
  pub passes : ℕ
  pub closing : Step
  pub after : Nest

abbrev pub loop_of : Round → Nest
loop_of r = loop r.opening r.body r.passes r.closing r.after

-- what follows the innermost loop's body: its G, what stands behind it, and so on outwards
abbrev pub ends : List Round → List Step
ends [] = []
ends (r ∷ rs) = r.closing ∷ spell r.after (ends rs)

-- the places of a tree, by what is to come there and the loops round it, the innermost first
pub data Inside (whole : Nest) : Nest → List Round → Type 0 where
  first : Inside whole whole []
  past : (s : Step) (f : Nest) (rs : List Round) → Inside whole (one s f) rs → Inside whole f rs
  into : (r : Round) (rs : List Round) → Inside whole (loop_of r) rs → Inside whole r.body (r ∷ rs)
  behind : (r : Round) (rs : List Round) → Inside whole (loop_of r) rs → Inside whole r.after rs

-- a text that may run: it reads, it has a command, and its loops are right
pub record MayRun (t : List ℕ) : Type 0 where
  pub steps : List Step
  pub reading : read_of t ≡ reads steps
  pub some : 0 < length t
  pub tree : Accepted steps

-- where steps begin, or the end where there are none
abbrev pub start_of : List Step → ℕ → ℕ
start_of [] end = end
start_of (s ∷ steps) end = s.at

-- a place of such a text, with the loops round it
pub record Place (t : List ℕ) (may : MayRun t) (at : ℕ) (rounds : List Round) : Type 0 where
  pub rest : Nest
  pub inside : Inside may.tree.nest rest rounds
  pub here : at ≡ start_of (spell rest (ends rounds)) (length t)

-- a place as the check of loops sees it: the commands before it read, and leave so many loops open
pub record Before (t : List ℕ) (at open-ones : ℕ) : Type 0 where
  pub steps : List Step
  pub reading : read_of (take at t) ≡ reads steps
  pub counted : levels steps 0 ≡ Some open-ones
