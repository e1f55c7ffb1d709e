-- Worked examples, computed: loops that are right and wrong, and what some data are.
use mathlib.Core.Path.{◌≡◌, refl}
use mathlib.Core.Bool.{Bool, true, ◌&&◌, not}
use mathlib.Core.List.{List, [], ◌∷◌, map}
use Prim.Native.Nat.{ℕ}
use Rattle.basics.specs.Bytes.{digit, every, value_of}
use Rattle.operand.specs.Text.{run, rest}
use Rattle.operand.specs.Number.{digits, decimals_of, followed_of, number_of}
use Rattle.command.specs.declared.Command.{Command}
use Rattle.command.specs.declared.Command.TheVariants as C
use Rattle.command.specs.declared.refusal.Misread.TheVariants.{Letter, Operand}
use Rattle.command.specs.Table.{letter_of, command_of, made, whole_of, taken_of}
use Rattle.command.specs.Command.{placed, found_in}
use Rattle.text.specs.declared.Control.TheVariants.{Run, Reset}
use Rattle.text.specs.declared.Question.TheVariants.{Query, Value}
use Rattle.text.specs.declared.Data.{Data}
use Rattle.text.specs.declared.Data.TheVariants as D
use Rattle.text.specs.Text.{Step, read_from, read_of, check_of}
use Rattle.text.specs.Loops.{level_of, levels, loops_ok}
use Rattle.text.specs.Data.{spaceless, asked_of, body, runs, string_of, control_of, data_of, received_of}

-- commands by their letters; where they stand doesn't count for loops
abbrev step : Command → Step
step c = record { at = 0; command = c; next = 0 }

abbrev g : Step
g = step C.Open

abbrev G : ℕ → Step
G n = step (C.Close n)

abbrev K : Step
K = step (C.Backlash 1)

abbrev all : (List Step → Bool) → List (List Step) → Bool
all p [] = true
all p (t ∷ ts) = p t && all p ts

abbrev right : List (List Step)
right =
    []  -- no loop at all
    ∷ (g ∷ G 1 ∷ [])  -- a loop with no body, passed once
    ∷ (g ∷ K ∷ G 3 ∷ K ∷ g ∷ G 2 ∷ [])  -- a loop, and then another
    ∷ (g ∷ g ∷ g ∷ g ∷ G 1 ∷ G 1 ∷ G 1 ∷ G 1 ∷ [])  -- four loops one in another
    ∷ []

abbrev mistaken : List (List Step)
mistaken =
    (g ∷ [])  -- a g left open
    ∷ (g ∷ G 2 ∷ g ∷ K ∷ [])
    ∷ (G 3 ∷ [])  -- a G without an open g
    ∷ (K ∷ G 3 ∷ [])
    ∷ (g ∷ K ∷ G 3 ∷ K ∷ G 2 ∷ [])
    ∷ (G 2 ∷ g ∷ G 1 ∷ [])
    ∷ (g ∷ g ∷ g ∷ g ∷ g ∷ G 1 ∷ G 1 ∷ G 1 ∷ G 1 ∷ G 1 ∷ [])  -- depth 5
    ∷ []

right_loops : all loops_ok right ≡ true
unfolding loops_ok levels level_of
right_loops = refl

wrong_loops : all (λ t. not (loops_ok t)) mistaken ≡ true
unfolding loops_ok levels level_of
wrong_loops = refl

-- data as received, and what they are
record Case : Type 0 where
  bytes : List ℕ
  are : Data

abbrev cases : List Case
cases =
    record { bytes = []; are = D.Report (Query 0) }
    ∷ record { bytes = 32 ∷ 32 ∷ []; are = D.Report (Query 0) }
    ∷ record { bytes = 63 ∷ 48 ∷ 32 ∷ 55 ∷ []; are = D.Report (Value 7) }  -- `?0 7`
    ∷ record { bytes = 63 ∷ 55 ∷ 46 ∷ 48 ∷ []; are = D.WrongReport }  -- `?7.0`
    ∷ record { bytes = 33 ∷ 32 ∷ 82 ∷ []; are = D.Control Reset }  -- `! R`
    ∷ record { bytes = 82 ∷ []; are = D.Control Run }
    ∷ record { bytes = 82 ∷ 82 ∷ []; are = D.Wrong (Letter 0) }  -- `RR`
    ∷ record { bytes = 67 ∷ 82 ∷ []; are = D.Wrong (Letter 0) }  -- `CR`
    ∷ record { bytes = 103 ∷ 71 ∷ 32 ∷ 82 ∷ []; are = D.Text 2 true }  -- `gG R`
    ∷ record { bytes = 103 ∷ 49 ∷ []; are = D.Wrong (Operand 1 0) }  -- `g1`
    ∷ record { bytes = 46 ∷ 103 ∷ []; are = D.Wrong (Letter 0) }  -- `.g`
    ∷ []

data_cases : map (λ c. received_of c.bytes) cases ≡ map (λ c. c.are) cases
unfolding received_of spaceless data_of control_of string_of body runs asked_of read_from read_of check_of found_in placed letter_of command_of made whole_of taken_of number_of followed_of decimals_of digits run rest digit every value_of
data_cases = refl
