-- Which bytes an operand text has, and how far a text is of one class.
use Rattle.std.specs.Prelude.{ℕ, List, [], ◌∷◌, Bool, ◌||◌, not, eqb, if◌then◌else◌}
use Rattle.basics.specs.Bytes.{digit, point}
use Rattle.operand.specs.declared.Class.{Class}
use Rattle.operand.specs.declared.Class.TheVariants.{Digit, Operand, NoComma}

abbrev pub comma : ℕ
comma = 44

abbrev pub has : Class → ℕ → Bool
has Digit b = digit b
has Operand b = digit b || (eqb b point || eqb b comma)
has NoComma b = not (eqb b comma)

-- the longest run of bytes of a class that a text begins with, and what follows it
unfoldable pub run : Class → List ℕ → List ℕ
run class [] = []
run class (b ∷ t) = if has class b then b ∷ run class t else []

unfoldable pub rest : Class → List ℕ → List ℕ
rest class [] = []
rest class (b ∷ t) = if has class b then rest class t else b ∷ t

-- "An operand text is the longest run of digits, points and commas after a letter."
abbrev pub operand_text : List ℕ → List ℕ
operand_text t = run Operand t
