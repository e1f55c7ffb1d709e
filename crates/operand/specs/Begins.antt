-- W-202: "The number reader's refusal shall promise how many characters it had read": the longest beginning of its text that a number's text may have too.
use Rattle.std.specs.Prelude.{ℕ, zero, suc, List, [], ◌∷◌, Bool, true, ◌&&◌, leb, eqb, length, take, if◌then◌else◌}
use Rattle.basics.specs.Bytes.{digit, point, every}
use Rattle.operand.specs.declared.Class.TheVariants.{Digit}
use Rattle.operand.specs.Text.{run, rest}

-- how long the longest beginning of a text is that is of a kind, among those of at most n bytes
unfoldable pub longest : (List ℕ → Bool) → ℕ → List ℕ → ℕ
longest p zero t = 0
longest p (suc n) t = if p (take (suc n) t) then suc n else longest p n t

-- digits alone, at most so many
unfoldable pub few : ℕ → List ℕ → Bool
few most t = every digit t && leb (length t) most

-- what may stand behind n digits while more can follow: nothing, or behind a digit a point with at most 3 digits
unfoldable pub follows : ℕ → List ℕ → Bool
follows n [] = true
follows n (b ∷ t) = leb 1 n && (eqb b point && few 3 t)

-- whether a text of a number may begin so: at most 6 digits, and what may stand behind them
unfoldable pub begins : List ℕ → Bool
begins t = leb (length (run Digit t)) 6 && follows (length (run Digit t)) (rest Digit t)

-- how many characters of a text are read as a number
unfoldable pub read_in : List ℕ → ℕ
read_in t = longest begins (length t) t
