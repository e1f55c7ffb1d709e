-- Raw bytes as a line of the rig has them: "two capital hex digits each, one space between".
use Rattle.std.specs.Prelude.{ℕ, ◌+◌, ◌-◌, ◌*◌, ◌/◌, ◌%◌, ◌<◌, ◌≡◌, Bool, false, ◌&&◌, ◌||◌, List, [], ◌∷◌, leb, ltb, eqb, if◌then◌else◌}
use Rattle.basics.specs.Bytes.{digit}

-- 0 to 9 and A to F
unfoldable pub hex_digit : ℕ → Bool
hex_digit b = digit b || (leb 65 b && leb b 70)

-- its value
unfoldable pub worth : ℕ → ℕ
worth b = if digit b then b - 48 else if hex_digit b then b - 55 else 0

-- so a function promises it
pub record Worth (b r : ℕ) : Type 0 where
  pub is : r ≡ worth b
  pub small : r < 16

-- the digit of a value below 16
unfoldable pub digit_for : ℕ → ℕ
digit_for n = if ltb n 10 then n + 48 else n + 55

-- whether a text is bytes so written, one at least
unfoldable pub paired : List ℕ → Bool
paired [] = false
paired (a ∷ []) = false
paired (a ∷ b ∷ []) = hex_digit a && hex_digit b
paired (a ∷ b ∷ s ∷ t) = (hex_digit a && hex_digit b) && (eqb s 32 && paired t)

unfoldable pub byte_of : ℕ → ℕ → ℕ
byte_of a b = 16 * worth a + worth b

-- which bytes it is
unfoldable pub bytes_in : List ℕ → List ℕ
bytes_in [] = []
bytes_in (a ∷ []) = []
bytes_in (a ∷ b ∷ []) = byte_of a b ∷ []
bytes_in (a ∷ b ∷ s ∷ t) = byte_of a b ∷ bytes_in t

-- bytes so written: each of them behind a space, but for the first
unfoldable pub spaced : List ℕ → List ℕ
spaced [] = []
spaced (b ∷ bs) = 32 ∷ digit_for (b / 16) ∷ digit_for (b % 16) ∷ spaced bs

unfoldable pub hex_of : List ℕ → List ℕ
hex_of [] = []
hex_of (b ∷ bs) = digit_for (b / 16) ∷ digit_for (b % 16) ∷ spaced bs
