-- Bytes by their kind, characters as bytes, and what digits spell.
use Rattle.std.specs.Prelude.{ℕ, ◌+◌, ◌-◌, ◌*◌, ◌^◌, Bool, true, ◌&&◌, List, [], ◌∷◌, leb, length}
use Prim.Native.String.{String, [] as end, ◌∷◌ as ◌before◌}
use Prim.Native.Char.{code}

-- the digit `0`; the others follow it
abbrev pub zero_digit : ℕ
zero_digit = 48

abbrev pub point : ℕ
point = 46

-- a text as it is typed
abbrev pub chars : String → List ℕ
chars end = []
chars (c before s) = code c ∷ chars s

-- a digit is 30h to 39h
unfoldable pub digit : ℕ → Bool
digit b = leb 48 b && leb b 57

-- whether every byte of a text is of a kind
unfoldable pub every : (ℕ → Bool) → List ℕ → Bool
every p [] = true
every p (b ∷ t) = p b && every p t

-- the number that digits spell: each digit times its power of ten, summed
unfoldable pub value_of : List ℕ → ℕ
value_of [] = 0
value_of (d ∷ ds) = (d - zero_digit) * 10 ^ length ds + value_of ds
