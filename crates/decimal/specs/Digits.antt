-- 01, "Reports": "Whole numbers have no leading zeros; increments a second one decimal, µL three."
use Rattle.std.specs.Prelude.{ℕ, zero, suc, ◌+◌, ◌/◌, ◌%◌, ◌^◌, List, [], ◌∷◌, ◌++◌, eqb, if◌then◌else◌}
use Rattle.basics.specs.Bytes.{zero_digit, point}
use Rattle.decimal.specs.declared.Decimals.{Decimals}
use Rattle.decimal.specs.declared.Decimals.TheVariants.{Zero, One, Three}

-- the last k digits of n, the highest first, leading zeros too
unfoldable pub last_digits : ℕ → ℕ → List ℕ
last_digits zero n = []
last_digits (suc k) n = last_digits k (n / 10) ++ ((zero_digit + n % 10) ∷ [])

-- digits without leading zeros; the last digit stays
unfoldable pub trim : List ℕ → List ℕ
trim [] = []
trim (d ∷ []) = d ∷ []
trim (d ∷ e ∷ ds) = if eqb d zero_digit then trim (e ∷ ds) else d ∷ e ∷ ds

-- a whole number: ten digits are enough for 32 bits
unfoldable pub digits_of : ℕ → List ℕ
digits_of n = trim (last_digits 10 n)

-- a longer one: twenty digits are enough for 64 bits
unfoldable pub long_of : ℕ → List ℕ
long_of n = trim (last_digits 20 n)

-- whole numbers have none; "increments a second one decimal, µL three"
abbrev pub count_of : Decimals → ℕ
count_of Zero = 0
count_of One = 1
count_of Three = 3

-- n in units of 1 / 10 ^ d: the whole part, and where there are decimals a point and d of them
unfoldable pub fixed_of : ℕ → ℕ → List ℕ
fixed_of zero n = digits_of n
fixed_of (suc d) n = digits_of (n / 10 ^ suc d) ++ point ∷ last_digits (suc d) n
