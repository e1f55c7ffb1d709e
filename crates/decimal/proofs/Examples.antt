-- Worked examples, computed.
use mathlib.Core.Path.{◌≡◌, refl}
use mathlib.Core.List.{[], ◌∷◌}
use Rattle.decimal.specs.Digits.{last_digits, trim, digits_of, long_of, fixed_of}

-- `0` and the largest number of 32 bits
zero_is : fixed_of 0 0 ≡ 48 ∷ []
unfolding fixed_of digits_of trim last_digits
zero_is = refl

most_is : fixed_of 0 4294967295 ≡ 52 ∷ 50 ∷ 57 ∷ 52 ∷ 57 ∷ 54 ∷ 55 ∷ 50 ∷ 57 ∷ 53 ∷ []
unfolding fixed_of digits_of trim last_digits
most_is = refl

-- `0`, a number that 32 bits don't hold, and the largest of 64 bits
long_zero_is : long_of 0 ≡ 48 ∷ []
unfolding long_of trim last_digits
long_zero_is = refl

long_is : long_of 44000000000 ≡ 52 ∷ 52 ∷ 48 ∷ 48 ∷ 48 ∷ 48 ∷ 48 ∷ 48 ∷ 48 ∷ 48 ∷ 48 ∷ []
unfolding long_of trim last_digits
long_is = refl

long_most_is : long_of 18446744073709551615 ≡ 49 ∷ 56 ∷ 52 ∷ 52 ∷ 54 ∷ 55 ∷ 52 ∷ 52 ∷ 48 ∷ 55 ∷ 51 ∷ 55 ∷ 48 ∷ 57 ∷ 53 ∷ 53 ∷ 49 ∷ 54 ∷ 49 ∷ 53 ∷ []
unfolding long_of trim last_digits
long_most_is = refl

-- `8000.0`, `2.503` and `0.007`
tenths_is : fixed_of 1 80000 ≡ 56 ∷ 48 ∷ 48 ∷ 48 ∷ 46 ∷ 48 ∷ []
unfolding fixed_of digits_of trim last_digits
tenths_is = refl

thousandths_is : fixed_of 3 2503 ≡ 50 ∷ 46 ∷ 53 ∷ 48 ∷ 51 ∷ []
unfolding fixed_of digits_of trim last_digits
thousandths_is = refl

small_is : fixed_of 3 7 ≡ 48 ∷ 46 ∷ 48 ∷ 48 ∷ 55 ∷ []
unfolding fixed_of digits_of trim last_digits
small_is = refl
