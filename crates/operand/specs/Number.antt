-- 01, "Reading the data": "A number has 1 to 6 digits, then optionally a point with 1 to 3 digits. Leading zeros are allowed."
use Rattle.std.specs.Prelude.{ℕ, ◌+◌, ◌-◌, ◌*◌, ◌^◌, List, [], ◌∷◌, Bool, true, false, ◌&&◌, leb, eqb, length, if◌then◌else◌}
use Rattle.basics.specs.Bytes.{digit, point, every, value_of}
use Rattle.operand.specs.declared.Class.TheVariants.{Digit, NoComma}
use Rattle.operand.specs.declared.Number.{Number}
use Rattle.operand.specs.declared.Number.TheVariants.{Absent, Is, Wrong}
use Rattle.operand.specs.declared.Single.{Single}
use Rattle.operand.specs.declared.Pair.{Pair}
use Rattle.operand.specs.Text.{run, rest}
use Rattle.operand.specs.Begins.{longest, begins, read_in}

-- digits alone, so many of them
unfoldable pub digits : ℕ → ℕ → List ℕ → Bool
digits least most t = every digit t && (leb least (length t) && leb (length t) most)

-- 1 to 3 digits behind the point, after a whole part of so many thousandths; how many there are is kept. `read` is what is said to be read where they are wrong
unfoldable pub decimals_of : ℕ → ℕ → List ℕ → Number
decimals_of read whole t = if digits 1 3 t then Is (whole + value_of t * 10 ^ (3 - length t)) (length t) else Wrong read

-- what follows a whole part: nothing, or a point with decimals
unfoldable pub followed_of : ℕ → ℕ → List ℕ → Number
followed_of read whole [] = Is (whole * 1000) 0
followed_of read whole (b ∷ t) = if eqb b point then decimals_of read (whole * 1000) t else Wrong read

-- the number that a whole text is: 1 to 6 digits and what follows them; no text is an absent number
unfoldable pub number_of : List ℕ → Number
number_of [] = Absent
number_of (b ∷ t) =
    if digits 1 6 (run Digit (b ∷ t))
    then followed_of (read_in (b ∷ t)) (value_of (run Digit (b ∷ t))) (rest Digit (b ∷ t))
    else Wrong (read_in (b ∷ t))

-- a well-formed text: a number, or none
unfoldable pub right : Number → Bool
right Absent = true
right (Is thousandths decimals) = true
right (Wrong read) = false

unfoldable pub well_formed : List ℕ → Bool
well_formed t = right (number_of t)

-- how many characters of a text were read, of which so many are read where its number is right
abbrev pub read_of : Number → ℕ → ℕ
read_of Absent size = size
read_of (Is thousandths decimals) size = size
read_of (Wrong read) size = read

-- one number with how far its text is read
abbrev pub single_of : List ℕ → Single
single_of t = record { number = number_of t; read = read_in t }

-- two numbers with a comma between them; without one the second is absent
unfoldable pub behind_comma : List ℕ → Number
behind_comma [] = Absent
behind_comma (b ∷ t) = number_of t

-- whether a text of two numbers may begin so: as the first, or with the first, well formed, a comma and as the second may
unfoldable pub parted : List ℕ → List ℕ → Bool
parted first [] = begins first
parted first (b ∷ t) = well_formed first && begins t

unfoldable pub begins_two : List ℕ → Bool
begins_two t = parted (run NoComma t) (rest NoComma t)

unfoldable pub read_in_two : List ℕ → ℕ
read_in_two t = longest begins_two (length t) t

unfoldable pub pair_of : List ℕ → Pair
pair_of t = record { first = number_of (run NoComma t); second = behind_comma (rest NoComma t); read = read_in_two t }

unfoldable pub well_formed_two : List ℕ → Bool
well_formed_two t = right (pair_of t).first && right (pair_of t).second
