-- A number in a line: "written without leading zeros, at most 6 digits"; at the bench "no leading zero".
use Rattle.std.specs.Prelude.{ℕ, ◌/◌, List, [], ◌∷◌, eqb, length, if◌then◌else◌, None, Option, Some}
use Rattle.basics.specs.Bytes.{zero_digit}
use Rattle.operand.specs.declared.Number.{Number}
use Rattle.operand.specs.declared.Number.TheVariants as N
use Rattle.operand.specs.Number.{number_of}

-- a whole number, in thousandths, of no decimals
unfoldable pub whole_of : Number → Option ℕ
whole_of N.Absent = None
whole_of (N.Is n decimals) = if eqb decimals 0 then Some (n / 1000) else None
whole_of (N.Wrong read) = None

-- a 0 stands alone or not in front
unfoldable pub count_of : List ℕ → Option ℕ
count_of [] = None
count_of (d ∷ ds) =
    if eqb d zero_digit
    then (if eqb (length ds) 0 then Some 0 else None)
    else whole_of (number_of (d ∷ ds))
