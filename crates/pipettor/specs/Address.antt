-- 01, "From the wire": "Our address is one of `1` to `9`, fixed when the controller is made."
use Rattle.std.specs.Prelude.{ℕ, eqb, if◌then◌else◌, Err, Ok, Result}
use Rattle.pipettor.specs.declared.address.S2.{S2}
use Rattle.pipettor.specs.Said.{s2}
use Rattle.pipettor.specs.declared.address.Address.{Address}
use Rattle.pipettor.specs.declared.address.Address.TheVariants.{One, Two, Three, Four, Five, Six, Seven, Eight, Nine}

-- its character
abbrev pub letter_of : Address → ℕ
letter_of One = 49
letter_of Two = 50
letter_of Three = 51
letter_of Four = 52
letter_of Five = 53
letter_of Six = 54
letter_of Seven = 55
letter_of Eight = 56
letter_of Nine = 57

-- "S2: address outside 1 to 9 at making: no controller is made"
unfoldable pub address_of : ℕ → Result Address S2
address_of n =
    if eqb n 1 then Ok One
    else if eqb n 2 then Ok Two
    else if eqb n 3 then Ok Three
    else if eqb n 4 then Ok Four
    else if eqb n 5 then Ok Five
    else if eqb n 6 then Ok Six
    else if eqb n 7 then Ok Seven
    else if eqb n 8 then Ok Eight
    else if eqb n 9 then Ok Nine
    else Err s2
