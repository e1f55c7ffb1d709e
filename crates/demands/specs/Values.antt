-- 01, "Numbers that come back" and the forms of answers: what each case of an enum that a call hands back is on paper. (Of a refused string or control it is `refusal_number`, of any data `number_for`.)
use Rattle.std.specs.Prelude.{ℕ, ◌-◌, Err, None, Ok, Result, Some}
use Rattle.pipettor.specs.declared.address.S2.{S2}
use Rattle.pipettor.specs.declared.address.Address.{Address}
use Rattle.pipettor.specs.Said.{Said}
use Rattle.machine.specs.declared.S3.{S3}
use Rattle.pipettor.specs.Address.{letter_of}

-- silence; a number; or the refusal S with its number
pub data Handed : Type 0 where
  silence : Handed
  number : ℕ → Handed
  S : ℕ → Handed

-- of a byte: an answer of so many bytes
abbrev pub said_is : Said → Handed
said_is (Ok None) = silence
said_is (Ok (Some n)) = number n
said_is (Err _) = S 1

-- of an address asked for: 1 to 9
abbrev pub given_is : Result Address S2 → Handed
given_is (Ok a) = number (letter_of a - 48)
given_is (Err _) = S 2

-- of a run: the ticks it used
abbrev pub used_is : Result ℕ S3 → Handed
used_is (Ok n) = number n
used_is (Err _) = S 3
