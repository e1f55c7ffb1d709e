-- What is said to a byte, and the refusals of what a host hands in.
use Rattle.std.specs.Prelude.{ℕ, Option, Result}
use Rattle.pipettor.specs.declared.S1.{S1}
use Rattle.pipettor.specs.declared.address.S2.{S2}

abbrev pub s1 : S1
s1 = record {}

abbrev pub s2 : S2
s2 = record {}

-- nothing, an answer of so many bytes, or that the buffer lent is too short
abbrev pub Said : Type 0
Said = Result (Option ℕ) S1
