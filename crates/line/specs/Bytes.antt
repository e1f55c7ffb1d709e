-- Bytes on a line: which of them an address, a sequence or data may be made of, and sums over them.
use Rattle.std.specs.Prelude.{ℕ, Bool, ◌&&◌, List, [], ◌∷◌, leb}
use Rattle.std.specs.Int.Bits.{bit_xor}

-- 20h to 7Eh
unfoldable pub printable : ℕ → Bool
printable b = leb 32 b && leb b 126

-- "the exclusive-or of everything before it": of bytes, one after the other
unfoldable pub sum_from : ℕ → List ℕ → ℕ
sum_from sum [] = sum
sum_from sum (b ∷ bs) = sum_from (bit_xor sum b) bs

abbrev pub sum_of : List ℕ → ℕ
sum_of bs = sum_from 0 bs
