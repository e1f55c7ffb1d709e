-- What the one writer writes, over the number of decimals and for every number of 64 bits: `fixed_of` for those of 32 bits, `long_of` for whole ones (`put`).
use Rattle.std.specs.Prelude.{ℕ, zero, suc, ◌+◌, ◌/◌, ◌^◌, List, [], ◌∷◌, ◌++◌}
use Rattle.basics.specs.Bytes.{point}
use Rattle.decimal.specs.Digits.{last_digits, long_of}

-- behind the whole part: where there are decimals a point and d of them
unfoldable pub behind : ℕ → ℕ → List ℕ
behind zero n = []
behind (suc d) n = point ∷ last_digits (suc d) n

-- so many bytes, whatever the number
unfoldable pub behind_size : ℕ → ℕ
behind_size zero = 0
behind_size (suc d) = suc d + 1

-- n in units of 1 / 10 ^ d, of 32 bits or of 64
unfoldable pub written_of : ℕ → ℕ → List ℕ
written_of d n = long_of (n / 10 ^ d) ++ behind d n
