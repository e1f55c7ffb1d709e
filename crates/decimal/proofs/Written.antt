-- Laws of what the one writer writes.
use mathlib.Core.Path.{◌≡◌, refl, ◌∙◌}
use mathlib.Core.List.{List, [], ◌∷◌, append-nil}
use Prim.Native.Nat.{ℕ, zero, suc, ◌+◌, ◌/◌, ◌^◌, ◌≤◌, ◌<◌}
use native.Mathlib.Nat.{div-one, div-le_self}
use native.Mathlib.Omega.{arith}
use lib.ListN.{length}
use Rattle.std.specs.Prelude.{Option}
use Rattle.basics.specs.Bytes.{point}
use Rattle.basics.specs.Lay.{Laid}
use Rattle.decimal.specs.Digits.{last_digits, digits_of, long_of, fixed_of}
use Rattle.decimal.specs.Written.{behind, behind_size, written_of}
use Rattle.decimal.proofs.Digits.{length_last}
use Rattle.decimal.proofs.Trim.{trim_idle}

pub size_none : (d : ℕ) → d ≡ 0 → 0 ≡ behind_size d
unfolding behind_size
size_none d e = rw e

pub behind_none : (d n : ℕ) → d ≡ 0 → behind d n ≡ []
unfolding behind
behind_none d n e = rw e

pub size_some : (d : ℕ) → (d ≡ 0 → ⊥) → d + 1 ≡ behind_size d
unfolding behind_size
size_some zero h = absurd (h refl)
size_some (suc d) h = refl

pub behind_some : (d n : ℕ) → (d ≡ 0 → ⊥) → behind d n ≡ point ∷ last_digits d n
unfolding behind
behind_some zero n h = absurd (h refl)
behind_some (suc d) n h = refl

pub length_behind : (d n : ℕ) → length (behind d n) ≡ behind_size d
unfolding behind behind_size
length_behind zero n = refl
length_behind (suc d) n = rw (length_last (suc d) n) (omega arith)

pub size_most : (d : ℕ) → behind_size d ≤ d + 1
unfolding behind_size
size_most zero = omega arith
size_most (suc d) = omega arith

-- without decimals there is nothing behind
written_whole : (n : ℕ) → written_of 0 n ≡ long_of n
unfolding written_of behind
written_whole n = rw (div-one n) (append-nil (long_of n))

-- 32 bits have at most ten digits
short : (n : ℕ) → n < 10 ^ 10 → long_of n ≡ digits_of n
unfolding long_of digits_of
short n h = trim_idle 10 10 n (omega arith) h

written_short : (d n : ℕ) → n < 10 ^ 10 → written_of d n ≡ fixed_of d n
unfolding written_of behind fixed_of
written_short zero n h = written_whole n ∙ short n h
written_short (suc d) n h = rw (short (n / 10 ^ suc d) (omega (arith, div-le_self n (10 ^ suc d))))

module _ (d n at : ℕ) (before after : List ℕ) (r : Option ℕ) (l : Laid (written_of d n) at before r after) where
  pub laid_long : d ≡ 0 → Laid (long_of n) at before r after
  laid_long e = rw (written_whole n) at (rw e at l)

  pub laid_short : n < 2 ^ 32 → Laid (fixed_of d n) at before r after
  laid_short h = rw (written_short d n (omega arith)) at l
