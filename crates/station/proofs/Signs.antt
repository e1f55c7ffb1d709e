-- Small numbers and the same below 0, as 32 bits with a sign.
use mathlib.Core.Path.{◌≡◌, sym, ap, subst, ◌∙◌}
use Prim.Native.Nat.{ℕ, zero, suc, ◌≤◌}
use native.Mathlib.Omega.{arith}
use lib.IntN.{ℤ, pos, neg_ℤ, ◌-ℤ◌, +ℤ_idl}
use mir.Syntax.{w32}
use mir.Val.{SFits, to_z, of_z}
use Rattle.std.proofs.Math.Facts.{to_z-of_z, to_z_pos}

pub small_back : (n : ℕ) → n ≤ 40000 → to_z w32 n ≡ pos n
small_back n h = to_z_pos w32 (omega arith)

-- 0 less such a number
minus_fits : (n : ℕ) → n ≤ 40000 → SFits w32 (neg_ℤ (pos n))
minus_fits zero h = record { sfits = omega arith }
minus_fits (suc n) h = record { sfits = omega arith }

less : (n : ℕ) → n ≤ 40000 → pos 0 -ℤ to_z w32 n ≡ neg_ℤ (pos n)
less n h = ap (λ (y : ℤ). pos 0 -ℤ y) (small_back n h) ∙ +ℤ_idl (neg_ℤ (pos n))

pub minus_back : (n : ℕ) → n ≤ 40000 → to_z w32 (of_z w32 (pos 0 -ℤ to_z w32 n)) ≡ neg_ℤ (pos n)
minus_back n h = to_z-of_z (subst (SFits w32) (sym (less n h)) (minus_fits n h)) ∙ less n h
