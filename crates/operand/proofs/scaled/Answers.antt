use mathlib.Core.Path.{◌≡◌, refl}
use Prim.Native.Nat.{ℕ, zero, suc, ◌-◌, ◌^◌, ◌≤◌, ◌<◌}
use native.Mathlib.Nat.{pow-le-pow_right}
use native.Mathlib.Omega.{arith}
use lib.Dec.{lit<}
use Rattle.std.proofs.Common.{rules}
use Rattle.operand.specs.Steps.{Scaled}
use Rattle.operand.proofs.scaled.Goals as goal

thousandths : (v n : ℕ) → v < 10 ^ n → n ≤ 6 → (n ≡ 1 → ⊥) → (n ≡ 2 → ⊥) → Scaled v n v
thousandths v zero s h j k = record { value = omega arith; small = omega arith }
thousandths v (suc zero) s h j k = absurd (j refl)
thousandths v (suc (suc zero)) s h j k = absurd (k refl)
thousandths v (suc (suc (suc n))) s h j k =
    let z : 3 - suc (suc (suc n)) ≡ 0 = omega arith in
    record { value = rw z (omega arith); small = omega (arith, pow-le-pow_right {n = 10} (lit< tt) {j = 6} h) }

pub returns-in_default : goal.returns-in_default
returns-in_default c = thousandths _ _ c.requires.0 c.requires.1 (search rules) (search rules)
