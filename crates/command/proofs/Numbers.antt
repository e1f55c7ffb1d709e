-- What is known of 01's numbers: none is 0, which is "accepted", and each fits the four bits of the status byte.
use mathlib.Core.Path.{◌≡◌, refl}
use Prim.Native.Nat.{◌≤◌, ◌<◌}
use native.Mathlib.Omega.{arith}
use Rattle.std.specs.Prelude.{Err, Ok}
use Rattle.command.specs.Verdict.{Verdict}
use Rattle.command.specs.declared.refusal.Misread.TheVariants.{Letter, Operand}
use Rattle.command.specs.declared.refusal.Refusal.{Refusal}
use Rattle.command.specs.declared.refusal.Refusal.TheVariants as R
use Rattle.command.specs.Numbers.{refusal_number, verdict_number}

pub every_number_is_1_to_15 : (why : Refusal) → (0 < refusal_number why) × (refusal_number why ≤ 15)
every_number_is_1_to_15 (R.Misread (Letter place)) = (omega arith, omega arith)
every_number_is_1_to_15 (R.Misread (Operand place read)) = (omega arith, omega arith)
every_number_is_1_to_15 R.Report = (omega arith, omega arith)
every_number_is_1_to_15 R.Loops = (omega arith, omega arith)
every_number_is_1_to_15 R.StartAboveTop = (omega arith, omega arith)
every_number_is_1_to_15 R.Outside = (omega arith, omega arith)
every_number_is_1_to_15 R.NoWayDown = (omega arith, omega arith)
every_number_is_1_to_15 R.TooMuchPressure = (omega arith, omega arith)
every_number_is_1_to_15 R.NoLiquid = (omega arith, omega arith)
every_number_is_1_to_15 R.NotInitialised = (omega arith, omega arith)
every_number_is_1_to_15 R.StillThere = (omega arith, omega arith)
every_number_is_1_to_15 R.NoTip = (omega arith, omega arith)
every_number_is_1_to_15 R.NothingToRun = (omega arith, omega arith)
every_number_is_1_to_15 R.TooLong = (omega arith, omega arith)
every_number_is_1_to_15 R.Busy = (omega arith, omega arith)

-- 0 is accepted, and any other number comes with a reason
pub zero_is_fine : (v : Verdict) → verdict_number v ≡ 0 → v ≡ Ok tt
zero_is_fine (Ok tt) e = refl
zero_is_fine (Err why) e = absurd (omega (arith, (every_number_is_1_to_15 why).0))

pub another_has_a_reason : (v : Verdict) → (verdict_number v ≡ 0 → ⊥) → (why : Refusal) × (v ≡ Err why)
another_has_a_reason (Ok tt) h = absurd (h refl)
another_has_a_reason (Err why) h = (why, refl)
