-- What is told fits 32 bits.
use mathlib.Core.Path.{◌≡◌}
use mathlib.Core.Bool.{Bool, true, false}
use mir.Val.{Fits}
use mir.Syntax.{w32}
use Prim.Native.Nat.{ℕ, ◌+◌, ◌*◌, ◌^◌, ◌≤◌, ◌<◌}
use native.Mathlib.Nat.{div-le_of_le-mul}
use native.Mathlib.Omega.{arith}
use borrow.Author.Tests.{ne_eqb, le-leb, lt-leb, ltb-true}
use lib.Dec.{eqb, ltb}
use Rattle.std.specs.Prelude.{None, Option}
use Rattle.line.specs.declared.Report.{Report}
use Rattle.settings.specs.declared.Settings.{Settings}
use Rattle.settings.specs.declared.Detection.{Detection}
use Rattle.settings.proofs.Limits.{kept_rate_is_near_40000}
use Rattle.settings.specs.Units.{nearest, flow_of, nanolitres_of}
use Rattle.motion.specs.declared.Activity.{Activity}
use Rattle.motion.specs.declared.Body.{Body}
use Rattle.motion.specs.Bounds.{BodyOk}
use Rattle.text.specs.declared.Question.{Question}
use Rattle.buffer.specs.declared.course.State.{State}
use Rattle.buffer.specs.declared.course.State.TheVariants.{Running}
use Rattle.buffer.specs.declared.course.Course.{Course}
use Rattle.reports.specs.Reports.{goal_in, setting_of, aspect_in, value_of, query_of, tell_of}

pub rate_least : (b : Body) → BodyOk b → 39650 ≤ b.settings.rate
rate_least b ok = (kept_rate_is_near_40000 b.settings ok.settings).0

pub flow_fits : (t r : ℕ) → t ≤ 800000 → r ≡ flow_of t → Fits w32 r
unfolding flow_of nearest
flow_fits t r h e = omega arith

pub volume_fits : (p c r : ℕ) → p ≤ 44000 → 39650 ≤ c → r ≡ nanolitres_of p c → Fits w32 r
unfolding nanolitres_of nearest
volume_fits p c r h k e =
    let most : 2 * (p * 1000000) + c ≤ 2 * c * 1200000 = omega arith in
    let l = div-le_of_le-mul (2 * c) most in
    omega (arith, l)
