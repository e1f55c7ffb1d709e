-- What the roundings of 01 keep.
use mathlib.Core.Path.{◌≡◌}
use Prim.Native.Nat.{ℕ, ◌+◌, ◌*◌, ◌≤◌, ◌<◌}
use native.Mathlib.Nat.{div-mul-le_self, lt-div-mul-add}
use native.Mathlib.Omega.{arith}
use Rattle.settings.specs.Units.{nearest, tenths_of, flow_of, goal_of, Near}

-- a / b to the nearest is at most a half above a / b ..
pub nearest_is_at_most_a_half_above : (a b : ℕ) → nearest a b * (2 * b) ≤ 2 * a + b
unfolding nearest
nearest_is_at_most_a_half_above a b = div-mul-le_self (2 * a + b) (2 * b)

-- .. and less than a half below, so that a half is rounded upwards
pub nearest_is_less_than_a_half_below : (a b : ℕ) → 0 < b → 2 * a + b < (nearest a b + 1) * (2 * b)
unfolding nearest
nearest_is_less_than_a_half_below a b h = omega (arith, lt-div-mul-add {a = 2 * a + b} {b = 2 * b} (omega arith))

-- the goal is within half an increment of the exact position
pub goal_is_within_half_an_increment : (e : ℕ) → Near (goal_of e) e
unfolding goal_of
goal_is_within_half_an_increment e = omega arith

-- an exact position within travel has its goal within travel
pub goal_is_within_travel : (e : ℕ) → e ≤ 44000000000 → goal_of e ≤ 44000
unfolding goal_of
goal_is_within_travel e h = omega arith

-- tenths of an increment a second, told in nL a second, are the same tenths again
pub tenths_come_back : (t : ℕ) → tenths_of (flow_of t) ≡ t
unfolding tenths_of flow_of nearest
tenths_come_back t = omega arith
