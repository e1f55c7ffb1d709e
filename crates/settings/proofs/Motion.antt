-- How a movement goes on: it never turns back, never passes its goal, and arrives after exactly `ticks_for` ticks.
use mathlib.Core.Path.{◌≡◌}
use Prim.Native.Nat.{ℕ, ◌+◌, ◌-◌, ◌*◌, ◌/◌, ◌≤◌, ◌<◌}
use native.Mathlib.Nat.{mul-le-mul_left, mul-le-mul_right, div-mul-le_self, lt-div-mul-add}
use native.Mathlib.Omega.{arith}
use Rattle.settings.specs.Units.{gone_of, ticks_for}

-- the distance gone never falls
pub distance_gone_never_falls : (k j s d : ℕ) → k ≤ j → gone_of k s d ≤ gone_of j s d
unfolding gone_of
distance_gone_never_falls k j s d h = omega (arith, mul-le-mul_right s h)

-- and is never more than the distance
pub distance_gone_is_at_most_the_distance : (k s d : ℕ) → gone_of k s d ≤ d
unfolding gone_of
distance_gone_is_at_most_the_distance k s d = omega arith

-- what has not arrived has been going for less than 44000 ticks, at a speed of 100.0 and above
pub under_way : (k s d : ℕ) → 1000 ≤ s → d ≤ 44000 → (gone_of k s d ≡ d → ⊥) → k ≤ 44000
unfolding gone_of
under_way k s d slow short h = omega (arith, mul-le-mul_left k slow)

module _ (s d : ℕ) (moving : 0 < s) where
  -- after the ticks that the distance takes the whole of it is gone
  pub movement_arrives : gone_of (ticks_for s d) s d ≡ d
  unfolding gone_of ticks_for
  movement_arrives = omega (arith, lt-div-mul-add {a = d * 1000 + (s - 1)} moving)

  -- and before that, not yet
  pub movement_arrives_no_sooner : (k : ℕ) → k < ticks_for s d → gone_of k s d < d
  unfolding gone_of ticks_for
  movement_arrives_no_sooner k h =
      let one_more : (k + 1) * s ≤ (d * 1000 + (s - 1)) / s * s = mul-le-mul_right s (omega arith) in
      omega (arith, div-mul-le_self (d * 1000 + (s - 1)) s)
