-- How far a search has gone is at most p4, and at most the travel left.
use mathlib.Core.Path.{◌≡◌}
use Prim.Native.Nat.{◌+◌, ◌-◌, min, ◌≤◌}
use native.Mathlib.Omega.{arith}
use Rattle.basics.proofs.Rules.{tests}
use Rattle.settings.specs.declared.Detection.{Detection}
use Rattle.settings.proofs.Motion.{distance_gone_is_at_most_the_distance}
use Rattle.level.specs.declared.Search.{Search}
use Rattle.level.specs.Level.{left_of, limit_of, gone_in}

module _ (d : Detection) (s : Search) where
  gone_at_most : gone_in d s ≤ min d.most (left_of d s.from)
  unfolding gone_in limit_of
  gone_at_most = distance_gone_is_at_most_the_distance s.ticks d.speed (limit_of d s.from)

  pub gone_at_most_p4 : gone_in d s ≤ d.most
  gone_at_most_p4 = omega (arith, gone_at_most)

  left_down : d.mode ≡ 1 → left_of d s.from ≡ s.from
  unfolding left_of
  left_down h = simp tests

  pub gone_down : d.mode ≡ 1 → gone_in d s ≤ s.from
  gone_down h = omega (arith, gone_at_most, left_down h)

  left_up : (d.mode ≡ 1 → ⊥) → left_of d s.from ≡ 44000 - s.from
  unfolding left_of
  left_up h = simp tests

  pub gone_up : (d.mode ≡ 1 → ⊥) → s.from ≤ 44000 → s.from + gone_in d s ≤ 44000
  gone_up h f = omega (arith, gone_at_most, left_up h)
