-- Theorems: no fraction is lost: n times a volume is n times that volume, however often it is rounded on the way.
use mathlib.Core.Path.{◌≡◌, ap, ◌∙◌}
use mathlib.Core.Bool.{true, false}
use mathlib.Core.List.{List, ◌∷◌, ◌++◌}
use Prim.Native.Nat.{ℕ, zero, suc, ◌+◌, ◌*◌}
use native.Mathlib.Omega.{arith}
use lib.ListN.{replicate}
use Rattle.settings.specs.declared.Volume.{Volume}
use Rattle.settings.specs.Units.{millionths_of, Near}
use Rattle.motion.specs.Events.{Event, start, volume}
use Rattle.machine.proofs.History.{added_on}
use Rattle.machine.specs.History.{sum, added_up, sum_of, IsSum, moving}
use Rattle.machine.proofs.Position.{at_rest}
use Rattle.demands.specs.Calls.{Making, Call, after, history}
use Rattle.demands.proofs.Sound.{every_controller_is_sound}

module _ (v : Volume) (rate : ℕ) where
  ups : (n origin up : ℕ) → added_up (sum origin up 0) (replicate n (volume v rate true)) ≡ sum origin (up + n * millionths_of v rate) 0
  unfolding added_up
  ups zero origin up = let z : up ≡ up + zero * millionths_of v rate = omega arith in ap (λ (x : ℕ). sum origin x 0) z
  ups (suc n) origin up =
      let m = millionths_of v rate in
      let z : up + m + n * m ≡ up + suc n * m = omega arith in
      ups n origin (up + m) ∙ ap (λ (x : ℕ). sum origin x 0) z

  module _ (a : Making) (calls : List Call) (before : List Event) (place n : ℕ) (same : history a calls ≡ before ++ start place ∷ replicate n (volume v rate true)) where
    n_ups : sum_of (history a calls) ≡ sum place (0 + n * millionths_of v rate) 0
    unfolding sum_of added_up
    n_ups =
        ap (added_up (sum 0 0 0)) same ∙
        added_on (sum 0 0 0) before (start place ∷ replicate n (volume v rate true)) ∙
        ups n place 0

    -- n times a volume since a start is n times that volume, exactly
    pub n_times_a_volume_is_exact : (after a calls).device.core.body.exact ≡ place + n * millionths_of v rate
    unfolding IsSum
    n_times_a_volume_is_exact =
        let is = rw n_ups at (every_controller_is_sound a calls).told.sum in
        omega (arith, is)

    -- and at rest the plunger is within half an increment of it, however often a fraction was left over
    pub n_times_a_volume_is_near : moving (after a calls).device.core.course.state ≡ false → Near (after a calls).device.core.body.plunger (place + n * millionths_of v rate)
    n_times_a_volume_is_near still =
        let c = (after a calls).device.core in
        rw (at_rest c.course.state c.body.plunger c.body.exact still, n_times_a_volume_is_exact) at (every_controller_is_sound a calls).told.near
