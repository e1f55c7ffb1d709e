-- What the history records, and when: "A fresh controller and initialising start it at 0, an absolute move at the exact place asked for,
-- a stop that cuts a movement or a reset at the plunger"; between them stand the aspirations and dispenses that were carried out.
use mathlib.Core.Path.{◌≡◌, refl}
use mathlib.Core.Bool.{true, false}
use mathlib.Core.List.{[], ◌∷◌}
use Prim.Native.Nat.{ℕ, ◌+◌, ◌-◌, ◌*◌, ◌≤◌, ◌<◌}
use Rattle.std.specs.Prelude.{None}
use Rattle.basics.proofs.Rules.{tests}
use Rattle.settings.specs.declared.Volume.{Volume}
use Rattle.settings.specs.Units.{millionths_of}
use Rattle.command.specs.declared.Way.{Way}
use Rattle.command.specs.declared.Way.TheVariants.{To, Up, Down}
use Rattle.motion.specs.declared.Body.{Body}
use Rattle.motion.specs.declared.Activity.{Activity}
use Rattle.motion.specs.declared.Effect.{Effect}
use Rattle.motion.specs.Events.{start, volume, Turn}
use Rattle.motion.proofs.Moves.{move_by_lem}
use Rattle.motion.specs.Motion.{fresh_body, home_of, within, target_of, aimed, move_of, in_motion, cut_of, reset_of}
use Rattle.machine.specs.Device.{fresh_of}

pub a_fresh_device_starts_at_0 : fresh_of.events ≡ start 0 ∷ []
unfolding fresh_of fresh_body
a_fresh_device_starts_at_0 = refl

module _ (b : Body) where
  pub initialising_starts_at_0 : (speed : ℕ) → (home_of speed b).events ≡ start 0 ∷ []
  unfolding home_of
  initialising_starts_at_0 speed = refl

  -- A, P and D that are carried out
  module _ (v : Volume) (known : b.initialised ≡ true) (flat : b.settings.start ≤ b.settings.top) where
    pub an_absolute_move_starts_at_the_place_asked_for : millionths_of v b.settings.rate ≤ 44000000000 → (move_of To v b).events ≡ start (millionths_of v b.settings.rate) ∷ []
    unfolding move_of target_of within aimed
    an_absolute_move_starts_at_the_place_asked_for h = simp (known, tests)

    pub an_aspiration_is_recorded : b.exact + millionths_of v b.settings.rate ≤ 44000000000 → (move_of Up v b).events ≡ volume v b.settings.rate true ∷ []
    unfolding move_of target_of within aimed
    an_aspiration_is_recorded h = simp (known, tests)

    pub a_dispense_is_recorded : millionths_of v b.settings.rate ≤ b.exact → b.exact - millionths_of v b.settings.rate ≤ 44000000000 → (move_of Down v b).events ≡ volume v b.settings.rate false ∷ []
    unfolding move_of target_of within aimed
    a_dispense_is_recorded h k = simp (known, tests)

  -- and those that are refused
  pub a_move_outside_travel_leaves_no_trace : (way : Way) (v : Volume) → target_of way (millionths_of v b.settings.rate) b.exact ≡ None → (move_of way v b).events ≡ []
  unfolding move_of aimed
  a_move_outside_travel_leaves_no_trace way v h = move_by_lem (λ (t : Turn Effect). t.events ≡ []) way v b (λ why. refl) (rw h)

  pub a_move_with_v_above_V_leaves_no_trace : (way : Way) (v : Volume) → b.initialised ≡ true → b.settings.top < b.settings.start → (move_of way v b).events ≡ []
  unfolding move_of
  a_move_with_v_above_V_leaves_no_trace way v known h = simp (known, tests)

  pub a_move_before_initialising_leaves_no_trace : (way : Way) (v : Volume) → b.initialised ≡ false → (move_of way v b).events ≡ []
  unfolding move_of
  a_move_before_initialising_leaves_no_trace way v h = simp h

  -- T
  pub a_cut_starts_at_the_plunger : (a : Activity) → in_motion a ≡ true → (cut_of a b).events ≡ start (b.plunger * 1000000) ∷ []
  unfolding cut_of
  a_cut_starts_at_the_plunger a h = rw h

  pub a_stop_without_movement_leaves_no_trace : (a : Activity) → in_motion a ≡ false → (cut_of a b).events ≡ []
  unfolding cut_of
  a_stop_without_movement_leaves_no_trace a h = rw h

  -- !R
  pub a_reset_starts_at_the_plunger : (reset_of b).events ≡ start (b.plunger * 1000000) ∷ []
  unfolding reset_of
  a_reset_starts_at_the_plunger = refl
