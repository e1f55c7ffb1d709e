-- The bounds are kept by every command that was read, by every tick, by a cut and by a reset.
use mathlib.Core.Path.{◌≡◌, refl}
use mathlib.Core.Bool.{Bool, true, false}
use Prim.Native.Nat.{ℕ, ◌+◌, ◌-◌, ◌*◌, ◌≤◌}
use native.Mathlib.Omega.{arith}
use borrow.Author.Tests.{leb-true, leb-false, eqb-false}
use lib.Dec.{leb, eqb}
use Rattle.std.specs.Prelude.{if◌then◌else◌, None, Option, Some}
use Rattle.basics.proofs.Choice.{by}
use Rattle.settings.specs.declared.Settings.{Settings}
use Rattle.settings.specs.declared.Detection.{Detection}
use Rattle.settings.specs.declared.Pace.{Pace}
use Rattle.settings.specs.declared.Pace.TheVariants.{Top, Start, Cutoff}
use Rattle.settings.specs.declared.Volume.{Volume}
use Rattle.settings.specs.Limits.{speeds_of, Kept}
use Rattle.settings.specs.Limits as Limits
use Rattle.settings.specs.Units.{ticks_of, rate_of, millionths_of, goal_of, gone_of}
use Rattle.settings.proofs.Limits.{usual_settings_are_kept, every_b_makes_a_rate_allowed, every_aspect_set_is_kept}
use Rattle.settings.proofs.Rounding.{goal_is_within_travel}
use Rattle.settings.proofs.Motion.{distance_gone_is_at_most_the_distance, under_way}
use Rattle.level.specs.declared.Search.{Search}
use Rattle.level.specs.declared.Finding.{Finding}
use Rattle.level.specs.declared.Finding.TheVariants.{TooMuch, Found, Missed, On}
use Rattle.level.specs.Level as Level
use Rattle.level.specs.Level.{plunger_in, finding_of, sought_of, SearchOk}
use Rattle.level.proofs.Keeps.{a_search_that_begins, a_search_that_goes_on, the_plunger_stays_in_travel}
use Rattle.command.specs.declared.Way.{Way}
use Rattle.command.specs.declared.Command.{Command}
use Rattle.command.specs.declared.Command.TheVariants as C
use Rattle.command.specs.Allowed.{Allowed}
use Rattle.motion.specs.declared.Sense.{Sense}
use Rattle.motion.specs.declared.Body.{Body}
use Rattle.motion.specs.declared.Travel.{Travel}
use Rattle.motion.specs.declared.Activity.{Activity}
use Rattle.motion.specs.declared.Activity.TheVariants.{Initialising, Moving, Delaying, Approaching, Searching, Ejecting, Between}
use Rattle.motion.specs.declared.Effect.{Effect}
use Rattle.motion.specs.Events.{Turn}
use Rattle.motion.specs.Bodies.{later_of, plunger_of, body_at, body_for}
use Rattle.motion.specs.Motion.{home_of, target_of, set_out, aimed, move_of, paced_of, sloped_of, backlash_of, rated_of, detecting_of, delay_of, effect_of, carried, waited_of, onward_of, in_motion, cut_of, reset_of, fresh_body}
use Rattle.motion.specs.Bounds.{BodyOk, TravelOk, ActivityOk, EffectOk}
use Rattle.motion.specs.Detect.{felt_in, place_for, detect_of, approached_of, found_as, searched_of}
use Rattle.motion.proofs.Within.{target_within}
use Rattle.motion.proofs.Moves.{move_by_lem, eject_by_lem, ejected_by, detect_by_lem}

-- a movement's plunger lies between its two ends
pub plunger_between : (t : Travel) → t.from ≤ 44000 → t.goal ≤ 44000 → plunger_of t ≤ 44000
unfolding plunger_of
plunger_between t f g =
    by (λ (p : ℕ). p ≤ 44000) (leb t.from t.goal)
    (λ h. omega (arith, leb-true t.from t.goal h, distance_gone_is_at_most_the_distance t.ticks t.speed (t.goal - t.from)))
    (λ h. omega arith)

-- a movement that has not arrived has been going for less than 44000 ticks
pub not_arrived : (t : Travel) → 1000 ≤ t.speed → t.from ≤ 44000 → t.goal ≤ 44000 → (plunger_of t ≡ t.goal → ⊥) → t.ticks ≤ 44000
unfolding plunger_of
not_arrived t slow f g = go (leb t.from t.goal) refl
  where
    go : (x : Bool) → leb t.from t.goal ≡ x
        → ((if x then t.from + gone_of t.ticks t.speed (t.goal - t.from) else t.from - gone_of t.ticks t.speed (t.from - t.goal)) ≡ t.goal → ⊥)
        → t.ticks ≤ 44000
    go true e h = under_way t.ticks t.speed (t.goal - t.from) slow (omega arith) (λ a. h (omega (arith, leb-true t.from t.goal e)))
    go false e h = under_way t.ticks t.speed (t.from - t.goal) slow (omega arith) (λ a. h (omega (arith, leb-false t.from t.goal e)))

module _ (b : Body) (ok : BodyOk b) where
  set_with : (s : Settings) → Kept s → BodyOk (record { plunger = b.plunger; exact = b.exact; initialised = b.initialised; settings = s })
  set_with s k = record { plunger = ok.plunger; exact = ok.exact; settings = k }

  home_keeps : (n : ℕ) → 100 ≤ n → EffectOk (home_of n b).next
  unfolding home_of
  home_keeps n h =
      by EffectOk (eqb b.plunger 0)
      (λ e. record { plunger = ok.plunger; exact = omega arith; settings = ok.settings })
      (λ e. (
        record { plunger = ok.plunger; exact = omega arith; settings = ok.settings },
        record { from = ok.plunger; goal = omega arith; slow = omega arith; ticks = omega arith },
      ))

  set_out_keeps : (exact : ℕ) → exact ≤ 44000000000 → EffectOk (set_out exact b)
  unfolding set_out
  set_out_keeps exact h =
      let fine : BodyOk (record { plunger = b.plunger; exact = exact; initialised = b.initialised; settings = b.settings })
      = record { plunger = ok.plunger; exact = h; settings = ok.settings } in
      by EffectOk (eqb b.plunger (goal_of exact))
      (λ e. fine)
      (λ e. (fine, record { from = ok.plunger; goal = goal_is_within_travel exact h; slow = ok.settings.top.least; ticks = omega arith }))

  aimed_keeps : (t : Option ℕ) (way : Way) (v : Volume) → ((exact : ℕ) → t ≡ Some exact → exact ≤ 44000000000) → EffectOk (aimed t way v b).next
  unfolding aimed
  aimed_keeps (Some exact) way v h = set_out_keeps exact (h exact refl)
  aimed_keeps None way v h = ok

  move_keeps : (way : Way) (v : Volume) → EffectOk (move_of way v b).next
  move_keeps way v =
      let by_it = millionths_of v b.settings.rate in
      move_by_lem (λ (t : Turn Effect). EffectOk t.next) way v b (λ why. ok) (aimed_keeps (target_of way by_it b.exact) way v (λ exact. target_within way by_it b.exact exact))

  delay_keeps : (ms : ℕ) → EffectOk (delay_of ms b)
  unfolding delay_of
  delay_keeps ms = by EffectOk (eqb (ticks_of ms) 0) (λ e. ok) (λ e. (ok, tt))

  detect_keeps : (here : Bool) (s : Sense) → EffectOk (detect_of here s b).next
  detect_keeps =
      let place = ok.settings.detection.place.most in
      let fine : BodyOk (body_for (place_for b) b)
      = record { plunger = ok.plunger; exact = omega arith; settings = ok.settings } in
      detect_by_lem (λ (t : Turn Effect). EffectOk t.next) b
      (λ why. ok)
      (λ z. (ok, a_search_that_begins b.plunger z ok.plunger))
      (λ z. (fine, a_search_that_begins b.settings.detection.place z place))
      (λ z. (fine, record { from = ok.plunger; goal = place; slow = ok.settings.top.least; ticks = omega arith }))

paced_kept : (pace : Pace) (n : ℕ) (s : Settings) → Limits.Between (speeds_of pace) n → Kept s → Kept (paced_of pace n s)
paced_kept Top n s h k = record { top = h; start = k.start; cutoff = k.cutoff; acceleration = k.acceleration; deceleration = k.deceleration; backlash = k.backlash; rate = k.rate; detection = k.detection }
paced_kept Start n s h k = record { top = k.top; start = h; cutoff = k.cutoff; acceleration = k.acceleration; deceleration = k.deceleration; backlash = k.backlash; rate = k.rate; detection = k.detection }
paced_kept Cutoff n s h k = record { top = k.top; start = k.start; cutoff = h; acceleration = k.acceleration; deceleration = k.deceleration; backlash = k.backlash; rate = k.rate; detection = k.detection }

-- a command within 01's limits
pub effect_keeps : (s : Sense) (c : Command) (b : Body) → Allowed c → BodyOk b → EffectOk (effect_of s c b).next
unfolding effect_of Allowed
effect_keeps s (C.Initialise n) b h ok = home_keeps b ok n h.least
effect_keeps s (C.Move way v) b h ok = move_keeps b ok way v
effect_keeps s (C.Speed pace n) b h ok = set_with b ok (paced_of pace n b.settings) (paced_kept pace n b.settings h ok.settings)
effect_keeps s (C.Slopes up down) b h ok =
    let k = ok.settings in
    set_with b ok (sloped_of up down b.settings)
    (record { top = k.top; start = k.start; cutoff = k.cutoff; acceleration = h.0; deceleration = h.1; backlash = k.backlash; rate = k.rate; detection = k.detection })
effect_keeps s (C.Backlash n) b h ok =
    let k = ok.settings in
    set_with b ok (backlash_of n b.settings)
    (record { top = k.top; start = k.start; cutoff = k.cutoff; acceleration = k.acceleration; deceleration = k.deceleration; backlash = h; rate = k.rate; detection = k.detection })
effect_keeps s (C.Compensate n down) b h ok =
    let k = ok.settings in
    set_with b ok (rated_of (rate_of n down) b.settings)
    (record { top = k.top; start = k.start; cutoff = k.cutoff; acceleration = k.acceleration; deceleration = k.deceleration; backlash = k.backlash; rate = every_b_makes_a_rate_allowed n down h; detection = k.detection })
effect_keeps s (C.Delay ms) b h ok = delay_keeps b ok ms
effect_keeps s (C.Set a n) b h ok =
    let k = ok.settings in
    set_with b ok (detecting_of a n b.settings)
    (record { top = k.top; start = k.start; cutoff = k.cutoff; acceleration = k.acceleration; deceleration = k.deceleration; backlash = k.backlash; rate = k.rate; detection = every_aspect_set_is_kept a n b.settings.detection h k.detection })
effect_keeps s (C.Detect here) b h ok = detect_keeps b ok here s
effect_keeps s (C.Eject bare) b h ok = eject_by_lem EffectOk bare s b (λ why. ok) tt
effect_keeps s C.Open b h ok = tt
effect_keeps s (C.Close n) b h ok = tt

-- a tick of what is in progress
carried_keeps : (kind : Travel → Activity) (known : Bool) (t : Travel) (b : Body) → ((u : Travel) → TravelOk u → ActivityOk (kind u)) → BodyOk b → TravelOk t → EffectOk (carried kind known (later_of t) b)
unfolding carried
carried_keeps kind known t b of ok go =
    let u = later_of t in
    let low = plunger_between u go.from go.goal in
    by EffectOk (eqb (plunger_of u) t.goal)
    (λ e. record { plunger = low; exact = ok.exact; settings = ok.settings })
    (λ e. (
      record { plunger = low; exact = ok.exact; settings = ok.settings },
      of u (record { from = go.from; goal = go.goal; slow = go.slow; ticks = not_arrived u go.slow go.from go.goal (eqb-false (plunger_of u) t.goal e) }),
    ))

waited_keeps : (k : ℕ) (b : Body) → BodyOk b → EffectOk (waited_of k b)
unfolding waited_of
waited_keeps k b ok = by EffectOk (leb k 1) (λ e. ok) (λ e. (ok, tt))

-- the exact position at the plunger
at_plunger_lem : (b : Body) → BodyOk b → BodyOk (record { plunger = b.plunger; exact = b.plunger * 1000000; initialised = b.initialised; settings = b.settings })
at_plunger_lem b ok = let p = ok.plunger in record { plunger = p; exact = omega arith; settings = ok.settings }

approached_keeps : (p : Option ℕ) (t : Travel) (z : ℕ) (b : Body) → TravelOk t → BodyOk b → EffectOk (let now = later_of t in (approached_of p now z (body_at (plunger_of now) b)).next)
unfolding approached_of
approached_keeps p t z b go ok = judged p
  where
    u : Travel
    u = later_of t

    low : plunger_of u ≤ 44000
    low = plunger_between u go.from go.goal

    moved : BodyOk (body_at (plunger_of u) b)
    moved = record { plunger = low; exact = ok.exact; settings = ok.settings }

    judged : (p : Option ℕ) → EffectOk (approached_of p u z (body_at (plunger_of u) b)).next
    judged None = at_plunger_lem (body_at (plunger_of u) b) moved
    judged (Some r) =
        by EffectOk (eqb (plunger_of u) t.goal)
        (λ e. (moved, a_search_that_begins (plunger_of u) z low))
        (λ e. (moved, record { from = go.from; goal = go.goal; slow = go.slow; ticks = not_arrived u go.slow go.from go.goal (eqb-false (plunger_of u) t.goal e) }))

searched_keeps : (p : Option ℕ) (s : Search) (b : Body) → SearchOk s → BodyOk b → EffectOk (searched_of p s b).next
unfolding searched_of sought_of found_as
searched_keeps p s b go ok = judged (finding_of d now p) refl
  where
    d : Detection
    d = b.settings.detection

    now : Search
    now = Level.later_of s

    moved : BodyOk (body_at (plunger_in d now) b)
    moved = record { plunger = the_plunger_stays_in_travel d now go.from; exact = ok.exact; settings = ok.settings }

    judged : (f : Finding) → finding_of d now p ≡ f → EffectOk (found_as f (body_at (plunger_in d now) b)).next
    judged TooMuch e = at_plunger_lem (body_at (plunger_in d now) b) moved
    judged Found e = at_plunger_lem (body_at (plunger_in d now) b) moved
    judged Missed e = at_plunger_lem (body_at (plunger_in d now) b) moved
    judged (On t) e = (moved, a_search_that_goes_on d s t p ok.settings.detection.speed.least go e)

pub onward_keeps : (s : Sense) (a : Activity) (b : Body) → ActivityOk a → BodyOk b → EffectOk (onward_of s a b).next
unfolding onward_of
onward_keeps s (Initialising t) b go ok = carried_keeps Initialising true t b (λ u h. h) ok go
onward_keeps s (Moving t) b go ok = carried_keeps Moving b.initialised t b (λ u h. h) ok go
onward_keeps s (Delaying k) b go ok = waited_keeps k b ok
onward_keeps s (Approaching t z) b go ok = approached_keeps (felt_in s) t z b go ok
onward_keeps s (Searching f) b go ok = searched_keeps (felt_in s) f b go ok
onward_keeps s Ejecting b go ok = ejected_by EffectOk s b ok ok
onward_keeps s Between b go ok = ok

-- a cut, a reset and a fresh body
pub cut_keeps : (a : Activity) (b : Body) → BodyOk b → BodyOk (cut_of a b).next
unfolding cut_of
cut_keeps a b ok = by (λ (t : Turn Body). BodyOk t.next) (in_motion a) (λ e. at_plunger_lem b ok) (λ e. ok)

pub reset_keeps : (b : Body) → BodyOk b → BodyOk (reset_of b).next
unfolding reset_of
reset_keeps b ok = let p = ok.plunger in record { plunger = p; exact = omega arith; settings = usual_settings_are_kept }

pub fresh_ok : BodyOk fresh_body.next
unfolding fresh_body
fresh_ok = record { plunger = omega arith; exact = omega arith; settings = usual_settings_are_kept }
