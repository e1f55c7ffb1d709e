-- A number that a range has lies between its ends, and the settings of a fresh or reset controller are within 01's limits.
use mathlib.Core.Path.{◌≡◌}
use mathlib.Core.Bool.{Bool, true, false, and-eq-true_iff}
use Prim.Native.Nat.{ℕ, ◌≤◌}
use native.Mathlib.Omega.{arith}
use borrow.Author.Tests.{leb-true, le-leb}
use lib.Dec.{leb}
use Rattle.settings.specs.declared.Range.{Range}
use Rattle.settings.specs.declared.Settings.{Settings}
use Rattle.settings.specs.declared.Quantity.TheVariants.{Compensation}
use Rattle.settings.specs.declared.Pace.{Pace}
use Rattle.settings.specs.declared.Pace.TheVariants.{Top, Start, Cutoff}
use Rattle.settings.specs.declared.Detection.{Detection}
use Rattle.settings.specs.declared.Aspect.{Aspect}
use Rattle.settings.specs.declared.Aspect.TheVariants.{Threshold, Duration, Place, Speed, Most, Mode, Interval}
use Rattle.settings.specs.Limits.{within, range_of, speeds_of, flows_of, rates, aspects_of, aspect_set, usual_settings, Between, Detected, Kept}
use Rattle.settings.specs.Units.{nearest, tenths_of, rate_of}

-- what passes the test of a range lies between its ends
pub what_a_range_has_is_between : (range : Range) (n : ℕ) → within range n ≡ true → Between range n
unfolding within
what_a_range_has_is_between range n h =
    let both = (and-eq-true_iff (leb range.least n) (leb n range.most)).0 h in
    record { least = leb-true _ _ both.0; most = leb-true _ _ both.1 }

-- and what lies between them passes it
pub what_is_between_a_range_has : (range : Range) (n : ℕ) → Between range n → within range n ≡ true
unfolding within
what_is_between_a_range_has range n b = simp (le-leb _ _ b.least, le-leb _ _ b.most)

-- the default settings are within the limits
pub usual_settings_are_kept : Kept usual_settings
unfolding rate_of
usual_settings_are_kept = omega arith

-- 01's C lies between 40000 - 350 and 40000 + 350
pub kept_rate_is_near_40000 : (s : Settings) → Kept s → (39650 ≤ s.rate) × (s.rate ≤ 40350)
unfolding rate_of
kept_rate_is_near_40000 s k = omega arith

-- V, v or c within its limits in nL a second is within its limits in tenths of an increment a second
pub a_flow_allowed_is_a_speed_allowed : (pace : Pace) (n : ℕ) → Between (flows_of pace) n → Between (speeds_of pace) (tenths_of n)
unfolding tenths_of nearest
a_flow_allowed_is_a_speed_allowed Top n b = omega arith
a_flow_allowed_is_a_speed_allowed Start n b = omega arith
a_flow_allowed_is_a_speed_allowed Cutoff n b = omega arith

-- every b that is allowed, up or down, makes a C that settings may hold
pub every_b_makes_a_rate_allowed : (b : ℕ) (down : Bool) → Between (range_of Compensation) b → Between rates (rate_of b down)
unfolding rate_of
every_b_makes_a_rate_allowed b true h = omega arith
every_b_makes_a_rate_allowed b false h = omega arith

-- what p allows, the settings may hold
pub every_aspect_set_is_kept : (a : Aspect) (n : ℕ) (d : Detection) → Between (aspects_of a) n → Detected d → Detected (aspect_set a n d)
every_aspect_set_is_kept Threshold n d b k = record { threshold = b; duration = k.duration; place = k.place; speed = k.speed; most = k.most; mode = k.mode; interval = k.interval }
every_aspect_set_is_kept Duration n d b k = record { threshold = k.threshold; duration = b; place = k.place; speed = k.speed; most = k.most; mode = k.mode; interval = k.interval }
every_aspect_set_is_kept Place n d b k = record { threshold = k.threshold; duration = k.duration; place = b; speed = k.speed; most = k.most; mode = k.mode; interval = k.interval }
every_aspect_set_is_kept Speed n d b k = record { threshold = k.threshold; duration = k.duration; place = k.place; speed = omega arith; most = k.most; mode = k.mode; interval = k.interval }
every_aspect_set_is_kept Most n d b k = record { threshold = k.threshold; duration = k.duration; place = k.place; speed = k.speed; most = b; mode = k.mode; interval = k.interval }
every_aspect_set_is_kept Mode n d b k = record { threshold = k.threshold; duration = k.duration; place = k.place; speed = k.speed; most = k.most; mode = b; interval = k.interval }
every_aspect_set_is_kept Interval n d b k = record { threshold = k.threshold; duration = k.duration; place = k.place; speed = k.speed; most = k.most; mode = k.mode; interval = b }

-- and every number that p takes is below 2 ^ 16
pub every_aspect_is_small : (a : Aspect) (n : ℕ) → Between (aspects_of a) n → n ≤ 44000
every_aspect_is_small Threshold n b = omega arith
every_aspect_is_small Duration n b = omega arith
every_aspect_is_small Place n b = omega arith
every_aspect_is_small Speed n b = omega arith
every_aspect_is_small Most n b = omega arith
every_aspect_is_small Mode n b = omega arith
every_aspect_is_small Interval n b = omega arith
