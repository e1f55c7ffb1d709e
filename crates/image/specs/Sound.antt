-- The bounds of a core that comes from making and earlier calls (machine, `Valid`), as a test.
use Rattle.std.specs.Prelude.{ℕ, Bool, true, false, ◌&&◌, leb}
use Rattle.settings.specs.Limits.{within, range_of, speeds_of, aspects_of, search_speeds, rates, travel_most}
use Rattle.settings.specs.declared.Detection.{Detection}
use Rattle.settings.specs.declared.Settings.{Settings}
use Rattle.settings.specs.declared.Pace.TheVariants as P
use Rattle.settings.specs.declared.Quantity.TheVariants.{Increments, Slope, Backlash}
use Rattle.settings.specs.declared.Aspect.TheVariants as A
use Rattle.level.specs.declared.Search.{Search}
use Rattle.motion.specs.declared.Travel.{Travel}
use Rattle.motion.specs.declared.Activity.{Activity}
use Rattle.motion.specs.declared.Activity.TheVariants.{Initialising, Moving, Delaying, Approaching, Searching, Ejecting, Between}
use Rattle.motion.specs.declared.Body.{Body}
use Rattle.buffer.specs.declared.course.State.{State}
use Rattle.buffer.specs.declared.course.State.TheVariants.{Empty, Stored, Running, Stopped, Done}
use Rattle.machine.specs.declared.step.Core.{Core}

-- a flag as a byte
abbrev pub flag_of : Bool → ℕ
flag_of true = 1
flag_of false = 0

-- 0 to 44000: a place of the plunger, and as many ticks as the slowest movement takes
abbrev pub placed : ℕ → Bool
placed n = within (range_of Increments) n

unfoldable pub detection_sound : Detection → Bool
detection_sound d =
    within (aspects_of A.Threshold) d.threshold &&
    (within (aspects_of A.Duration) d.duration &&
    (within (aspects_of A.Place) d.place &&
    (within search_speeds d.speed &&
    (within (aspects_of A.Most) d.most && (within (aspects_of A.Mode) d.mode && (within (aspects_of A.Interval) d.interval && true))))))

unfoldable pub settings_sound : Settings → Bool
settings_sound s =
    within (speeds_of P.Top) s.top &&
    (within (speeds_of P.Start) s.start &&
    (within (speeds_of P.Cutoff) s.cutoff &&
    (within (range_of Slope) s.acceleration &&
    (within (range_of Slope) s.deceleration &&
    (within (range_of Backlash) s.backlash && (within rates s.rate && detection_sound s.detection))))))

unfoldable pub travel_sound : Travel → Bool
travel_sound t = placed t.from && (placed t.goal && (leb 1000 t.speed && (placed t.ticks && true)))

unfoldable pub search_sound : Search → Bool
search_sound s = placed s.from && (placed s.ticks && leb s.count s.ticks)

abbrev pub activity_sound : Activity → Bool
activity_sound (Initialising t) = travel_sound t
activity_sound (Moving t) = travel_sound t
activity_sound (Delaying k) = true
activity_sound (Approaching t z) = travel_sound t
activity_sound (Searching s) = search_sound s
activity_sound Ejecting = true
activity_sound Between = true

abbrev pub state_sound : State → Bool
state_sound Empty = true
state_sound Stored = true
state_sound (Running a) = activity_sound a
state_sound Stopped = true
state_sound Done = true

unfoldable pub body_sound : Body → Bool
body_sound b = placed b.plunger && (leb b.exact travel_most && settings_sound b.settings)

unfoldable pub sound_of : Core → Bool
sound_of c = leb c.course.len 256 && (leb c.course.error 15 && (state_sound c.course.state && body_sound c.body))
