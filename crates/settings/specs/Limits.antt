-- 01, "Reading the data": what each number of the command table may be, and what an absent one is.
use Rattle.std.specs.Prelude.{ℕ, ◌*◌, ◌≤◌, Bool, true, false, ◌&&◌, leb}
use Rattle.settings.specs.Units.{rate_of}
use Rattle.settings.specs.declared.Range.{Range}
use Rattle.settings.specs.declared.Settings.{Settings}
use Rattle.settings.specs.declared.Quantity.{Quantity}
use Rattle.settings.specs.declared.Quantity.TheVariants.{Home, Increments, Nanolitres, Slope, Backlash, Compensation, Choice, Delay, Passes}
use Rattle.settings.specs.declared.Pace.{Pace}
use Rattle.settings.specs.declared.Pace.TheVariants.{Top, Start, Cutoff}
use Rattle.settings.specs.declared.Detection.{Detection}
use Rattle.settings.specs.declared.Aspect.{Aspect}
use Rattle.settings.specs.declared.Aspect.TheVariants.{Threshold, Duration, Place, Speed, Most, Mode, Interval}

-- least and most both belong to it
infix 10 ◌to◌
abbrev pub ◌to◌ : ℕ → ℕ → Range
a to b = record { least = a; most = b }

unfoldable pub within : Range → ℕ → Bool
within range n = leb range.least n && leb n range.most

-- "above 44,000,000,000": the end of travel, in millionths of an increment
abbrev pub travel_most : ℕ
travel_most = 44000000000

abbrev pub range_of : Quantity → Range
range_of Home = 100 to 20000  -- W, increments a second
range_of Increments = 0 to 44000  -- A P D
range_of Nanolitres = 0 to 1100000  -- A P D, 1100.000 µL
range_of Slope = 1 to 80  -- L, both numbers
range_of Backlash = 0 to 500  -- K
range_of Compensation = 0 to 350  -- b
range_of Choice = 0 to 1  -- the second number of A P D V v c b; E and B
range_of Delay = 1 to 30000  -- M, milliseconds
range_of Passes = 0 to 50000  -- G

abbrev pub usual_of : Quantity → ℕ
usual_of Home = 6000
usual_of Increments = 0
usual_of Nanolitres = 0
usual_of Slope = 20
usual_of Backlash = 0
usual_of Compensation = 0
usual_of Choice = 0
usual_of Delay = 10
usual_of Passes = 0

-- V, v and c in tenths of an increment a second
abbrev pub speeds_of : Pace → Range
speeds_of Top = 1000 to 800000
speeds_of Start = 1000 to 120000
speeds_of Cutoff = 1000 to 800000

-- and in nL a second
abbrev pub flows_of : Pace → Range
flows_of Top = 2500 to 2000000
flows_of Start = 2500 to 300000
flows_of Cutoff = 2500 to 2000000

-- "An absent speed is the default in increments, whichever unit is given": tenths
abbrev pub usual_speed : Pace → ℕ
usual_speed Top = 80000
usual_speed Start = 10000
usual_speed Cutoff = 80000

-- 02, W-206, and 004, 5.8: the second number of p, by its first
abbrev pub aspects_of : Aspect → Range
aspects_of Threshold = 1 to 1000  -- p0, how far from the zero
aspects_of Duration = 1 to 100  -- p1, milliseconds
aspects_of Place = 0 to 44000  -- p2, increments
aspects_of Speed = 100 to 1000  -- p3, increments a second
aspects_of Most = 500 to 44000  -- p4, increments
aspects_of Mode = 0 to 1  -- p5, 0 aspirates and 1 dispenses
aspects_of Interval = 1 to 20  -- p6, milliseconds

abbrev pub usual_aspect : Aspect → ℕ
usual_aspect Threshold = 15
usual_aspect Duration = 5
usual_aspect Place = 0
usual_aspect Speed = 150
usual_aspect Most = 44000
usual_aspect Mode = 0
usual_aspect Interval = 20

-- what a search goes by; its speed is kept in tenths of an increment a second, as the others are
abbrev pub detection_of : ℕ → ℕ → ℕ → ℕ → ℕ → ℕ → ℕ → Detection
detection_of p0 p1 p2 p3 p4 p5 p6 = record { threshold = p0; duration = p1; place = p2; speed = p3 * 10; most = p4; mode = p5; interval = p6 }

abbrev pub usual_detection : Detection
usual_detection =
    detection_of (usual_aspect Threshold) (usual_aspect Duration) (usual_aspect Place) (usual_aspect Speed) (usual_aspect Most) (usual_aspect Mode) (usual_aspect Interval)

-- p: one of them set anew
abbrev pub aspect_set : Aspect → ℕ → Detection → Detection
aspect_set Threshold n d = record { threshold = n; duration = d.duration; place = d.place; speed = d.speed; most = d.most; mode = d.mode; interval = d.interval }
aspect_set Duration n d = record { threshold = d.threshold; duration = n; place = d.place; speed = d.speed; most = d.most; mode = d.mode; interval = d.interval }
aspect_set Place n d = record { threshold = d.threshold; duration = d.duration; place = n; speed = d.speed; most = d.most; mode = d.mode; interval = d.interval }
aspect_set Speed n d = record { threshold = d.threshold; duration = d.duration; place = d.place; speed = n * 10; most = d.most; mode = d.mode; interval = d.interval }
aspect_set Most n d = record { threshold = d.threshold; duration = d.duration; place = d.place; speed = d.speed; most = n; mode = d.mode; interval = d.interval }
aspect_set Mode n d = record { threshold = d.threshold; duration = d.duration; place = d.place; speed = d.speed; most = d.most; mode = n; interval = d.interval }
aspect_set Interval n d = record { threshold = d.threshold; duration = d.duration; place = d.place; speed = d.speed; most = d.most; mode = d.mode; interval = n }

-- C, as the largest b makes it downwards and upwards
abbrev pub rates : Range
rates = rate_of (range_of Compensation).most true to rate_of (range_of Compensation).most false

-- the settings of a fresh or reset controller
abbrev pub usual_with : Detection → Settings
usual_with d =
    record {
      top = usual_speed Top;
      start = usual_speed Start;
      cutoff = usual_speed Cutoff;
      acceleration = usual_of Slope;
      deceleration = usual_of Slope;
      backlash = usual_of Backlash;
      rate = rate_of (usual_of Compensation) false;
      detection = d;
    }

abbrev pub usual_settings : Settings
usual_settings = usual_with usual_detection

-- a number of a range, as a fact
pub record Between (range : Range) (n : ℕ) : Type 0 where
  pub least : range.least ≤ n
  pub most : n ≤ range.most

-- the speed of a search as it is kept, in tenths
abbrev pub search_speeds : Range
search_speeds = (aspects_of Speed).least * 10 to (aspects_of Speed).most * 10

-- settings that the command table allows
pub record Detected (d : Detection) : Type 0 where
  pub threshold : Between (aspects_of Threshold) d.threshold
  pub duration : Between (aspects_of Duration) d.duration
  pub place : Between (aspects_of Place) d.place
  pub speed : Between search_speeds d.speed
  pub most : Between (aspects_of Most) d.most
  pub mode : Between (aspects_of Mode) d.mode
  pub interval : Between (aspects_of Interval) d.interval

pub record Kept (s : Settings) : Type 0 where
  pub top : Between (speeds_of Top) s.top
  pub start : Between (speeds_of Start) s.start
  pub cutoff : Between (speeds_of Cutoff) s.cutoff
  pub acceleration : Between (range_of Slope) s.acceleration
  pub deceleration : Between (range_of Slope) s.deceleration
  pub backlash : Between (range_of Backlash) s.backlash
  pub rate : Between rates s.rate
  pub detection : Detected s.detection
