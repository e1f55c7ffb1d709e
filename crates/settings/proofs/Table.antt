-- Every limit of 01's command table with its neighbours, the defaults, and 01's examples of numbers: one row to a line, and the checker computes them all.
use mathlib.Core.Path.{◌≡◌, refl}
use mathlib.Core.Bool.{Bool, true, false}
use mathlib.Core.List.{List, [], ◌∷◌}
use Prim.Native.Nat.{ℕ}
use lib.Dec.{eqb}
use Rattle.std.specs.Prelude.{if◌then◌else◌}
use Rattle.settings.specs.declared.Range.{Range}
use Rattle.settings.specs.declared.Volume.{Volume}
use Rattle.settings.specs.declared.Volume.TheVariants as V
use Rattle.settings.specs.declared.Quantity.TheVariants.{Home, Increments, Nanolitres, Slope, Backlash, Compensation, Choice, Delay, Passes}
use Rattle.settings.specs.declared.Pace.TheVariants.{Top, Start, Cutoff}
use Rattle.settings.specs.declared.Aspect.TheVariants.{Threshold, Duration, Place, Speed, Most, Mode, Interval}
use Rattle.settings.specs.Limits.{within, range_of, usual_of, speeds_of, flows_of, usual_speed, aspects_of, usual_aspect, usual_settings}
use Rattle.settings.specs.Units.{nearest, tenths_of, flow_of, ticks_of, rate_of, millionths_of, goal_of, nanolitres_of, gone_of}

infix 68 ◌takes◌ ◌refuses◌ ◌gives◌
pub data Row : Type 0 where
  ◌takes◌ : Range → ℕ → Row
  ◌refuses◌ : Range → ℕ → Row
  ◌gives◌ : ℕ → ℕ → Row

-- whether a row says what the definitions say
abbrev pub right : Row → Bool
right (range takes n) = within range n
right (range refuses n) = if within range n then false else true
right (a gives b) = eqb a b

abbrev pub wrong_of : List Row → List Row
wrong_of [] = []
wrong_of (row ∷ rows) = if right row then wrong_of rows else row ∷ wrong_of rows

abbrev nL : ℕ → Volume
nL n = V.Nanolitres n

abbrev increments : ℕ → Volume
increments n = V.Increments n

abbrev pub table : List Row
table =
    range_of Home refuses 99 ∷  -- W
    range_of Home takes 100 ∷
    range_of Home takes 101 ∷
    range_of Home takes 19999 ∷
    range_of Home takes 20000 ∷
    range_of Home refuses 20001 ∷
    range_of Increments takes 0 ∷  -- A P D
    range_of Increments takes 1 ∷
    range_of Increments takes 43999 ∷
    range_of Increments takes 44000 ∷
    range_of Increments refuses 44001 ∷
    range_of Nanolitres takes 0 ∷  -- A P D in nL
    range_of Nanolitres takes 1 ∷
    range_of Nanolitres takes 1099999 ∷
    range_of Nanolitres takes 1100000 ∷
    range_of Nanolitres refuses 1100001 ∷
    range_of Slope refuses 0 ∷  -- L
    range_of Slope takes 1 ∷
    range_of Slope takes 2 ∷
    range_of Slope takes 79 ∷
    range_of Slope takes 80 ∷
    range_of Slope refuses 81 ∷
    range_of Backlash takes 0 ∷  -- K
    range_of Backlash takes 1 ∷
    range_of Backlash takes 499 ∷
    range_of Backlash takes 500 ∷
    range_of Backlash refuses 501 ∷
    range_of Compensation takes 0 ∷  -- b
    range_of Compensation takes 1 ∷
    range_of Compensation takes 349 ∷
    range_of Compensation takes 350 ∷
    range_of Compensation refuses 351 ∷
    range_of Choice takes 0 ∷  -- second numbers
    range_of Choice takes 1 ∷
    range_of Choice refuses 2 ∷
    range_of Delay refuses 0 ∷  -- M
    range_of Delay takes 1 ∷
    range_of Delay takes 2 ∷
    range_of Delay takes 29999 ∷
    range_of Delay takes 30000 ∷
    range_of Delay refuses 30001 ∷
    range_of Passes takes 0 ∷  -- G
    range_of Passes takes 1 ∷
    range_of Passes takes 49999 ∷
    range_of Passes takes 50000 ∷
    range_of Passes refuses 50001 ∷
    speeds_of Top refuses 999 ∷  -- V, tenths
    speeds_of Top takes 1000 ∷
    speeds_of Top takes 1001 ∷
    speeds_of Top takes 799999 ∷
    speeds_of Top takes 800000 ∷
    speeds_of Top refuses 800001 ∷
    speeds_of Start refuses 999 ∷  -- v, tenths
    speeds_of Start takes 1000 ∷
    speeds_of Start takes 1001 ∷
    speeds_of Start takes 119999 ∷
    speeds_of Start takes 120000 ∷
    speeds_of Start refuses 120001 ∷
    speeds_of Cutoff refuses 999 ∷  -- c, tenths
    speeds_of Cutoff takes 1000 ∷
    speeds_of Cutoff takes 1001 ∷
    speeds_of Cutoff takes 799999 ∷
    speeds_of Cutoff takes 800000 ∷
    speeds_of Cutoff refuses 800001 ∷
    flows_of Top refuses 2499 ∷  -- V, nL/s
    flows_of Top takes 2500 ∷
    flows_of Top takes 2501 ∷
    flows_of Top takes 1999999 ∷
    flows_of Top takes 2000000 ∷
    flows_of Top refuses 2000001 ∷
    flows_of Start refuses 2499 ∷  -- v, nL/s
    flows_of Start takes 2500 ∷
    flows_of Start takes 2501 ∷
    flows_of Start takes 299999 ∷
    flows_of Start takes 300000 ∷
    flows_of Start refuses 300001 ∷
    flows_of Cutoff refuses 2499 ∷  -- c, nL/s
    flows_of Cutoff takes 2500 ∷
    flows_of Cutoff takes 2501 ∷
    flows_of Cutoff takes 1999999 ∷
    flows_of Cutoff takes 2000000 ∷
    flows_of Cutoff refuses 2000001 ∷
    aspects_of Threshold refuses 0 ∷  -- p0
    aspects_of Threshold takes 1 ∷
    aspects_of Threshold takes 2 ∷
    aspects_of Threshold takes 999 ∷
    aspects_of Threshold takes 1000 ∷
    aspects_of Threshold refuses 1001 ∷
    aspects_of Duration refuses 0 ∷  -- p1
    aspects_of Duration takes 1 ∷
    aspects_of Duration takes 2 ∷
    aspects_of Duration takes 99 ∷
    aspects_of Duration takes 100 ∷
    aspects_of Duration refuses 101 ∷
    aspects_of Place takes 0 ∷  -- p2
    aspects_of Place takes 1 ∷
    aspects_of Place takes 43999 ∷
    aspects_of Place takes 44000 ∷
    aspects_of Place refuses 44001 ∷
    aspects_of Speed refuses 99 ∷  -- p3
    aspects_of Speed takes 100 ∷
    aspects_of Speed takes 101 ∷
    aspects_of Speed takes 999 ∷
    aspects_of Speed takes 1000 ∷
    aspects_of Speed refuses 1001 ∷
    aspects_of Most refuses 499 ∷  -- p4
    aspects_of Most takes 500 ∷
    aspects_of Most takes 501 ∷
    aspects_of Most takes 43999 ∷
    aspects_of Most takes 44000 ∷
    aspects_of Most refuses 44001 ∷
    aspects_of Mode takes 0 ∷  -- p5
    aspects_of Mode takes 1 ∷
    aspects_of Mode refuses 2 ∷
    aspects_of Interval refuses 0 ∷  -- p6
    aspects_of Interval takes 1 ∷
    aspects_of Interval takes 2 ∷
    aspects_of Interval takes 19 ∷
    aspects_of Interval takes 20 ∷
    aspects_of Interval refuses 21 ∷
    usual_of Home gives 6000 ∷  -- the defaults
    usual_of Increments gives 0 ∷
    usual_of Nanolitres gives 0 ∷
    usual_of Slope gives 20 ∷
    usual_of Backlash gives 0 ∷
    usual_of Compensation gives 0 ∷
    usual_of Choice gives 0 ∷
    usual_of Delay gives 10 ∷
    usual_of Passes gives 0 ∷
    usual_speed Top gives 80000 ∷
    usual_speed Start gives 10000 ∷
    usual_speed Cutoff gives 80000 ∷
    usual_aspect Threshold gives 15 ∷
    usual_aspect Duration gives 5 ∷
    usual_aspect Place gives 0 ∷
    usual_aspect Speed gives 150 ∷
    usual_aspect Most gives 44000 ∷
    usual_aspect Mode gives 0 ∷
    usual_aspect Interval gives 20 ∷
    usual_settings.top gives 80000 ∷  -- the settings of a fresh or reset controller
    usual_settings.start gives 10000 ∷
    usual_settings.cutoff gives 80000 ∷
    usual_settings.acceleration gives 20 ∷
    usual_settings.deceleration gives 20 ∷
    usual_settings.backlash gives 0 ∷
    usual_settings.rate gives 40000 ∷
    usual_settings.detection.threshold gives 15 ∷
    usual_settings.detection.duration gives 5 ∷
    usual_settings.detection.place gives 0 ∷
    usual_settings.detection.speed gives 1500 ∷
    usual_settings.detection.most gives 44000 ∷
    usual_settings.detection.mode gives 0 ∷
    usual_settings.detection.interval gives 20 ∷
    ticks_of 9 gives 0 ∷  -- M9
    ticks_of 14 gives 1 ∷  -- M14
    ticks_of 15 gives 2 ∷  -- M15
    ticks_of 30000 gives 3000 ∷
    tenths_of 2500 gives 1000 ∷  -- V2.5,1
    tenths_of 2503 gives 1001 ∷  -- V2.503,1
    flow_of 1001 gives 2503 ∷
    tenths_of 2000000 gives 800000 ∷
    gone_of 1 1555 1000 gives 1 ∷  -- V155.5
    gone_of 2 1555 1000 gives 3 ∷
    gone_of 3 1555 1000 gives 4 ∷
    gone_of 3 1555 3 gives 3 ∷
    rate_of 350 false gives 40350 ∷  -- b350
    rate_of 350 true gives 39650 ∷  -- b350,1
    millionths_of (nL 1090458) 40350 gives 43999980300 ∷  -- A1090.458,1 after b350
    goal_of 43999980300 gives 44000 ∷
    millionths_of (nL 1090459) 40350 gives 44000020650 ∷  -- A1090.459,1, above 44,000,000,000
    millionths_of (nL 10) 40000 gives 400000 ∷  -- P0.01,1
    goal_of 400000 gives 0 ∷
    goal_of 2000000 gives 2 ∷  -- five times P0.01,1
    goal_of 499999 gives 0 ∷
    goal_of 500000 gives 1 ∷
    millionths_of (increments 1000) 40350 gives 1000000000 ∷  -- A1000, whatever b is
    nanolitres_of 44000 40000 gives 1100000 ∷  -- ?3
    nanolitres_of 44000 40350 gives 1090458 ∷
    nanolitres_of 44000 39650 gives 1109710 ∷
    nanolitres_of 313 40064 gives 7813 ∷  -- 7812.5: half up
    []

-- no row of the table is wrong
pub the_table_holds : wrong_of table ≡ []
unfolding within nearest tenths_of flow_of ticks_of rate_of millionths_of goal_of nanolitres_of gone_of
the_table_holds = refl
