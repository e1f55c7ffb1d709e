-- 01, "Reports".
use Rattle.std.specs.Prelude.{ℕ, ◌+◌, ◌≤◌, Bool, true, false, ◌&&◌, eqb, leb, if◌then◌else◌, None, Option, Some}
use Rattle.line.specs.declared.Report.{Report}
use Rattle.settings.specs.declared.Settings.{Settings}
use Rattle.settings.specs.declared.Detection.{Detection}
use Rattle.settings.specs.Units.{flow_of, nanolitres_of}
use Rattle.line.specs.declared.Report.TheVariants.{Nothing, Character, Whole, Tenths, Thousandths}
use Rattle.motion.specs.declared.Activity.TheVariants.{Initialising, Moving, Delaying, Approaching, Searching, Ejecting, Between}
use Rattle.motion.specs.declared.Body.{Body}
use Rattle.motion.specs.Bounds.{BodyOk}
use Rattle.text.specs.declared.Question.{Question}
use Rattle.text.specs.declared.Question.TheVariants as Q
use Rattle.buffer.specs.declared.course.State.{State}
use Rattle.buffer.specs.declared.course.State.TheVariants.{Empty, Stored, Running, Stopped, Done}
use Rattle.buffer.specs.declared.course.Course.{Course}

-- "0 goal (the plunger when none pending)"
unfoldable pub goal_in : State → ℕ → ℕ
goal_in (Running (Initialising t)) plunger = t.goal
goal_in (Running (Moving t)) plunger = t.goal
goal_in (Running (Delaying k)) plunger = plunger
goal_in (Running (Approaching t z)) plunger = t.goal
goal_in (Running (Searching s)) plunger = plunger
goal_in (Running Ejecting) plunger = plunger
goal_in (Running Between) plunger = plunger
goal_in Empty plunger = plunger
goal_in Stored plunger = plunger
goal_in Stopped plunger = plunger
goal_in Done plunger = plunger

-- "29 and 67 `0` or `1`: busy; text waiting, running or stopped"
abbrev pub busy_in : State → ℕ
busy_in (Running a) = 1
busy_in Empty = 0
busy_in Stored = 0
busy_in Stopped = 0
busy_in Done = 0

abbrev pub text_in : State → ℕ
text_in Empty = 0
text_in Stored = 1
text_in (Running a) = 1
text_in Stopped = 1
text_in Done = 0

-- 02, W-203: "?31 reports the tip of the last tick"
abbrev pub tip_in : Bool → ℕ
tip_in true = 1
tip_in false = 0

-- settings: "4 K, 6 v, 7 V, 8 c, 9 and 10 L's two, .. 18 to 20 v, V, c in µL/s"; the lengths of travel: "16 `44000`, 17 `1100`". "Others 3"
unfoldable pub setting_of : ℕ → Settings → Option Report
setting_of n s =
    if eqb n 4 then Some (Whole s.backlash)
    else if eqb n 6 then Some (Tenths s.start)
    else if eqb n 7 then Some (Tenths s.top)
    else if eqb n 8 then Some (Tenths s.cutoff)
    else if eqb n 9 then Some (Whole s.acceleration)
    else if eqb n 10 then Some (Whole s.deceleration)
    else if eqb n 16 then Some (Whole 44000)
    else if eqb n 17 then Some (Whole 1100)
    else if eqb n 18 then Some (Thousandths (flow_of s.start))
    else if eqb n 19 then Some (Thousandths (flow_of s.top))
    else if eqb n 20 then Some (Thousandths (flow_of s.cutoff))
    else None

-- 02, W-206: p0 to p6 "reported by ?32 to ?38"; p3 in increments a second, with one decimal. "Others 3"
unfoldable pub aspect_in : ℕ → Detection → Option Report
aspect_in n d =
    if eqb n 32 then Some (Whole d.threshold)
    else if eqb n 33 then Some (Whole d.duration)
    else if eqb n 34 then Some (Whole d.place)
    else if eqb n 35 then Some (Tenths d.speed)
    else if eqb n 36 then Some (Whole d.most)
    else if eqb n 37 then Some (Whole d.mode)
    else if eqb n 38 then Some (Whole d.interval)
    else None

-- "0 goal .., 1 plunger, 3 plunger in µL .., 29 and 67", and the tip; what is set stands at 4 to 20 and at 32 to 38
unfoldable pub value_of : ℕ → Bool → Body → State → Option Report
value_of n tip b s =
    if eqb n 0 then Some (Whole (goal_in s b.plunger))
    else if eqb n 1 then Some (Whole b.plunger)
    else if eqb n 3 then Some (Thousandths (nanolitres_of b.plunger b.settings.rate))
    else if leb 4 n && leb n 20 then setting_of n b.settings
    else if eqb n 29 then Some (Whole (busy_in s))
    else if eqb n 31 then Some (Whole (tip_in tip))
    else if leb 32 n && leb n 38 then aspect_in n b.settings.detection
    else if eqb n 67 then Some (Whole (text_in s))
    else None

-- "Q or Q0 no data; Q1 one character, 40h plus the last error"; 02, W-202: "Q2 reports the column", "Q3 and above stay 3"
unfoldable pub query_of : ℕ → ℕ → ℕ → Option Report
query_of n error column =
    if eqb n 0 then Some Nothing
    else if eqb n 1 then Some (Character (64 + error))
    else if eqb n 2 then Some (Whole column)
    else None

-- "f the address"
unfoldable pub tell_of : Question → ℕ → Bool → Body → Course → Option Report
tell_of (Q.Query n) ours tip b c = query_of n c.error c.misread
tell_of (Q.Value n) ours tip b c = value_of n tip b c.state
tell_of Q.Address ours tip b c = Some (Character ours)

-- what holds of every controller that comes from making and earlier calls, as far as reports need it
pub record Tellable (b : Body) (c : Course) : Type 0 where
  pub body : BodyOk b
  pub error : c.error ≤ 15
