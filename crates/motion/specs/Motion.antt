-- 01, "Ticks, volume and motion": what a command does to the body, and how a movement goes on.
use Rattle.std.specs.Prelude.{ℕ, ◌+◌, ◌-◌, ◌*◌, Bool, true, false, ltb, leb, eqb, if◌then◌else◌, None, Option, Some}
use Rattle.settings.specs.declared.Settings.{Settings}
use Rattle.settings.specs.declared.Detection.{Detection}
use Rattle.settings.specs.declared.Aspect.{Aspect}
use Rattle.settings.specs.declared.Volume.{Volume}
use Rattle.settings.specs.declared.Pace.{Pace}
use Rattle.settings.specs.declared.Pace.TheVariants.{Top, Start, Cutoff}
use Rattle.settings.specs.Limits.{travel_most, aspect_set, usual_settings}
use Rattle.settings.specs.Units.{ticks_of, rate_of, millionths_of, goal_of}
use Rattle.command.specs.declared.Way.{Way}
use Rattle.command.specs.declared.Way.TheVariants.{To, Up, Down}
use Rattle.command.specs.declared.refusal.Refusal.TheVariants as R
use Rattle.command.specs.declared.Command.{Command}
use Rattle.command.specs.declared.Command.TheVariants as C
use Rattle.motion.specs.declared.Sense.{Sense}
use Rattle.motion.specs.declared.Body.{Body}
use Rattle.motion.specs.declared.Travel.{Travel}
use Rattle.motion.specs.declared.Activity.{Activity}
use Rattle.motion.specs.declared.Activity.TheVariants.{Initialising, Moving, Delaying, Approaching, Searching, Ejecting, Between}
use Rattle.motion.specs.declared.Effect.{Effect}
use Rattle.motion.specs.declared.Effect.TheVariants.{Goes, Ends, Fails, Asks, Opens, Closes}
use Rattle.motion.specs.Events.{Event, start, volume, Turn, quiet, told}
use Rattle.motion.specs.Bodies.{travel, later_of, plunger_of, body_at, body_for, body_known, body_set, at_plunger}
use Rattle.motion.specs.Detect.{felt_in, detect_of, approached_of, searched_of}

-- "W clears "initialised", moves to 0, then sets it", at ten times its operand; the exact position is 0 in the tick that takes it
unfoldable pub home_of : ℕ → Body → Turn Effect
home_of speed b =
    let cleared = body_known false (body_for 0 b) in
    told (start 0)
    (if eqb b.plunger 0
    then Ends (body_known true cleared)
    else Goes cleared (Initialising (travel b.plunger 0 (speed * 10))))

-- "Result below 0 or above 44,000,000,000: refused, 3."
unfoldable pub within : ℕ → Option ℕ
within exact = if ltb travel_most exact then None else Some exact

-- "A sets, P adds, D subtracts."
unfoldable pub target_of : Way → ℕ → ℕ → Option ℕ
target_of To by exact = within by
target_of Up by exact = within (exact + by)
target_of Down by exact = if ltb exact by then None else within (exact - by)

-- the body sets out for an exact position; "moves of no distance .. end in that tick"; "A movement keeps the V of its start."
unfoldable pub set_out : ℕ → Body → Effect
set_out exact b =
    if eqb b.plunger (goal_of exact)
    then Ends (body_for exact b)
    else Goes (body_for exact b) (Moving (travel b.plunger (goal_of exact) b.settings.top))

-- what A, P and D add to the history: A is a start "at the exact place asked for"
abbrev pub event_of : Way → Volume → ℕ → ℕ → Event
event_of To v rate exact = start exact
event_of Up v rate exact = volume v rate true
event_of Down v rate exact = volume v rate false

unfoldable pub aimed : Option ℕ → Way → Volume → Body → Turn Effect
aimed (Some exact) way v b = told (event_of way v b.settings.rate exact) (set_out exact b)
aimed None way v b = quiet (Fails R.Outside b)

-- "7 is checked before 3." 02, W-205: "A, P or D taken while v is greater than V shall be refused"; "3 in the run, after 7 and before the travel check"
unfoldable pub move_of : Way → Volume → Body → Turn Effect
move_of way v b =
    if b.initialised
    then (
    if ltb b.settings.top b.settings.start
    then quiet (Fails R.StartAboveTop b)
    else aimed (target_of way (millionths_of v b.settings.rate) b.exact) way v b)
    else quiet (Fails R.NotInitialised b)

-- settings with one of them changed
abbrev pub settings_of : ℕ → ℕ → ℕ → ℕ → ℕ → ℕ → ℕ → Detection → Settings
settings_of a b c d e f g h = record { top = a; start = b; cutoff = c; acceleration = d; deceleration = e; backlash = f; rate = g; detection = h }

abbrev pub paced_of : Pace → ℕ → Settings → Settings
paced_of Top n s = settings_of n s.start s.cutoff s.acceleration s.deceleration s.backlash s.rate s.detection
paced_of Start n s = settings_of s.top n s.cutoff s.acceleration s.deceleration s.backlash s.rate s.detection
paced_of Cutoff n s = settings_of s.top s.start n s.acceleration s.deceleration s.backlash s.rate s.detection

abbrev pub sloped_of : ℕ → ℕ → Settings → Settings
sloped_of up down s = settings_of s.top s.start s.cutoff up down s.backlash s.rate s.detection

abbrev pub backlash_of : ℕ → Settings → Settings
backlash_of n s = settings_of s.top s.start s.cutoff s.acceleration s.deceleration n s.rate s.detection

abbrev pub rated_of : ℕ → Settings → Settings
rated_of rate s = settings_of s.top s.start s.cutoff s.acceleration s.deceleration s.backlash rate s.detection

abbrev pub detecting_of : Aspect → ℕ → Settings → Settings
detecting_of a n s = settings_of s.top s.start s.cutoff s.acceleration s.deceleration s.backlash s.rate (aspect_set a n s.detection)

-- "Settings .. end in that tick."
abbrev pub set_to : Settings → Body → Effect
set_to s b = Ends (body_set s b)

-- "delays of 0 end in that tick"
unfoldable pub delay_of : ℕ → Body → Effect
delay_of ms b = if eqb (ticks_of ms) 0 then Ends b else Goes b (Delaying (ticks_of ms))

-- 02, W-203: "The tick that takes it asks the host to eject"; "10 for E0 without a tip; 7 for E1 uninitialised". "E0 is judged by the tip of the tick that takes it."
unfoldable pub eject_of : Bool → Sense → Body → Effect
eject_of bare s b =
    if bare
    then (if b.initialised then Asks else Fails R.NotInitialised b)
    else (if s.tip then Asks else Fails R.NoTip b)

-- a command that is taken
unfoldable pub effect_of : Sense → Command → Body → Turn Effect
effect_of s (C.Initialise speed) b = home_of speed b
effect_of s (C.Move way v) b = move_of way v b
effect_of s (C.Speed pace n) b = quiet (set_to (paced_of pace n b.settings) b)
effect_of s (C.Slopes up down) b = quiet (set_to (sloped_of up down b.settings) b)
effect_of s (C.Backlash n) b = quiet (set_to (backlash_of n b.settings) b)
effect_of s (C.Compensate n down) b = quiet (set_to (rated_of (rate_of n down) b.settings) b)
effect_of s (C.Delay ms) b = quiet (delay_of ms b)
effect_of s (C.Set a n) b = quiet (set_to (detecting_of a n b.settings) b)
effect_of s (C.Detect here) b = detect_of here s b
effect_of s (C.Eject bare) b = quiet (eject_of bare s b)
effect_of s C.Open b = quiet Opens
effect_of s (C.Close n) b = quiet (Closes n)

-- a tick of a movement: the plunger where the distance gone puts it; once that is the goal it has ended, and W then sets "initialised"
unfoldable pub carried : (Travel → Activity) → Bool → Travel → Body → Effect
carried kind known t b =
    if eqb (plunger_of t) t.goal
    then Ends (body_known known (body_at (plunger_of t) b))
    else Goes (body_at (plunger_of t) b) (kind t)

unfoldable pub waited_of : ℕ → Body → Effect
waited_of k b = if leb k 1 then Ends b else Goes b (Delaying (k - 1))

-- 02, W-203: "the next one ends it, and a tip still there is then an eject failure"
unfoldable pub ejected_of : Sense → Body → Effect
ejected_of s b = if s.tip then Fails R.StillThere b else Ends b

-- a tick of what is in progress; between two commands nothing is
unfoldable pub onward_of : Sense → Activity → Body → Turn Effect
onward_of s (Initialising t) b = quiet (carried Initialising true (later_of t) b)
onward_of s (Moving t) b = quiet (carried Moving b.initialised (later_of t) b)
onward_of s (Delaying k) b = quiet (waited_of k b)
onward_of s (Approaching t z) b = let now = later_of t in approached_of (felt_in s) now z (body_at (plunger_of now) b)
onward_of s (Searching f) b = searched_of (felt_in s) f b
onward_of s Ejecting b = quiet (ejected_of s b)
onward_of s Between b = quiet (Ends b)

-- which of what can be in progress is a movement, and which is none of it: between two commands
abbrev pub in_motion : Activity → Bool
in_motion (Initialising t) = true
in_motion (Moving t) = true
in_motion (Delaying k) = false
in_motion (Approaching t z) = true
in_motion (Searching s) = true
in_motion Ejecting = false
in_motion Between = false

abbrev pub between : Activity → Bool
between (Initialising t) = false
between (Moving t) = false
between (Delaying k) = false
between (Approaching t z) = false
between (Searching s) = false
between Ejecting = false
between Between = true

-- T: "a movement is cut where the plunger is"; "T without movement doesn't touch" the exact position
unfoldable pub cut_of : Activity → Body → Turn Body
cut_of a b = if in_motion a then told (start (at_plunger b)) (body_for (at_plunger b) b) else quiet b

-- !R: "default settings, uninitialised, no error; the plunger stays"
unfoldable pub reset_of : Body → Turn Body
reset_of b = told (start (at_plunger b)) (body_set usual_settings (body_known false (body_for (at_plunger b) b)))

-- "Fresh: plunger and exact position 0, as after reset."
unfoldable pub fresh_body : Turn Body
fresh_body = told (start 0) (record { plunger = 0; exact = 0; initialised = false; settings = usual_settings })
