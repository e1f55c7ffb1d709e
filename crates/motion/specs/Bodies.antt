-- A movement, a body with a part of it changed, and what a host senses.
use Rattle.std.specs.Prelude.{ℕ, ◌+◌, ◌-◌, ◌*◌, Bool, false, leb, ℤ, pos, if◌then◌else◌}
use Rattle.settings.specs.declared.Settings.{Settings}
use Rattle.settings.specs.Units.{gone_of}
use Rattle.motion.specs.declared.Sense.{Sense}
use Rattle.motion.specs.declared.Body.{Body}
use Rattle.motion.specs.declared.Travel.{Travel}

-- a movement that sets out, and a tick later
abbrev pub travel : ℕ → ℕ → ℕ → Travel
travel from goal speed = record { from = from; goal = goal; speed = speed; ticks = 0 }

abbrev pub later_of : Travel → Travel
later_of t = record { from = t.from; goal = t.goal; speed = t.speed; ticks = t.ticks + 1 }

-- where the plunger is by now: the distance gone, upwards or downwards
unfoldable pub plunger_of : Travel → ℕ
plunger_of t =
    if leb t.from t.goal
    then t.from + gone_of t.ticks t.speed (t.goal - t.from)
    else t.from - gone_of t.ticks t.speed (t.from - t.goal)

abbrev pub body_at : ℕ → Body → Body
body_at p b = record { plunger = p; exact = b.exact; initialised = b.initialised; settings = b.settings }

abbrev pub body_for : ℕ → Body → Body
body_for e b = record { plunger = b.plunger; exact = e; initialised = b.initialised; settings = b.settings }

abbrev pub body_known : Bool → Body → Body
body_known i b = record { plunger = b.plunger; exact = b.exact; initialised = i; settings = b.settings }

abbrev pub body_set : Settings → Body → Body
body_set s b = record { plunger = b.plunger; exact = b.exact; initialised = b.initialised; settings = s }

-- the exact position "is the plunger's" "after a cut movement or a reset"
abbrev pub at_plunger : Body → ℕ
at_plunger b = b.plunger * 1000000

-- a tip, and a reading of the pressure; "no tip on the bench" (02, W-203), and "0 on the bench" (W-206)
abbrev pub sensing : Bool → ℤ → Sense
sensing tip reading = record { tip = tip; reading = reading }

abbrev pub nothing_sensed : Sense
nothing_sensed = sensing false (pos 0)
