-- How long a movement takes: "after k ticks at s tenths of an increment a second, the distance gone is k × s / 1000 rounded down, never more than the distance".
use Rattle.std.specs.Prelude.{ℕ, ◌+◌, ◌-◌, ◌<◌, ◌≡◌, Bool}
use Rattle.settings.specs.Units.{ticks_for}
use Rattle.motion.specs.declared.Travel.{Travel}
use Rattle.motion.specs.declared.Activity.{Activity}
use Rattle.motion.specs.Bodies.{plunger_of, body_at, body_known}
use Rattle.buffer.specs.declared.course.State.TheVariants.{Running}
use Rattle.machine.specs.declared.step.Core.{Core}
use Rattle.machine.specs.declared.step.Stepped.{Stepped}
use Rattle.buffer.specs.Course.{in_state, reached}
use Rattle.machine.specs.Step.{core}

-- how far it is from a place to another: the one or the other difference is 0
unfoldable pub distance_of : ℕ → ℕ → ℕ
distance_of from goal = (goal - from) + (from - goal)

-- the ticks that a movement takes
unfoldable pub time_of : Travel → ℕ
time_of t = ticks_for t.speed (distance_of t.from t.goal)

-- a movement so many ticks after it set out
abbrev pub since : Travel → ℕ → Travel
since t k = record { from = t.from; goal = t.goal; speed = t.speed; ticks = k }

-- r is s, in which a movement sets out, k ticks later and still moving: only the plunger and the count of ticks differ
pub record UnderWay (kind : Travel → Activity) (t : Travel) (s : Stepped) (k : ℕ) (r : Stepped) : Type 0 where
  pub plunger : 0 < k → r.core.body.plunger ≡ plunger_of (since t k)
  pub body : body_at 0 r.core.body ≡ body_at 0 s.core.body
  pub course : r.core.course ≡ in_state (Running (kind (since t k))) s.core.course
  pub news : r.news ≡ s.news

-- the core in which it has ended: the plunger stands at the goal, and the next command is to be taken, or the text is done
unfoldable pub arrived_of : Bool → Travel → Core → Core
arrived_of known t c = core (body_known known (body_at t.goal c.body)) (reached c.course.at c.course.loops c.course)
