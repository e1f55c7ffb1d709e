-- The bounds that every core that comes from making and earlier calls keeps: the one premise of what is called on it.
use Rattle.std.specs.Prelude.{ℕ, ◌≤◌, ◌≡◌, List, length}
use Rattle.motion.specs.declared.Activity.{Activity}
use Rattle.motion.specs.Bounds.{BodyOk, ActivityOk}
use Rattle.buffer.specs.declared.course.State.{State}
use Rattle.buffer.specs.declared.course.State.TheVariants.{Empty, Stored, Running, Stopped, Done}
use Rattle.buffer.specs.declared.course.Course.{Course}
use Rattle.machine.specs.declared.step.Core.{Core}

abbrev pub StateOk : State → Type 0
StateOk (Running a) = ActivityOk a
StateOk Empty = Unit {0}
StateOk Stored = Unit {0}
StateOk Stopped = Unit {0}
StateOk Done = Unit {0}

pub record CourseOk (c : Course) : Type 0 where
  pub len : c.len ≤ 256
  pub state : StateOk c.state
  pub error : c.error ≤ 15

pub record Valid (c : Core) : Type 0 where
  pub body : BodyOk c.body
  pub course : CourseOk c.course

-- a core over its text's array, and an activity of it
pub record Ready (c : Core) (text : List ℕ) : Type 0 where
  pub valid : Valid c
  pub long : length text ≡ 256

pub record Ticking (c : Core) (a : Activity) (text : List ℕ) : Type 0 where
  pub body : BodyOk c.body
  pub activity : ActivityOk a
  pub inside : c.course.len ≤ length text
