-- 01, "Ticks, volume and motion": one tick.
use Rattle.std.specs.Prelude.{ℕ, Bool, true, false, ◌||◌, List, take, if◌then◌else◌, Err, None, Ok, Result, Some}
use Rattle.command.specs.Verdict.{Verdict}
use Rattle.command.specs.Found.{Found}
use Rattle.command.specs.declared.refusal.Refusal.{Refusal}
use Rattle.command.specs.declared.refusal.Refusal.TheVariants as R
use Rattle.command.specs.Numbers.{first_of}
use Rattle.command.specs.Command.{command_at}
use Rattle.motion.specs.declared.Sense.{Sense}
use Rattle.motion.specs.declared.Body.{Body}
use Rattle.motion.specs.declared.Activity.{Activity}
use Rattle.motion.specs.declared.Activity.TheVariants.{Ejecting}
use Rattle.motion.specs.declared.Effect.{Effect}
use Rattle.motion.specs.declared.Effect.TheVariants.{Goes, Ends, Fails, Asks, Opens, Closes}
use Rattle.motion.specs.Events.{Turn, quiet}
use Rattle.motion.specs.Motion.{effect_of, onward_of, between}
use Rattle.buffer.specs.declared.course.State.{State}
use Rattle.buffer.specs.declared.course.State.TheVariants.{Empty, Stored, Running, Stopped, Done}
use Rattle.buffer.specs.declared.course.Course.{Course}
use Rattle.buffer.specs.Course.{reached, gone_on, failed_of, opened_of, closed_of}
use Rattle.machine.specs.declared.step.Core.{Core}
use Rattle.machine.specs.declared.step.News.{News}
use Rattle.machine.specs.declared.step.Stepped.{Stepped}

-- what surrounds a step: the text's array, and what the host senses
pub record Around : Type 0 where
  pub text : List ℕ
  pub sense : Sense

abbrev pub around : List ℕ → Sense → Around
around text s = record { text = text; sense = s }

abbrev pub core : Body → Course → Core
core b c = record { body = b; course = c }

-- what a step tells the host: why the run fails if it does, and whether a tip is to be ejected
abbrev pub news : Verdict → Bool → News
news v eject = record { failed = v; eject = eject }

abbrev pub no_news : News
no_news = news (Ok tt) false

-- of two steps, one after the other: the first failure counts, and either may ask
abbrev pub both_of : News → News → News
both_of a b = news (first_of a.failed b.failed) (a.eject || b.eject)

-- what a step hands back: the core, and what it tells
abbrev pub stepped : Core → News → Stepped
stepped c n = record { core = c; news = n }

abbrev pub fine : Core → Stepped
fine c = stepped c no_news

-- 02, W-203: "asks the host to eject"
abbrev pub asking : Core → Stepped
asking c = stepped c (news (Ok tt) true)

-- "A refusal in a run sets the last error to its code and erases the text (Empty)"
abbrev pub fails : Refusal → Body → Course → Stepped
fails why b c = stepped (core b (failed_of why c)) (news (Err why) false)

-- g and G: the run goes on, or fails
abbrev pub went_of : Result Course Refusal → Body → Course → Stepped
went_of (Ok on) b c = fine (core b on)
went_of (Err why) b c = fails why b c

-- what a command that is taken does, or a tick of what is in progress, the next command standing at a place
unfoldable pub applied_of : Effect → ℕ → Core → Stepped
applied_of (Goes b a) next c = fine (core b (gone_on a next c.course))
applied_of (Ends b) next c = fine (core b (reached next c.course.loops c.course))
applied_of (Fails why b) next c = fails why b c.course
applied_of Asks next c = asking (core c.body (gone_on Ejecting next c.course))
applied_of Opens next c = went_of (opened_of next c.course) c.body c.course
applied_of (Closes n) next c = went_of (closed_of n next c.course) c.body c.course

abbrev pub applies : Turn Effect → ℕ → Core → Turn Stepped
applies t next c = record { next = applied_of t.next next c; events = t.events }

-- "Running between commands, a tick takes one command, g and G included."
unfoldable pub taken_of : Sense → Found → Core → Turn Stepped
taken_of s (Ok (Some (k, next))) c = applies (effect_of s k c.body) next c
taken_of s (Err m) c = quiet (fails (R.Misread m) c.body c.course)
taken_of s (Ok None) c = quiet (fine (core c.body (reached c.course.at c.course.loops c.course)))

-- "Movement and delay advance from the next tick."
unfoldable pub carried_on : Sense → Activity → Core → Turn Stepped
carried_on s a c = applies (onward_of s a c.body) c.course.at c

unfoldable pub running_of : Activity → Around → Core → Turn Stepped
running_of a w c =
    if between a then taken_of w.sense (command_at (take c.course.len w.text) c.course.at) c else carried_on w.sense a c

-- "in a ready state nothing advances"
unfoldable pub active_of : State → Around → Core → Turn Stepped
active_of (Running a) w c = running_of a w c
active_of Empty w c = quiet (fine c)
active_of Stored w c = quiet (fine c)
active_of Stopped w c = quiet (fine c)
active_of Done w c = quiet (fine c)

-- a tick of the core in its surroundings
unfoldable pub step_of : Around → Core → Turn Stepped
step_of w c = active_of c.course.state w c

-- a tick more, after what was handed back
unfoldable pub next_of : Around → Stepped → Stepped
next_of w s = let t = (step_of w s.core).next in stepped t.core (both_of s.news t.news)
