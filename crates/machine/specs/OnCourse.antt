-- On course: what holds of every device that comes from making and earlier calls. No function asks for it.
use Rattle.std.specs.Prelude.{ℕ, ◌+◌, ◌≤◌, ◌<◌, ◌≡◌, Bool, true, false, List, [], ◌∷◌, length, take, None, Ok, Some}
use Rattle.command.specs.declared.refusal.Refusal.{Refusal}
use Rattle.command.specs.declared.refusal.Refusal.TheVariants as R
use Rattle.motion.specs.declared.Sense.{Sense}
use Rattle.motion.specs.declared.Activity.{Activity}
use Rattle.motion.specs.declared.Activity.TheVariants.{Initialising, Moving, Delaying, Approaching, Searching, Ejecting, Between}
use Rattle.motion.specs.declared.Body.{Body}
use Rattle.motion.specs.Motion.{target_of, between}
use Rattle.motion.specs.declared.Travel.{Travel}
use Rattle.motion.specs.Bodies.{later_of, plunger_of, body_at}
use Rattle.motion.specs.Detect.{felt_in, no_way_down, settled_at}
use Rattle.level.specs.declared.Search.{Search}
use Rattle.level.specs.declared.Finding.TheVariants.{Missed}
use Rattle.level.specs.Level as Level
use Rattle.level.specs.Level.{plunger_in, finding_of}
use Rattle.settings.specs.declared.Volume.{Volume}
use Rattle.settings.specs.Units.{millionths_of}
use Rattle.command.specs.declared.Way.{Way}
use Rattle.command.specs.declared.Command.{Command}
use Rattle.command.specs.declared.Command.TheVariants as C
use Rattle.command.specs.Command.{command_at}
use Rattle.text.specs.Text.{Step, reads, read_of}
use Rattle.text.specs.Loops.{opens, closes, part_of}
use Rattle.text.specs.Inside.{Round, loop_of, Inside, MayRun, Place}
use Rattle.buffer.specs.declared.course.State.{State}
use Rattle.buffer.specs.declared.course.State.TheVariants.{Empty, Stored, Running, Stopped, Done}
use Rattle.buffer.specs.declared.course.Loops.{Loops}
use Rattle.buffer.specs.declared.course.Course.{Course}
use Rattle.machine.specs.declared.step.Core.{Core}
use Rattle.buffer.specs.declared.order.Action.TheVariants as A
use Rattle.machine.specs.declared.Device.{Device}
use Rattle.machine.specs.Step.{around, fails, step_of}
use Rattle.machine.specs.History.{Call, tick, act, stop}

-- each loop round a place has its mark: where the run goes back to, behind the loop's g
abbrev pub Marked : List Round → List ℕ → Type 0
Marked [] starts = Unit {0}
Marked (r ∷ rs) [] = ⊥
Marked (r ∷ rs) (s ∷ starts) = (s ≡ r.opening.next) × Marked rs starts

abbrev pub starts_of : Loops → List ℕ
starts_of l = l.first.start ∷ l.second.start ∷ l.third.start ∷ l.fourth.start ∷ []

-- a run's place in a text that may run: the loops that the run holds open are those that lie round the place in the text's tree
pub record OnWay (t : List ℕ) (at : ℕ) (l : Loops) : Type 0 where
  pub may : MayRun t
  pub rounds : List Round
  pub place : Place t may at rounds
  pub deep : l.depth ≡ length rounds
  pub marked : Marked rounds (starts_of l)

-- a text that reads, and has a command
pub record Loaded (t : List ℕ) : Type 0 where
  pub steps : List Step
  pub reading : read_of t ≡ reads steps
  pub some : 0 < length t

-- on its way, and a command is left
pub record Ahead (t : List ℕ) (at : ℕ) (l : Loops) : Type 0 where
  pub way : OnWay t at l
  pub left : at < length t

-- between two commands one is left; while one is in progress it may be the last
abbrev pub AheadIf : Bool → List ℕ → ℕ → Loops → Type 0
AheadIf true t at l = Ahead t at l
AheadIf false t at l = OnWay t at l

-- at the text's end
pub record Through (t : List ℕ) (at : ℕ) (l : Loops) : Type 0 where
  pub way : OnWay t at l
  pub through : at ≡ length t

abbrev pub StateOn : State → List ℕ → ℕ → Loops → Type 0
StateOn Empty t at l = Unit {0}
StateOn Stored t at l = Loaded t
StateOn (Running a) t at l = AheadIf (between a) t at l
StateOn Stopped t at l = Ahead t at l
StateOn Done t at l = Through t at l

-- a course over the text's array
abbrev pub CourseOn : List ℕ → Course → Type 0
CourseOn text c = StateOn c.state (take c.len text) c.at c.loops

abbrev pub OnCourse : Device → Type 0
OnCourse d = CourseOn d.text d.core.course

-- a string comes with a text that reads; what comes with a control is not looked at
abbrev pub SentBy : Call → Type 0
SentBy (tick s) = Unit {0}
SentBy stop = Unit {0}
SentBy (act A.Store added) = Loaded added
SentBy (act A.Launch added) = Loaded added
SentBy (act A.Run added) = Unit {0}
SentBy (act A.Again added) = Unit {0}
SentBy (act A.Clear added) = Unit {0}
SentBy (act A.Stop added) = Unit {0}
SentBy (act A.Reset added) = Unit {0}

abbrev pub AllSent : List Call → Type 0
AllSent [] = Unit {0}
AllSent (k ∷ ks) = SentBy k × AllSent ks

-- a G that a run takes: it closes a loop of the text's tree, the innermost that the run holds open, and the run goes back behind that loop's g
pub record HasItsG (t : List ℕ) (s : Step) (n : ℕ) (l : Loops) : Type 0 where
  pub may : MayRun t
  pub round : Round
  pub outer : List Round
  pub of_the_tree : Inside may.tree.nest (loop_of round) outer
  pub closes_it : round.closing ≡ s
  pub passes : round.passes ≡ n
  pub deep : l.depth ≡ length outer + 1
  pub behind_its_g : l.first.start ≡ round.opening.next

-- the next command of a run: it reads; if it is a g, fewer than four loops are open; if it is a G, its g is open
pub record Meets (text : List ℕ) (c : Course) : Type 0 where
  pub command : Command
  pub next : ℕ
  pub found : command_at (take c.len text) c.at ≡ Ok (Some (command, next))
  pub shallow : part_of command ≡ opens → c.loops.depth < 4
  pub back : (n : ℕ) → part_of command ≡ closes n → HasItsG (take c.len text) (record { at = c.at; command = command; next = next }) n c.loops

-- a command that a run can't carry out: "7 is checked before 3"
pub data Failing (s : Sense) (k : Command) (b : Body) : Refusal → Type 0 where
  uninitialised : (way : Way) (v : Volume) → k ≡ C.Move way v → b.initialised ≡ false → Failing s k b R.NotInitialised
  -- 02, W-205: "A, P or D taken while v is greater than V"; "after 7 and before the travel check"
  steep : (way : Way) (v : Volume) → k ≡ C.Move way v → b.initialised ≡ true → b.settings.top < b.settings.start → Failing s k b R.StartAboveTop
  outside :
      (way : Way) (v : Volume) → k ≡ C.Move way v → b.initialised ≡ true → b.settings.start ≤ b.settings.top →
      target_of way (millionths_of v b.settings.rate) b.exact ≡ None → Failing s k b R.Outside
  -- 02, W-203: "10 for E0 without a tip; 7 for E1 uninitialised"
  tipless : k ≡ C.Eject false → s.tip ≡ false → Failing s k b R.NoTip
  unready : k ≡ C.Eject true → b.initialised ≡ false → Failing s k b R.NotInitialised
  -- 02, W-206: "in the run, in this order, 7 uninitialised, 3 for p5 of 1 with p2 of 0, 5 for a reading outside -32767 to 32767"
  unknown : (here : Bool) → k ≡ C.Detect here → b.initialised ≡ false → Failing s k b R.NotInitialised
  no_way : (here : Bool) → k ≡ C.Detect here → b.initialised ≡ true → no_way_down b.settings.detection ≡ true → Failing s k b R.NoWayDown
  no_zero : (here : Bool) → k ≡ C.Detect here → b.initialised ≡ true → no_way_down b.settings.detection ≡ false → felt_in s ≡ None → Failing s k b R.TooMuchPressure

-- and what is in progress and fails: "a tip still there is then an eject failure"
pub data Breaking (s : Sense) (b : Body) : Activity → Refusal → Type 0 where
  still_there : s.tip ≡ true → Breaking s b Ejecting R.StillThere
  -- 02, W-206: "5 .. in any tick from the one that takes B, 6 when p4 increments or the end of travel are reached in a tick without a find"
  halted_move : (t : Travel) (z : ℕ) → felt_in s ≡ None → Breaking s b (Approaching t z) R.TooMuchPressure
  too_much : (f : Search) → felt_in s ≡ None → Breaking s b (Searching f) R.TooMuchPressure
  no_liquid : (f : Search) → finding_of b.settings.detection (Level.later_of f) (felt_in s) ≡ Missed → Breaking s b (Searching f) R.NoLiquid

-- what is left of the body: B moves the plunger first, and ends "as a start at the plunger"; all else fails with the body as it was
abbrev pub left_by : Activity → Body → Body
left_by (Initialising t) b = b
left_by (Moving t) b = b
left_by (Delaying k) b = b
left_by (Approaching t z) b = settled_at (body_at (plunger_of (later_of t)) b)
left_by (Searching f) b = settled_at (body_at (plunger_in b.settings.detection (Level.later_of f)) b)
left_by Ejecting b = b
left_by Between b = b

abbrev pub left_in : State → Body → Body
left_in Empty b = b
left_in Stored b = b
left_in (Running a) b = left_by a b
left_in Stopped b = b
left_in Done b = b

-- a tick that takes this command
pub record Takes (text : List ℕ) (c : Core) (k : Command) : Type 0 where
  pub next : ℕ
  pub between : c.course.state ≡ Running Between
  pub found : command_at (take c.course.len text) c.course.at ≡ Ok (Some (k, next))

-- why a run fails in a tick: in the command that it takes, or in what is in progress
pub data Cause (text : List ℕ) (s : Sense) (c : Core) (why : Refusal) : Type 0 where
  taken : (k : Command) → Takes text c k → Failing s k c.body why → Cause text s c why
  judged : (a : Activity) → c.course.state ≡ Running a → Breaking s c.body a why → Cause text s c why

-- a tick in which a run fails
pub record Fault (text : List ℕ) (s : Sense) (c : Core) : Type 0 where
  pub refusal : Refusal
  pub why : Cause text s c refusal
  pub so : (step_of (around text s) c).next ≡ fails refusal (left_in c.course.state c.body) c.course
