-- 01, "Ticks, volume and motion": how a run finds its way through the text: places, loops and their passes.
use Rattle.std.specs.Prelude.{ℕ, ◌+◌, ◌-◌, ltb, eqb, if◌then◌else◌, Err, None, Ok, Option, Result, Some}
use Rattle.command.specs.declared.refusal.Refusal.{Refusal}
use Rattle.command.specs.declared.refusal.Refusal.TheVariants as R
use Rattle.command.specs.Numbers.{refusal_number}
use Rattle.motion.specs.declared.Activity.{Activity}
use Rattle.motion.specs.declared.Activity.TheVariants.{Initialising, Moving, Delaying, Approaching, Searching, Ejecting, Between}
use Rattle.buffer.specs.declared.course.State.{State}
use Rattle.buffer.specs.declared.course.State.TheVariants.{Empty, Stored, Running, Stopped, Done}
use Rattle.buffer.specs.declared.course.Mark.{Mark}
use Rattle.buffer.specs.declared.course.Loops.{Loops}
use Rattle.buffer.specs.declared.course.Course.{Course}
use Rattle.buffer.specs.declared.course.Column.{Column}
use Rattle.buffer.specs.declared.course.Column.TheVariants as K

-- a course with one field changed
abbrev pub course_of : ℕ → ℕ → Loops → State → ℕ → ℕ → Course
course_of at len loops state error misread = record { at = at; len = len; loops = loops; state = state; error = error; misread = misread }

abbrev pub in_state : State → Course → Course
in_state state c = course_of c.at c.len c.loops state c.error c.misread

-- the last error, and the column of what was misread: 0 but after a string that was refused with 2 or 3
abbrev pub with_error : ℕ → ℕ → Course → Course
with_error error column c = course_of c.at c.len c.loops c.state error column

-- open loops, the innermost first: where each starts, and how often it has been gone back to
abbrev pub mark : ℕ → ℕ → Mark
mark start passes = record { start = start; passes = passes }

abbrev pub loops_of : ℕ → Mark → Mark → Mark → Mark → Loops
loops_of depth a b c d = record { depth = depth; first = a; second = b; third = c; fourth = d }

abbrev pub no_loops : Loops
no_loops = loops_of 0 (mark 0 0) (mark 0 0) (mark 0 0) (mark 0 0)

abbrev pub pushed : Mark → Loops → Loops
pushed m l = loops_of (l.depth + 1) m l.first l.second l.third

abbrev pub popped : Loops → Loops
popped l = loops_of (l.depth - 1) l.second l.third l.fourth (mark 0 0)

abbrev pub repeated : ℕ → Loops → Loops
repeated p l = loops_of l.depth (mark l.first.start p) l.second l.third l.fourth

-- "G n gives n passes in all"; "0 is endless", and its passes are not counted
unfoldable pub pass_of : ℕ → ℕ → Option ℕ
pass_of n p = if eqb n 0 then Some p else if ltb (p + 1) n then Some (p + 1) else None

-- a command has ended, and the next stands at a place: "The end of the last command makes Done in the same tick."
unfoldable pub reached : ℕ → Loops → Course → Course
reached at loops c = course_of at c.len loops (if ltb at c.len then Running Between else Done) c.error c.misread

-- a command goes on, and the next stands at a place
abbrev pub gone_on : Activity → ℕ → Course → Course
gone_on a at c = course_of at c.len c.loops (Running a) c.error c.misread

-- a text of so many characters, before its first command: erased, waiting, and run from its start
abbrev pub anew : ℕ → State → Course → Course
anew len state c = course_of 0 len no_loops state c.error c.misread

abbrev pub erased_of : Course → Course
erased_of c = anew 0 Empty c

abbrev pub waiting : ℕ → Course → Course
waiting len c = anew len Stored c

abbrev pub begun : ℕ → Course → Course
begun len c = anew len (Running Between) c

-- "A refusal in a run sets the last error to its code and erases the text (Empty)"; it has no column (02, W-202)
abbrev pub failed_of : Refusal → Course → Course
failed_of why c = with_error (refusal_number why) 0 (erased_of c)

-- g: "each further one from the command after its g"; a fifth loop is never met (proofs/OnCourse)
unfoldable pub opened_of : ℕ → Course → Result Course Refusal
opened_of next c =
    if ltb c.loops.depth 4 then Ok (reached next (pushed (mark next 0) c.loops) c) else Err R.Loops

-- G of the innermost open loop: back to its start, or on behind it; "a loop entered anew counts anew"
unfoldable pub closed_by : Option ℕ → ℕ → Course → Course
closed_by (Some p) next c = reached c.loops.first.start (repeated p c.loops) c
closed_by None next c = reached next (popped c.loops) c

-- a G without an open g is never met (proofs/OnCourse)
unfoldable pub closed_of : ℕ → ℕ → Course → Result Course Refusal
closed_of n next c =
    if eqb c.loops.depth 0 then Err R.Loops else Ok (closed_by (pass_of n c.loops.first.passes) next c)

-- "Then Stopped before the next command, loop counts kept, or Empty if none is left."
unfoldable pub halted : Course → Course
halted c = if ltb c.at c.len then in_state Stopped c else erased_of c

-- a state's column in the table of strings and controls
abbrev pub while_of : Activity → Column
while_of (Initialising t) = K.Busy
while_of (Moving t) = K.Busy
while_of (Delaying k) = K.Delaying
while_of (Approaching t z) = K.Busy
while_of (Searching s) = K.Busy
while_of Ejecting = K.Busy
while_of Between = K.Busy

abbrev pub column_of : State → Column
column_of Empty = K.Empty
column_of Stored = K.Stored
column_of (Running a) = while_of a
column_of Stopped = K.Stopped
column_of Done = K.Done
