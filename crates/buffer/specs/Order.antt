-- 01, "The buffer": what each string and control asks in each state, and when it is refused.
use Rattle.std.specs.Prelude.{ℕ, ◌+◌, Bool, true, false, List, [], ltb, length, take, if◌then◌else◌, Err, Ok}
use Rattle.command.specs.Verdict.{Verdict}
use Rattle.basics.specs.Lay.{laid_in}
use Rattle.command.specs.declared.refusal.Refusal.TheVariants as R
use Rattle.text.specs.Text.{read_of}
use Rattle.text.specs.Loops.{loops_in}
use Rattle.buffer.specs.declared.course.State.{State}
use Rattle.buffer.specs.declared.course.Column.{Column}
use Rattle.buffer.specs.declared.course.Column.TheVariants as K
use Rattle.buffer.specs.declared.order.Action.{Action}
use Rattle.buffer.specs.declared.order.Action.TheVariants as A
use Rattle.buffer.specs.declared.order.Loading.{Loading}
use Rattle.buffer.specs.declared.order.Loading.TheVariants.{Joined, Replacing}
use Rattle.buffer.specs.declared.order.Change.TheVariants.{Begin, Resume, EndDelay, Repeat, Erase, Halt, Reset}
use Rattle.buffer.specs.declared.order.Order.{Order}
use Rattle.buffer.specs.declared.order.Order.TheVariants.{Refuse, Load, Change}
use Rattle.buffer.specs.Course.{column_of}

-- the table of docs/BUFFER.md: an action in a column
unfoldable pub cell_of : Action → Column → Order
-- "String without R: Stored, replacing any text. In Running: 15." 02, W-201: "from now on joined after Stored text; in Empty, Done and Stopped it replaces"
cell_of A.Store K.Empty = Load Replacing false
cell_of A.Store K.Stored = Load Joined false
cell_of A.Store K.Busy = Refuse R.Busy
cell_of A.Store K.Delaying = Refuse R.Busy
cell_of A.Store K.Stopped = Load Replacing false
cell_of A.Store K.Done = Load Replacing false
-- "String with R: joined after Stored text and run; in Empty, Done or Stopped it replaces and runs; while delaying it replaces and runs; otherwise busy, 15."
cell_of A.Launch K.Empty = Load Replacing true
cell_of A.Launch K.Stored = Load Joined true
cell_of A.Launch K.Busy = Refuse R.Busy
cell_of A.Launch K.Delaying = Load Replacing true
cell_of A.Launch K.Stopped = Load Replacing true
cell_of A.Launch K.Done = Load Replacing true
-- "R: runs Stored, resumes Stopped, ends a delay (Done at once if that was the last command); in Empty or Done 14; otherwise 15."
cell_of A.Run K.Empty = Refuse R.NothingToRun
cell_of A.Run K.Stored = Change Begin
cell_of A.Run K.Busy = Refuse R.Busy
cell_of A.Run K.Delaying = Change EndDelay
cell_of A.Run K.Stopped = Change Resume
cell_of A.Run K.Done = Refuse R.NothingToRun
-- "X: from Done, runs the text again; while delaying or in another ready state 14; otherwise 15."
cell_of A.Again K.Empty = Refuse R.NothingToRun
cell_of A.Again K.Stored = Refuse R.NothingToRun
cell_of A.Again K.Busy = Refuse R.Busy
cell_of A.Again K.Delaying = Refuse R.NothingToRun
cell_of A.Again K.Stopped = Refuse R.NothingToRun
cell_of A.Again K.Done = Change Repeat
-- "C: Empty; in Running 15."
cell_of A.Clear K.Empty = Change Erase
cell_of A.Clear K.Stored = Change Erase
cell_of A.Clear K.Busy = Refuse R.Busy
cell_of A.Clear K.Delaying = Refuse R.Busy
cell_of A.Clear K.Stopped = Change Erase
cell_of A.Clear K.Done = Change Erase
-- "T in Running: .. Otherwise no effect." "!R in any state"
cell_of A.Stop k = Change Halt
cell_of A.Reset k = Change Reset

abbrev pub order_of : Action → State → Order
order_of a s = cell_of a (column_of s)

-- how much of the stored text stays in front of what is loaded
abbrev pub kept_of : Loading → ℕ → ℕ
kept_of Joined len = len
kept_of Replacing len = 0

-- how long the text gets that an order loads, of the lengths of the stored text and of what is added; 0 where it loads none
abbrev pub length_by : Order → ℕ → ℕ → ℕ
length_by (Load loading run) len n = kept_of loading len + n
length_by (Change change) len n = 0
length_by (Refuse why) len n = 0

-- whether the loops are right of the text that an order runs for the first time; so where it runs none
unfoldable pub loops_by : Order → List ℕ → List ℕ → Bool
loops_by (Load loading run) stored added = if run then loops_in (read_of (take (kept_of loading (length stored)) stored)) (read_of added) else true
loops_by (Change Begin) stored added = loops_in (read_of stored) (read_of [])
loops_by (Change Resume) stored added = true
loops_by (Change EndDelay) stored added = true
loops_by (Change Repeat) stored added = true
loops_by (Change Erase) stored added = true
loops_by (Change Halt) stored added = true
loops_by (Change Reset) stored added = true
loops_by (Refuse why) stored added = true

-- 01's order for a frame: the state, then text length, then loops
unfoldable pub sized : ℕ → Bool → Verdict
sized n loops = if ltb 256 n then Err R.TooLong else if loops then Ok tt else Err R.Loops

unfoldable pub verdict_of : Order → List ℕ → List ℕ → Verdict
verdict_of (Refuse why) stored added = Err why
verdict_of (Load loading run) stored added = sized (length_by (Load loading run) (length stored) (length added)) (loops_by (Load loading run) stored added)
verdict_of (Change change) stored added = if loops_by (Change change) stored added then Ok tt else Err R.Loops

-- where the characters go that an order loads
unfoldable pub laid_by : Order → ℕ → List ℕ → List ℕ → List ℕ
laid_by (Load loading run) len added text = laid_in added (kept_of loading len) text
laid_by (Change change) len added text = text
laid_by (Refuse why) len added text = text

-- the text's array after an order that was accepted or refused
unfoldable pub stored_by : Order → Verdict → ℕ → List ℕ → List ℕ → List ℕ
stored_by order (Ok tt) len added text = laid_by order len added text
stored_by order (Err why) len added text = text
