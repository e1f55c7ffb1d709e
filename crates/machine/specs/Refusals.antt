-- 01, "The buffer": which cells of the table refuse with which number, told apart from what the others do.
use Rattle.std.specs.Prelude.{ℕ, ◌≤◌, ◌<◌, true, false, List, [], ◌++◌, length, take}
use Rattle.command.specs.Verdict.{Verdict}
use Rattle.command.specs.Numbers.{verdict_number}
use Rattle.text.specs.Text.{Reading, reads, wrong, read_of}
use Rattle.text.specs.Loops.{Accepted}
use Rattle.buffer.specs.declared.course.State.{State}
use Rattle.buffer.specs.declared.course.Column.{Column}
use Rattle.buffer.specs.declared.course.Column.TheVariants as K
use Rattle.buffer.specs.declared.order.Action.{Action}
use Rattle.buffer.specs.declared.order.Action.TheVariants as A
use Rattle.buffer.specs.Course.{column_of}
use Rattle.buffer.specs.declared.order.Change.TheVariants.{Begin, Resume, EndDelay, Repeat, Erase, Halt, Reset}
use Rattle.buffer.specs.declared.order.Order.{Order}
use Rattle.buffer.specs.declared.order.Order.TheVariants.{Refuse, Load, Change}
use Rattle.buffer.specs.Order.{order_of, kept_of, length_by, verdict_of}
use Rattle.machine.specs.declared.Device.{Device}

-- what stands in the text's array: the stored text
abbrev pub stored_in : Device → List ℕ
stored_in d = take d.core.course.len d.text

-- the number that a string or a control is answered with: 0, or why it is refused
abbrev pub verdict_for : Action → List ℕ → Device → Verdict
verdict_for a added d = verdict_of (order_of a d.core.course.state) (stored_in d) added

abbrev pub number_for : Action → List ℕ → Device → ℕ
number_for a added d = verdict_number (verdict_for a added d)

-- 14: "R: .. in Empty or Done 14"; "X: .. while delaying or in another ready state 14"
pub data NothingToRun : Action → Column → Type 0 where
  run_empty : NothingToRun A.Run K.Empty
  run_done : NothingToRun A.Run K.Done
  again_empty : NothingToRun A.Again K.Empty
  again_stored : NothingToRun A.Again K.Stored
  again_stopped : NothingToRun A.Again K.Stopped
  again_delaying : NothingToRun A.Again K.Delaying

-- 15: strings without R and C "in Running"; strings with R, R and X "otherwise": in Running, and not in a delay
pub data Busy : Action → Column → Type 0 where
  store : Busy A.Store K.Busy
  store_delaying : Busy A.Store K.Delaying
  clear : Busy A.Clear K.Busy
  clear_delaying : Busy A.Clear K.Delaying
  launch : Busy A.Launch K.Busy
  run : Busy A.Run K.Busy
  again : Busy A.Again K.Busy

-- 15: "busy", or a text of more than 256 characters
pub data TooMuch (a : Action) (s : State) (stored added : List ℕ) : Type 0 where
  busy : Busy a (column_of s) → TooMuch a s stored added
  long : 256 < length_by (order_of a s) (length stored) (length added) → TooMuch a s stored added

-- a tree of loops, of a text in two parts: what was stored and what is joined behind it
abbrev pub Tree : Reading → Reading → Type 0
Tree (reads a) (reads b) = Accepted (a ++ b)
Tree (reads a) (wrong r) = ⊥
Tree (wrong r) b = ⊥

-- the text that an order runs for the first time has no tree: a g left open, a G without an open g, or loops more than 4 deep
abbrev pub Treeless : Order → List ℕ → List ℕ → Type 0
Treeless (Load loading true) stored added = Tree (read_of (take (kept_of loading (length stored)) stored)) (read_of added) → ⊥
Treeless (Load loading false) stored added = ⊥
Treeless (Change Begin) stored added = Tree (read_of stored) (read_of []) → ⊥
Treeless (Change Resume) stored added = ⊥
Treeless (Change EndDelay) stored added = ⊥
Treeless (Change Repeat) stored added = ⊥
Treeless (Change Erase) stored added = ⊥
Treeless (Change Halt) stored added = ⊥
Treeless (Change Reset) stored added = ⊥
Treeless (Refuse why) stored added = ⊥

-- 3: the text fits, and its loops are wrong
pub record WrongLoops (a : Action) (s : State) (stored added : List ℕ) : Type 0 where
  pub fits : length_by (order_of a s) (length stored) (length added) ≤ 256
  pub wrong : Treeless (order_of a s) stored added
