-- 01, "Numbers that come back": the number of each refusal.
use Rattle.std.specs.Prelude.{ℕ, ◌+◌, ltb, if◌then◌else◌, Err, Ok}
use Rattle.command.specs.Verdict.{Verdict}
use Rattle.command.specs.declared.refusal.Misread.TheVariants.{Letter, Operand}
use Rattle.command.specs.declared.refusal.Refusal.{Refusal}
use Rattle.command.specs.declared.refusal.Refusal.TheVariants as R

abbrev pub refusal_number : Refusal → ℕ
-- "command letter not allowed here"
refusal_number (R.Misread (Letter place)) = 2
-- "operand, report number or loops wrong; or, during a run, a goal outside travel"
refusal_number (R.Misread (Operand place read)) = 3
refusal_number R.Report = 3
refusal_number R.Loops = 3
refusal_number R.StartAboveTop = 3  -- 02, W-205
refusal_number R.Outside = 3
-- 02, W-206: "3 for p5 of 1 with p2 of 0, 5 for a reading outside -32767 to 32767 .., 6 when p4 increments or the end of travel are reached in a tick without a find"
refusal_number R.NoWayDown = 3
refusal_number R.TooMuchPressure = 5
refusal_number R.NoLiquid = 6
-- "A, P or D taken while not initialised"; 02, W-203: "7 for E1 uninitialised"
refusal_number R.NotInitialised = 7
-- 02, W-203: "8 for a failed eject"; "10 for E0 without a tip"
refusal_number R.StillThere = 8
refusal_number R.NoTip = 10
-- "R or X with nothing to run"
refusal_number R.NothingToRun = 14
-- "data or text too long, or busy"
refusal_number R.TooLong = 15
refusal_number R.Busy = 15

-- "0: accepted"
abbrev pub verdict_number : Verdict → ℕ
verdict_number (Ok tt) = 0
verdict_number (Err why) = refusal_number why

-- 02, W-202: "the column of the last load refusal by 2 or 3, spaces dropped, counted from 1: the unallowed letter .., or where the wrong operand text begins"; data have 320 characters at most
abbrev pub column_at : ℕ → ℕ
column_at place = if ltb 320 place then 321 else place + 1

-- "It is 0 after any other frame to us, a loop refusal or an error in a run"
abbrev pub refusal_column : Refusal → ℕ
refusal_column (R.Misread (Letter place)) = column_at place
refusal_column (R.Misread (Operand place read)) = column_at place
refusal_column R.Report = 0
refusal_column R.Loops = 0
refusal_column R.StartAboveTop = 0
refusal_column R.Outside = 0
refusal_column R.NoWayDown = 0
refusal_column R.TooMuchPressure = 0
refusal_column R.NoLiquid = 0
refusal_column R.NotInitialised = 0
refusal_column R.StillThere = 0
refusal_column R.NoTip = 0
refusal_column R.NothingToRun = 0
refusal_column R.TooLong = 0
refusal_column R.Busy = 0

-- of two, one after the other: the first refusal
abbrev pub first_of : Verdict → Verdict → Verdict
first_of (Ok tt) later = later
first_of (Err why) later = Err why
