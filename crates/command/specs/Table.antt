-- 01, "Reading the data": the command table. What a letter stands for, and what its operands make of it.
use Rattle.std.specs.Prelude.{ℕ, ◌-◌, ◌/◌, ◌^◌, List, [], ◌∷◌, leb, eqb, if◌then◌else◌, Err, None, Ok, Option, Result, Some}
use Rattle.command.specs.declared.Malformed.{Malformed}
use Rattle.command.specs.declared.Malformed.TheVariants.{NoLetter, WrongOperand}
use Rattle.settings.specs.declared.Range.{Range}
use Rattle.settings.specs.declared.Pace.{Pace}
use Rattle.settings.specs.declared.Pace.TheVariants.{Top, Start, Cutoff}
use Rattle.settings.specs.declared.Aspect.{Aspect}
use Rattle.settings.specs.declared.Aspect.TheVariants.{Threshold, Duration, Place, Speed, Most, Mode, Interval}
use Rattle.settings.specs.declared.Quantity.{Quantity}
use Rattle.settings.specs.declared.Quantity.TheVariants as Q
use Rattle.settings.specs.declared.Volume.{Volume}
use Rattle.settings.specs.declared.Volume.TheVariants as V
use Rattle.settings.specs.Limits.{within, range_of, usual_of, speeds_of, flows_of, usual_speed, aspects_of, usual_aspect}
use Rattle.settings.specs.Units.{tenths_of}
use Rattle.operand.specs.declared.Number.{Number}
use Rattle.operand.specs.declared.Number.TheVariants.{Absent, Is, Wrong}
use Rattle.operand.specs.declared.Single.{Single}
use Rattle.operand.specs.declared.Pair.{Pair}
use Rattle.operand.specs.Begins.{read_in}
use Rattle.operand.specs.Number.{single_of, read_in_two, pair_of}
use Rattle.command.specs.declared.Way.{Way}
use Rattle.command.specs.declared.Way.TheVariants.{To, Up, Down}
use Rattle.command.specs.declared.Letter.{Letter}
use Rattle.command.specs.declared.Letter.TheVariants as L
use Rattle.command.specs.declared.Command.{Command}
use Rattle.command.specs.declared.Command.TheVariants as C

abbrev pub move_by : Way → (ℕ → Volume) → ℕ → Command
move_by way unit n = C.Move way (unit n)

abbrev pub compensate_by : ℕ → ℕ → Command
compensate_by b way = C.Compensate b (eqb way 1)

-- 02, W-203: "E takes 0 or 1 (default 0)"
abbrev pub eject_by : ℕ → Command
eject_by n = C.Eject (eqb n 1)

-- 02, W-206, "B0 or B1": 0 where it is absent (004, 5.8)
abbrev pub detect_by : ℕ → Command
detect_by n = C.Detect (eqb n 1)

-- "Any character that belongs to no operand text counts as a letter here"; those outside the table are `Other`
unfoldable pub letter_of : ℕ → Letter
letter_of b =
    if eqb b 87 then L.Home  -- W
    else if eqb b 65 then L.Volume To  -- A
    else if eqb b 80 then L.Volume Up  -- P
    else if eqb b 68 then L.Volume Down  -- D
    else if eqb b 86 then L.Speed Top  -- V
    else if eqb b 118 then L.Speed Start  -- v
    else if eqb b 99 then L.Speed Cutoff  -- c
    else if eqb b 76 then L.Slopes  -- L
    else if eqb b 75 then L.Backlash  -- K
    else if eqb b 98 then L.Compensation  -- b
    else if eqb b 77 then L.Delay  -- M
    else if eqb b 112 then L.Aspect  -- p
    else if eqb b 66 then L.Detect  -- B
    else if eqb b 69 then L.Eject  -- E
    else if eqb b 103 then L.Open  -- g
    else if eqb b 71 then L.Close  -- G
    else L.Other

-- a number, if its range has it
abbrev pub ranged_of : Range → ℕ → Option ℕ
ranged_of range n = if within range n then Some n else None

-- a written number, in thousandths: at most k decimals, and in units of 1 / 10 ^ k within its range
unfoldable pub allowed : ℕ → Range → ℕ → ℕ → Option ℕ
allowed k range thousandths decimals = if leb decimals k then ranged_of range (thousandths / 10 ^ (3 - k)) else None

-- "An absent number takes its default without a range check. Anything else is 3"
unfoldable pub taken_of : ℕ → Range → ℕ → Number → Option ℕ
taken_of k range usual Absent = Some usual
taken_of k range usual (Is n decimals) = allowed k range n decimals
taken_of k range usual (Wrong read) = None

-- "all others no point at all"
unfoldable pub whole_of : Quantity → Number → Option ℕ
whole_of q n = taken_of 0 (range_of q) (usual_of q) n

-- "µL values may have three decimals, V, v and c in increments one"
unfoldable pub nanolitres_of : Number → Option ℕ
nanolitres_of n = taken_of 3 (range_of Q.Nanolitres) (usual_of Q.Nanolitres) n

unfoldable pub speed_of : Pace → Number → Option ℕ
speed_of pace n = taken_of 1 (speeds_of pace) (usual_speed pace) n

unfoldable pub in_tenths : Option ℕ → Option ℕ
in_tenths (Some n) = Some (tenths_of n)
in_tenths None = None

-- "An absent speed is the default in increments, whichever unit is given."
unfoldable pub flow_of : Pace → Number → Option ℕ
flow_of pace Absent = Some (usual_speed pace)
flow_of pace (Is n decimals) = in_tenths (allowed 3 (flows_of pace) n decimals)
flow_of pace (Wrong read) = None

-- a number that is there, or how far the wrong operand was read
abbrev pub required : ℕ → Option ℕ → Result ℕ Malformed
required read (Some n) = Ok n
required read None = Err (WrongOperand read)

-- a command of one number, and of two; a wrong operand says how far it was read
unfoldable pub made : ℕ → (ℕ → Command) → Option ℕ → Result Command Malformed
made read f (Some n) = Ok (f n)
made read f None = Err (WrongOperand read)

unfoldable pub both : ℕ → (ℕ → ℕ → Command) → Option ℕ → Option ℕ → Result Command Malformed
both read f (Some a) (Some b) = Ok (f a b)
both read f (Some a) None = Err (WrongOperand read)
both read f None b = Err (WrongOperand read)

abbrev pub one_of : (ℕ → Command) → Quantity → Single → Result Command Malformed
one_of f q n = made n.read f (whole_of q n.number)

-- the second number of A P D V v c: "0, or 1 for µL"
unfoldable pub in_unit : ℕ → Option ℕ → Result Command Malformed → Result Command Malformed → Result Command Malformed
in_unit read (Some unit) increments micro = if eqb unit 0 then increments else micro
in_unit read None increments micro = Err (WrongOperand read)

unfoldable pub volume_of : Way → Pair → Result Command Malformed
volume_of way p =
    in_unit p.read (whole_of Q.Choice p.second)
    (made p.read (move_by way V.Increments) (whole_of Q.Increments p.first))
    (made p.read (move_by way V.Nanolitres) (nanolitres_of p.first))

unfoldable pub paced_of : Pace → Pair → Result Command Malformed
paced_of pace p =
    in_unit p.read (whole_of Q.Choice p.second)
    (made p.read (C.Speed pace) (speed_of pace p.first))
    (made p.read (C.Speed pace) (flow_of pace p.first))

unfoldable pub slopes_of : Pair → Result Command Malformed
slopes_of p = both p.read C.Slopes (whole_of Q.Slope p.first) (whole_of Q.Slope p.second)

-- "0 up, 1 down"
unfoldable pub compensation_of : Pair → Result Command Malformed
compensation_of p = both p.read compensate_by (whole_of Q.Compensation p.first) (whole_of Q.Choice p.second)

-- 004, 5.8: the rows of p, by its first number
unfoldable pub row_at : ℕ → Option Aspect
row_at n =
    if eqb n 0 then Some Threshold
    else if eqb n 1 then Some Duration
    else if eqb n 2 then Some Place
    else if eqb n 3 then Some Speed
    else if eqb n 4 then Some Most
    else if eqb n 5 then Some Mode
    else if eqb n 6 then Some Interval
    else None

-- "3 for p without a first operand"
unfoldable pub row_of : Number → Option Aspect
row_of Absent = None
row_of (Is n decimals) = if eqb decimals 0 then row_at (n / 1000) else None
row_of (Wrong read) = None

-- its second number has the range and the default of its row
unfoldable pub detail_of : Aspect → Number → Option ℕ
detail_of a n = taken_of 0 (aspects_of a) (usual_aspect a) n

unfoldable pub set_by : Option Aspect → Pair → Result Command Malformed
set_by (Some a) p = made p.read (C.Set a) (detail_of a p.second)
set_by None p = Err (WrongOperand p.read)

unfoldable pub aspect_of : Pair → Result Command Malformed
aspect_of p = set_by (row_of p.first) p

-- what a letter and its operand text make: 01's table
unfoldable pub command_of : Letter → List ℕ → Result Command Malformed
command_of L.Home t = one_of C.Initialise Q.Home (single_of t)
command_of (L.Volume way) t = volume_of way (pair_of t)
command_of (L.Speed pace) t = paced_of pace (pair_of t)
command_of L.Slopes t = slopes_of (pair_of t)
command_of L.Backlash t = one_of C.Backlash Q.Backlash (single_of t)
command_of L.Compensation t = compensation_of (pair_of t)
command_of L.Delay t = one_of C.Delay Q.Delay (single_of t)
command_of L.Aspect t = aspect_of (pair_of t)
command_of L.Detect t = one_of detect_by Q.Choice (single_of t)
command_of L.Eject t = one_of eject_by Q.Choice (single_of t)
command_of L.Open [] = Ok C.Open
command_of L.Open (b ∷ t) = Err (WrongOperand 0)  -- "An operand on g is 3."
command_of L.Close t = one_of C.Close Q.Passes (single_of t)
command_of L.Other t = Err NoLetter

-- how many characters of an operand text are read: the longest beginning that a well-formed one of the letter's form has too
unfoldable pub read_by : Letter → List ℕ → ℕ
read_by L.Home t = read_in t
read_by (L.Volume way) t = read_in_two t
read_by (L.Speed pace) t = read_in_two t
read_by L.Slopes t = read_in_two t
read_by L.Backlash t = read_in t
read_by L.Compensation t = read_in_two t
read_by L.Delay t = read_in t
read_by L.Aspect t = read_in_two t
read_by L.Detect t = read_in t
read_by L.Eject t = read_in t
read_by L.Open t = 0
read_by L.Close t = read_in t
read_by L.Other t = 0
