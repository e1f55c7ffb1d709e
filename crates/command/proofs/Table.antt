-- Every limit of 01's command table with its neighbours, every default and every unit, read from text: one row to a line, and the checker computes them all.
use mathlib.Core.Path.{◌≡◌, refl}
use mathlib.Core.Bool.{true, false}
use mathlib.Core.List.{List, [], ◌∷◌}
use Prim.Native.Nat.{ℕ}
use Prim.Native.String.{String}
use lib.ListN.{length}
use Rattle.std.specs.Prelude.{Err, None, Ok, Some}
use Rattle.command.specs.Found.{Found}
use Rattle.basics.specs.Bytes.{chars, digit, every, value_of}
use Rattle.settings.specs.declared.Pace.TheVariants.{Top, Start, Cutoff}
use Rattle.settings.specs.declared.Aspect.TheVariants as Detail
use Rattle.settings.specs.declared.Aspect.TheVariants.{Threshold, Duration, Place, Most, Mode, Interval}
use Rattle.settings.specs.Limits.{within}
use Rattle.settings.specs.Units.{nearest, tenths_of}
use Rattle.operand.specs.Text.{run, rest}
use Rattle.operand.specs.Begins.{longest, few, follows, begins, read_in}
use Rattle.operand.specs.Number.{digits, decimals_of, followed_of, number_of, right, well_formed, behind_comma, parted, begins_two, read_in_two, pair_of}
use Rattle.command.specs.declared.Way.{Way}
use Rattle.command.specs.declared.Way.TheVariants.{To, Up, Down}
use Rattle.command.specs.declared.Command.{Command}
use Rattle.command.specs.declared.Command.TheVariants.{Initialise, Speed, Slopes, Backlash, Compensate, Delay, Set, Detect, Eject, Open, Close}
use Rattle.settings.specs.declared.Volume.TheVariants as V
use Rattle.command.specs.Table.{move_by, letter_of, allowed, taken_of, whole_of, nanolitres_of, speed_of, in_tenths, flow_of, made, both, in_unit, volume_of, paced_of, slopes_of, compensation_of, row_at, row_of, detail_of, set_by, aspect_of, command_of}
use Rattle.command.specs.declared.refusal.Misread.TheVariants as M
use Rattle.command.specs.declared.refusal.Refusal.TheVariants as R
use Rattle.command.specs.Numbers.{refusal_number}
use Rattle.command.specs.Command.{placed, found_in, command_at}

-- a text is wholly a command, or is refused with 01's number
infix 68 ◌reads◌ ◌refused◌
pub data Row : Type 0 where
  ◌reads◌ : String → Command → Row
  ◌refused◌ : String → ℕ → Row

infix 70 ◌increments◌ ◌nL◌
abbrev ◌increments◌ : ℕ → Way → Command
n increments way = move_by way V.Increments n

abbrev ◌nL◌ : ℕ → Way → Command
n nL way = move_by way V.Nanolitres n

-- what the definitions say of a text: a command and the place behind it, a number of 01, or nothing
pub data Answer : Type 0 where
  command : Command → ℕ → Answer
  refusal : ℕ → Answer
  nothing : Answer

abbrev pub answer : Found → Answer
answer (Ok (Some (k, next))) = command k next
answer (Err m) = refusal (refusal_number (R.Misread m))
answer (Ok None) = nothing

abbrev pub answers_of : List Row → List Answer
answers_of [] = []
answers_of (text reads k ∷ rows) = answer (command_at (chars text) 0) ∷ answers_of rows
answers_of (text refused n ∷ rows) = answer (command_at (chars text) 0) ∷ answers_of rows

-- and what the rows say
abbrev pub expected_of : List Row → List Answer
expected_of [] = []
expected_of (text reads k ∷ rows) = command k (length (chars text)) ∷ expected_of rows
expected_of (text refused n ∷ rows) = refusal n ∷ expected_of rows

abbrev pub table : List Row
table =
    "W99" refused 3 ∷  -- W
    "W100" reads Initialise 100 ∷
    "W101" reads Initialise 101 ∷
    "W19999" reads Initialise 19999 ∷
    "W20000" reads Initialise 20000 ∷
    "W20001" refused 3 ∷
    "W" reads Initialise 6000 ∷
    "W," refused 3 ∷
    "W20000.0" refused 3 ∷
    "A0" reads 0 increments To ∷  -- A
    "A1" reads 1 increments To ∷
    "A43999" reads 43999 increments To ∷
    "A44000" reads 44000 increments To ∷
    "A44001" refused 3 ∷
    "A0.000,1" reads 0 nL To ∷
    "A0.001,1" reads 1 nL To ∷
    "A1099.999,1" reads 1099999 nL To ∷
    "A1100,1" reads 1100000 nL To ∷
    "A1100.001,1" refused 3 ∷
    "A" reads 0 increments To ∷
    "A,1" reads 0 nL To ∷
    "P44000" reads 44000 increments Up ∷  -- P
    "P44001" refused 3 ∷
    "P1100,1" reads 1100000 nL Up ∷
    "P1100.001,1" refused 3 ∷
    "P" reads 0 increments Up ∷
    "P,1" reads 0 nL Up ∷
    "D44000" reads 44000 increments Down ∷  -- D
    "D44001" refused 3 ∷
    "D1100,1" reads 1100000 nL Down ∷
    "D1100.001,1" refused 3 ∷
    "D" reads 0 increments Down ∷
    "D,1" reads 0 nL Down ∷
    "A," reads 0 increments To ∷  -- an empty part beside a comma is absent
    "A5," reads 5 increments To ∷
    "A5,0" reads 5 increments To ∷
    "A5,01" reads 5000 nL To ∷
    "A5,2" refused 3 ∷  -- the unit is 0 or 1, without a point
    "A5,1.0" refused 3 ∷
    "A100.0" refused 3 ∷
    "A44000,1" refused 3 ∷
    "A043999" reads 43999 increments To ∷  -- six digits, leading zeros counted
    "A0043999" refused 3 ∷
    "A." refused 3 ∷  -- no number
    "A.5,1" refused 3 ∷
    "A5.,1" refused 3 ∷
    "A0.0001,1" refused 3 ∷
    "A1,,1" refused 3 ∷
    "A1,1," refused 3 ∷
    "V99.9" refused 3 ∷  -- V, tenths
    "V100.0" reads Speed Top 1000 ∷
    "V100.1" reads Speed Top 1001 ∷
    "V79999.9" reads Speed Top 799999 ∷
    "V80000" reads Speed Top 800000 ∷
    "V80000.1" refused 3 ∷
    "V2.5,1" reads Speed Top 1000 ∷  -- V, nL/s
    "V2.499,1" refused 3 ∷
    "V2.503,1" reads Speed Top 1001 ∷
    "V1999.999,1" reads Speed Top 800000 ∷
    "V2000,1" reads Speed Top 800000 ∷
    "V2000.001,1" refused 3 ∷
    "V" reads Speed Top 80000 ∷
    "V,1" reads Speed Top 80000 ∷
    "c99.9" refused 3 ∷  -- c, tenths
    "c80000" reads Speed Cutoff 800000 ∷
    "c80000.1" refused 3 ∷
    "c2.5,1" reads Speed Cutoff 1000 ∷  -- c, nL/s
    "c2000,1" reads Speed Cutoff 800000 ∷
    "c2000.001,1" refused 3 ∷
    "c" reads Speed Cutoff 80000 ∷
    "c,1" reads Speed Cutoff 80000 ∷
    "v99.9" refused 3 ∷  -- v, tenths
    "v100.0" reads Speed Start 1000 ∷
    "v100.1" reads Speed Start 1001 ∷
    "v11999.9" reads Speed Start 119999 ∷
    "v12000" reads Speed Start 120000 ∷
    "v12000.1" refused 3 ∷
    "v2.5,1" reads Speed Start 1000 ∷  -- v, nL/s
    "v2.499,1" refused 3 ∷
    "v2.503,1" reads Speed Start 1001 ∷
    "v299.999,1" reads Speed Start 120000 ∷
    "v300,1" reads Speed Start 120000 ∷
    "v300.001,1" refused 3 ∷
    "v" reads Speed Start 10000 ∷
    "v,1" reads Speed Start 10000 ∷
    "V,2" refused 3 ∷
    "V100.00" refused 3 ∷
    "L0" refused 3 ∷  -- L
    "L1" reads Slopes 1 20 ∷
    "L2" reads Slopes 2 20 ∷
    "L79" reads Slopes 79 20 ∷
    "L80" reads Slopes 80 20 ∷
    "L81" refused 3 ∷
    "L,0" refused 3 ∷
    "L,1" reads Slopes 20 1 ∷
    "L,80" reads Slopes 20 80 ∷
    "L,81" refused 3 ∷
    "L" reads Slopes 20 20 ∷
    "L5,7" reads Slopes 5 7 ∷
    "L5.0" refused 3 ∷
    "K0" reads Backlash 0 ∷  -- K
    "K1" reads Backlash 1 ∷
    "K499" reads Backlash 499 ∷
    "K500" reads Backlash 500 ∷
    "K501" refused 3 ∷
    "K" reads Backlash 0 ∷
    "K," refused 3 ∷
    "K500.0" refused 3 ∷
    "b0" reads Compensate 0 false ∷  -- b
    "b1" reads Compensate 1 false ∷
    "b349" reads Compensate 349 false ∷
    "b350" reads Compensate 350 false ∷
    "b351" refused 3 ∷
    "b350,1" reads Compensate 350 true ∷
    "b1,2" refused 3 ∷
    "b" reads Compensate 0 false ∷
    "b,1" reads Compensate 0 true ∷
    "M0" refused 3 ∷  -- M
    "M1" reads Delay 1 ∷
    "M2" reads Delay 2 ∷
    "M29999" reads Delay 29999 ∷
    "M30000" reads Delay 30000 ∷
    "M30001" refused 3 ∷
    "M" reads Delay 10 ∷
    "M," refused 3 ∷
    "M30000.0" refused 3 ∷
    "p0,0" refused 3 ∷  -- p
    "p0,1" reads Set Threshold 1 ∷
    "p0,1000" reads Set Threshold 1000 ∷
    "p0,1001" refused 3 ∷
    "p0" reads Set Threshold 15 ∷
    "p1,0" refused 3 ∷
    "p1,1" reads Set Duration 1 ∷
    "p1,100" reads Set Duration 100 ∷
    "p1,101" refused 3 ∷
    "p1," reads Set Duration 5 ∷
    "p2,0" reads Set Place 0 ∷
    "p2,44000" reads Set Place 44000 ∷
    "p2,44001" refused 3 ∷
    "p2" reads Set Place 0 ∷
    "p3,99" refused 3 ∷
    "p3,100" reads Set Detail.Speed 100 ∷
    "p3,1000" reads Set Detail.Speed 1000 ∷
    "p3,1001" refused 3 ∷
    "p3,150.0" refused 3 ∷
    "p3" reads Set Detail.Speed 150 ∷
    "p4,499" refused 3 ∷
    "p4,500" reads Set Most 500 ∷
    "p4,44000" reads Set Most 44000 ∷
    "p4,44001" refused 3 ∷
    "p4" reads Set Most 44000 ∷
    "p5,0" reads Set Mode 0 ∷
    "p5,1" reads Set Mode 1 ∷
    "p5,2" refused 3 ∷
    "p5" reads Set Mode 0 ∷
    "p6,0" refused 3 ∷
    "p6,1" reads Set Interval 1 ∷
    "p6,20" reads Set Interval 20 ∷
    "p6,21" refused 3 ∷
    "p06" reads Set Interval 20 ∷
    "p7" refused 3 ∷
    "p7,1" refused 3 ∷
    "p" refused 3 ∷  -- the first number is never absent, and has no point
    "p," refused 3 ∷
    "p,5" refused 3 ∷
    "p0.0,5" refused 3 ∷
    "p0,5,5" refused 3 ∷
    "B0" reads Detect false ∷  -- B
    "B1" reads Detect true ∷
    "B2" refused 3 ∷
    "B" reads Detect false ∷
    "B," refused 3 ∷
    "B1.0" refused 3 ∷
    "E0" reads Eject false ∷  -- E
    "E1" reads Eject true ∷
    "E2" refused 3 ∷
    "E" reads Eject false ∷
    "E01" reads Eject true ∷
    "E," refused 3 ∷
    "E1.0" refused 3 ∷
    "G0" reads Close 0 ∷  -- G
    "G1" reads Close 1 ∷
    "G49999" reads Close 49999 ∷
    "G50000" reads Close 50000 ∷
    "G50001" refused 3 ∷
    "G" reads Close 0 ∷
    "G," refused 3 ∷
    "G50000.0" refused 3 ∷
    "g" reads Open ∷  -- g takes nothing
    "g0" refused 3 ∷
    "g," refused 3 ∷
    "Z1" refused 2 ∷  -- letters outside the table, a digit, a point and a comma at the front
    "R" refused 2 ∷
    "Q" refused 2 ∷
    "-1" refused 2 ∷
    "5" refused 2 ∷
    "." refused 2 ∷
    ",1" refused 2 ∷
    []

-- W-202: how many characters of a refused operand text were read
infix 68 ◌read◌
pub data Part : Type 0 where
  ◌read◌ : String → ℕ → Part

abbrev pub found_of : List Part → List Found
found_of [] = []
found_of (text read n ∷ rows) = command_at (chars text) 0 ∷ found_of rows

abbrev pub refused_of : List Part → List Found
refused_of [] = []
refused_of (text read n ∷ rows) = Err (M.Operand 1 n) ∷ refused_of rows

abbrev pub parts : List Part
parts =
    "W.5" read 0 ∷  -- one number: no digit in front of the point
    "W." read 0 ∷
    "W5." read 2 ∷  -- none behind it
    "W12.345" read 6 ∷  -- well formed, and refused for its decimals
    "W12.3456" read 6 ∷
    "W1.2.3" read 3 ∷
    "W123456" read 6 ∷  -- well formed, and refused for its value
    "W1234567" read 6 ∷
    "W1234567.8" read 6 ∷
    "W123456.7890" read 10 ∷
    "W99" read 2 ∷
    "W," read 0 ∷  -- a comma where one number is taken
    "W5,1" read 1 ∷
    "W5.,1" read 2 ∷
    "A.5,1" read 0 ∷  -- two numbers: the first is wrong
    "A5." read 2 ∷
    "A5.,1" read 2 ∷
    "A0.0001,1" read 5 ∷
    "A0043999" read 6 ∷
    "A1234567,1" read 6 ∷
    "A5,." read 2 ∷  -- the second
    "A5,1." read 4 ∷
    "A,.1" read 1 ∷
    "A5,1234567" read 8 ∷
    "A1,,1" read 2 ∷  -- a second comma
    "A1,1," read 3 ∷
    "A,," read 1 ∷
    "A5,1.0" read 5 ∷  -- well formed: the unit, the value, the decimals
    "A5,2" read 3 ∷
    "A44001" read 5 ∷
    "A100.0" read 5 ∷
    "L,81" read 3 ∷
    "V,2" read 2 ∷
    "g5" read 0 ∷  -- g takes nothing
    "g," read 0 ∷
    []

-- every row is what the definitions say
pub the_table_holds : (answers_of table ≡ expected_of table) × (found_of parts ≡ refused_of parts)
unfolding within nearest tenths_of digit every value_of run rest longest few follows begins read_in digits decimals_of followed_of number_of right well_formed behind_comma parted begins_two read_in_two pair_of letter_of allowed taken_of whole_of nanolitres_of speed_of in_tenths flow_of made both in_unit volume_of paced_of slopes_of compensation_of row_at row_of detail_of set_by aspect_of command_of placed found_in command_at
the_table_holds = (refl, refl)
