-- Computed by the checker: 01's checked examples, those with ● and some more, the errors that a class makes, what no impostor plays, calls that move the plunger, and OEM frames. Every script is played from making, byte by byte and tick by tick.
use mathlib.Core.Path.{◌≡◌, refl}
use mathlib.Core.Bool.{true, false}
use mathlib.Core.List.{List, [], ◌∷◌, ◌++◌}
use borrow.Author.Tests.{leb-true}
use Rattle.basics.specs.Bytes as BasicsBytes
use Rattle.basics.specs.Lay as BasicsLay
use Rattle.decimal.specs.Digits as DecimalDigits
use Rattle.settings.specs.Limits as SettingsLimits
use Rattle.settings.specs.Units as SettingsUnits
use Rattle.operand.specs.Number as OperandNumber
use Rattle.operand.specs.Text as OperandText
use Rattle.command.specs.Command as Command
use Rattle.command.specs.Table as CommandTable
use Rattle.text.specs.Data as TextData
use Rattle.text.specs.Loops as TextLoops
use Rattle.text.specs.Text as Text
use Rattle.line.specs.Answer as LineAnswer
use Rattle.line.specs.Bytes as LineBytes
use Rattle.line.specs.Dt as LineDt
use Rattle.line.specs.Oem as LineOem
use Rattle.line.specs.Wire as LineWire
use lib.IntN.{pos, negsuc}
use Rattle.motion.specs.Bodies.{plunger_of, nothing_sensed}
use Rattle.motion.specs.Detect as Detect
use Rattle.level.specs.Level as Level
use Rattle.motion.specs.Motion as Motion
use Rattle.buffer.specs.Course as BufferCourse
use Rattle.buffer.specs.Order as BufferOrder
use Rattle.machine.specs.Act as MachineAct
use Rattle.machine.specs.Device as MachineDevice
use Rattle.machine.specs.Run as MachineRun
use Rattle.machine.specs.Step as MachineStep
use Rattle.pipettor.specs.Byte as PipettorByte
use Rattle.pipettor.specs.Controller as PipettorController
use Rattle.reports.specs.Reports as Reports
use Rattle.machine.specs.History as History
use Rattle.demands.specs.Calls as Calls
use Rattle.demands.specs.Calls.{Call, advance, after}
use Rattle.demands.specs.Demands.{Moves}
use Rattle.demands.specs.Oem.{OemExamples}
use Rattle.demands.specs.Script.{Line, ◌answers◌, ◌ticks◌exact◌, ◌run_uses◌, ◌ticks_with◌ask◌, ◌ticks_at◌reach◌exact◌, bench, definition, calls_of, seen, wrong_in, wrong_of}

abbrev pub examples : List (List Line)
examples =
    -- ● "`A1000R`, fresh: busy 40h; one tick on, 67h."
    ("A1000R" answers "@" ∷ 1 ticks 0 exact 0 ∷ "Q" answers "g" ∷ [])
    -- "● `A44000` accepted, ● `A44001` 3, ● `A1100,1` accepted, `A1100.001,1` 3, `A100.0` 3, ● `A-1` 2."
    ∷ ("A44000" answers "`" ∷ "A44001" answers "c" ∷ "A1100,1" answers "`" ∷ "A1100.001,1" answers "c" ∷ "A100.0" answers "c" ∷ "A-1" answers "b" ∷ [])
    -- ● "After W and b350, `A1090.458,1` gives goal 44000; ● `A1090.459,1` is 3 in the run."
    ∷ ("Wb350A1090.458,1R" answers "@" ∷ 3 ticks 0 exact 43999980300 ∷ "?0" answers "@44000" ∷ [])
    ∷ ("Wb350A1090.459,1R" answers "@" ∷ 3 ticks 0 exact 0 ∷ "Q" answers "c" ∷ [])
    -- ● "Five times `P0.01,1` after W: plunger 2."
    ∷ ("WP0.01,1P0.01,1P0.01,1P0.01,1P0.01,1R" answers "@" ∷ 1 ticks 0 exact 0 ∷ 1 ticks 0 exact 400000 ∷ 10 ticks 2 exact 2000000 ∷ "Q" answers "`" ∷ [])
    -- ● "V155.5: 1, 3, 4 increments after 1, 2, 3 ticks." 02, W-205: "01's V155.5 example then sets v100 first."
    ∷ ("Wv100V155.5A100R" answers "@" ∷ 4 ticks 0 exact 100000000 ∷ 1 ticks 1 exact 100000000 ∷ 1 ticks 3 exact 100000000 ∷ 1 ticks 4 exact 100000000 ∷ [])
    -- "● `V2.5,1` is 100.0; `V2.503,1` reports 100.1 and 2.503."
    ∷ ("V2.5,1R" answers "@" ∷ 1 ticks 0 exact 0 ∷ "?7" answers "`100.0" ∷ [])
    ∷ ("V2.503,1R" answers "@" ∷ 1 ticks 0 exact 0 ∷ "?7" answers "`100.1" ∷ "?19" answers "`2.503" ∷ [])
    -- "● M9 0, ● M14 10, ● M15 20": the tick that takes it, and 0, 1 or 2 more
    ∷ ("M9R" answers "@" ∷ 1 ticks 0 exact 0 ∷ "Q" answers "`" ∷ [])
    ∷ ("M14R" answers "@" ∷ 1 ticks 0 exact 0 ∷ "Q" answers "@" ∷ 1 ticks 0 exact 0 ∷ "Q" answers "`" ∷ [])
    ∷ ("M15R" answers "@" ∷ 2 ticks 0 exact 0 ∷ "Q" answers "@" ∷ 1 ticks 0 exact 0 ∷ "Q" answers "`" ∷ [])
    -- the whole case of the bench program
    ∷ ("WR" answers "@" ∷ 1 ticks 0 exact 0 ∷ "P0.01,1P0.01,1R" answers "@" ∷ 4 ticks 1 exact 800000 ∷ "?0" answers "`1" ∷ [])
    -- "Q the last error .. f the address": every report after every setting is changed; X; a cut W and then P; !R, and every setting again
    ∷ ("Wv300c400L5,6K7b350A1000R" answers "@" ∷ 25 ticks 1000 exact 1000000000 ∷ "?1" answers "`1000" ∷ "?3" answers "`24.783" ∷ "?4" answers "`7" ∷ "?6" answers "`300.0" ∷ "?7" answers "`8000.0" ∷ "?8" answers "`400.0" ∷ "?9" answers "`5" ∷ "?10" answers "`6" ∷ "?16" answers "`44000" ∷ "?17" answers "`1100" ∷ "?18" answers "`7.500" ∷ "?19" answers "`200.000" ∷ "?20" answers "`10.000" ∷ "?29" answers "`0" ∷ "?67" answers "`0" ∷ "?2" answers "c" ∷ "Q2" answers "`0" ∷ "Q3" answers "c" ∷ "Qx" answers "c" ∷ "?1.0" answers "c" ∷ "?1,0" answers "c" ∷ "?" answers "`1000" ∷ "Q1" answers "`@" ∷ "f" answers "`1" ∷ "f1" answers "c" ∷ "!X" answers "b" ∷ "X" answers "@" ∷ 3 ticks 880 exact 0 ∷ "?0" answers "@0" ∷ "?1" answers "@880" ∷ "?29" answers "@1" ∷ "?67" answers "@1" ∷ "T" answers "`" ∷ "?67" answers "`1" ∷ "P1R" answers "@" ∷ 1 ticks 880 exact 880000000 ∷ "Q1" answers "gG" ∷ "?67" answers "g0" ∷ "!R" answers "`" ∷ "?4" answers "`0" ∷ "?6" answers "`1000.0" ∷ "?8" answers "`8000.0" ∷ "?10" answers "`20" ∷ "A1R" answers "@" ∷ 1 ticks 880 exact 880000000 ∷ "Q" answers "g" ∷ [])
    -- 02, W-202, "Which column is wrong": a letter, an operand text, a control with more; a report, refused or not, leaves it; an accepted string, a loop refusal, !R and an error in a run make it 0
    ∷ ("TA1" answers "b" ∷ "Q2" answers "b1" ∷ "A5RA1" answers "b" ∷ "Q2" answers "b3" ∷ "Q3" answers "c" ∷ "Q2" answers "b3" ∷ " A 5 Z" answers "b" ∷ "Q2" answers "b3" ∷ "A5,1.0" answers "c" ∷ "Q2" answers "c2" ∷ "A5Wg5" answers "c" ∷ "Q2" answers "c5" ∷ "A5L" answers "`" ∷ "Q2" answers "`0" ∷ [])
    ∷ ("A44001Z" answers "c" ∷ "Q2" answers "c2" ∷ "G2R" answers "c" ∷ "Q2" answers "c0" ∷ "Z" answers "b" ∷ "!R" answers "`" ∷ "Q2" answers "`0" ∷ "A1R" answers "@" ∷ "Z" answers "B" ∷ "Q2" answers "B1" ∷ 1 ticks 0 exact 0 ∷ "Q2" answers "g0" ∷ [])
    -- 02, W-205, "Slow start above top speed": 3 in the run, and the text is gone; equal speeds move; 7 comes first, also for a move of no distance
    ∷ ("Wv200V199.9A0R" answers "@" ∷ 4 ticks 0 exact 0 ∷ "Q" answers "c" ∷ "?67" answers "c0" ∷ "Q2" answers "c0" ∷ "v199.9P5R" answers "@" ∷ 3 ticks 1 exact 5000000 ∷ "Q" answers "@" ∷ [])
    ∷ ("v200V199.9A0R" answers "@" ∷ 3 ticks 0 exact 0 ∷ "Q" answers "g" ∷ [])
    -- "X: from Done, runs the text again": the fraction of the first run is kept
    ∷ ("WR" answers "@" ∷ 1 ticks 0 exact 0 ∷ "P0.01,1R" answers "@" ∷ 1 ticks 0 exact 400000 ∷ "X" answers "@" ∷ 2 ticks 1 exact 800000 ∷ [])
    -- the goal in a delay is the plunger
    ∷ ("WA5M100R" answers "@" ∷ 4 ticks 5 exact 5000000 ∷ "?0" answers "@5" ∷ [])
    -- passes of loops one in another, and of a loop that is entered anew
    ∷ ("WggP1G2G3R" answers "@" ∷ 60 ticks 6 exact 6000000 ∷ [])
    -- a refusal's code stays over the ticks
    ∷ ("M100R" answers "@" ∷ "C" answers "O" ∷ 11 ticks 0 exact 0 ∷ "Q" answers "o" ∷ [])
    -- "or Empty if none is left": T in the last command
    ∷ ("WA500R" answers "@" ∷ 3 ticks 80 exact 500000000 ∷ "T" answers "`" ∷ "?67" answers "`0" ∷ "X" answers "n" ∷ [])
    -- strings without R, T, C and R
    ∷ ("A5" answers "`" ∷ "T" answers "`" ∷ "?67" answers "`1" ∷ "C" answers "`" ∷ "?67" answers "`0" ∷ "R" answers "n" ∷ "WA5" answers "`" ∷ "R" answers "@" ∷ 3 ticks 5 exact 5000000 ∷ [])
    -- each setting by its own command, here in the reverse order of the reports above; a second b replaces the first; a delay that ends leaves "initialised", and W that moves sets it
    ∷ ("b350K7L5,6c400v150V200R" answers "@" ∷ 6 ticks 0 exact 0 ∷ "?4" answers "`7" ∷ "?6" answers "`150.0" ∷ "?7" answers "`200.0" ∷ "?8" answers "`400.0" ∷ "?9" answers "`5" ∷ "?10" answers "`6" ∷ "WA1,1R" answers "@" ∷ 21 ticks 38 exact 40350000 ∷ 1 ticks 40 exact 40350000 ∷ "M14b100,1A1,1R" answers "@" ∷ 4 ticks 40 exact 39900000 ∷ "WA5R" answers "@" ∷ 3 ticks 0 exact 5000000 ∷ "Q" answers "@" ∷ [])
    -- 02, W-213: "3 in the loop check"; what was stored stays
    ∷ ("WA5" answers "`" ∷ "G3R" answers "c" ∷ "?67" answers "c1" ∷ "R" answers "@" ∷ 3 ticks 5 exact 5000000 ∷ [])
    -- 02, W-203, "Tips": E0 with a tip asks, and ends in the next tick without one; a tip still there is 8; without one E0 is 10
    ∷ ("ER" answers "@" ∷ 1 ticks_with true ask true ∷ "?31" answers "@1" ∷ "X" answers "O" ∷ 1 ticks_with false ask false ∷ "Q" answers "o" ∷ "?31" answers "o0" ∷ [])
    ∷ ("EM100R" answers "@" ∷ 1 ticks_with true ask true ∷ 1 ticks_with true ask false ∷ "Q" answers "h" ∷ "?67" answers "h0" ∷ "?31" answers "h1" ∷ [])
    ∷ ("E0R" answers "@" ∷ 1 ticks_with false ask false ∷ "Q" answers "j" ∷ "E,1R" answers "c" ∷ "E2" answers "c" ∷ [])
    -- E1 asks for no tip, but for W; "T between them leaves it unjudged"
    ∷ ("E1R" answers "@" ∷ 1 ticks_with true ask false ∷ "Q" answers "g" ∷ "WE1A5R" answers "@" ∷ 2 ticks_with true ask true ∷ "T" answers "`" ∷ "R" answers "@" ∷ 2 ticks_with true ask false ∷ "?1" answers "`5" ∷ "!R" answers "`" ∷ "?31" answers "`1" ∷ [])
    -- a run and many ticks say whether any of them asked
    ∷ ("WA100E1A0R" answers "@" ∷ 60 ticks_with false ask true ∷ "Q" answers "`" ∷ "X" answers "@" ∷ 2 ticks_with false ask false ∷ [])
    -- 02, W-206, "Liquid level detection": p0 to p6 are set, reported and reset
    ∷ ("p0,20p1,30p2,3000p3,200p4,1000p5,1p6,5R" answers "@" ∷ 7 ticks 0 exact 0 ∷ "?32" answers "`20" ∷ "?33" answers "`30" ∷ "?34" answers "`3000" ∷ "?35" answers "`200.0" ∷ "?36" answers "`1000" ∷ "?37" answers "`1" ∷ "?38" answers "`5" ∷ "!R" answers "`" ∷ "?32" answers "`15" ∷ "?33" answers "`5" ∷ "?34" answers "`0" ∷ "?35" answers "`150.0" ∷ "?36" answers "`44000" ∷ "?37" answers "`0" ∷ "?38" answers "`20" ∷ [])
    -- ten times the count at p1 is a find, just below it is none; the zero is the reading of the tick that takes B; B ends as any command ends
    ∷ ("Wp1,30B1P2R" answers "@" ∷ 3 ticks_at pos 5 reach 0 exact 0 ∷ 2 ticks_at pos 21 reach 3 exact 0 ∷ "Q" answers "@" ∷ 1 ticks_at pos 21 reach 4 exact 4000000 ∷ 2 ticks 6 exact 6000000 ∷ "Q" answers "`" ∷ [])
    -- "further than p0": 15 away is not; "any other sets the count to 0"
    ∷ ("Wp1,30B1R" answers "@" ∷ 3 ticks_at pos 5 reach 0 exact 0 ∷ 2 ticks_at pos 20 reach 3 exact 0 ∷ 2 ticks_at negsuc 10 reach 6 exact 0 ∷ 1 ticks_at pos 5 reach 7 exact 0 ∷ 2 ticks_at negsuc 10 reach 10 exact 0 ∷ "Q" answers "@" ∷ 1 ticks_at negsuc 10 reach 12 exact 12000000 ∷ "Q" answers "`" ∷ [])
    -- found and p4 in one tick is a find; without one it is 6
    ∷ ("Wp4,500p3,1000p1,10B1R" answers "@" ∷ 54 ticks_at pos 0 reach 490 exact 0 ∷ 1 ticks_at pos 16 reach 500 exact 500000000 ∷ "Q" answers "`" ∷ [])
    ∷ ("Wp4,500p3,1000p1,10B1R" answers "@" ∷ 54 ticks_at pos 0 reach 490 exact 0 ∷ 1 ticks_at pos 15 reach 500 exact 500000000 ∷ "Q" answers "f" ∷ "?67" answers "f0" ∷ [])
    -- no way to go: judged in the first tick, found or 6
    ∷ ("Wp5,1p2,1B1R" answers "@" ∷ 4 ticks_at pos 0 reach 0 exact 0 ∷ "Q" answers "@" ∷ 1 ticks_at pos 0 reach 0 exact 0 ∷ "Q" answers "f" ∷ "B1R" answers "@" ∷ 1 ticks_at pos 0 reach 0 exact 0 ∷ 1 ticks_at negsuc 15 reach 0 exact 0 ∷ "Q" answers "`" ∷ [])
    -- "or the end of travel": ten increments are left
    ∷ ("WV80000A43990B1R" answers "@" ∷ 59 ticks 43990 exact 43990000000 ∷ 6 ticks_at pos 0 reach 43999 exact 43990000000 ∷ "Q" answers "@" ∷ 1 ticks_at pos 0 reach 44000 exact 44000000000 ∷ "Q" answers "f" ∷ [])
    -- "or dispenses (1)"
    ∷ ("Wp5,1p2,100BR" answers "@" ∷ 6 ticks_at pos 0 reach 100 exact 100000000 ∷ 3 ticks_at pos 0 reach 96 exact 100000000 ∷ 1 ticks_at pos 16 reach 94 exact 94000000 ∷ "Q" answers "`" ∷ [])
    -- "in this order, 7 uninitialised, 3 for p5 of 1 with p2 of 0, 5 for a reading outside -32767 to 32767"
    ∷ ("p5,1BR" answers "@" ∷ 2 ticks_at pos 32768 reach 0 exact 0 ∷ "Q" answers "g" ∷ "Wp5,1B1R" answers "@" ∷ 3 ticks_at pos 32768 reach 0 exact 0 ∷ "Q" answers "c" ∷ "p5B1R" answers "@" ∷ 2 ticks_at pos 32768 reach 0 exact 0 ∷ "Q" answers "e" ∷ "B1R" answers "@" ∷ 1 ticks_at negsuc 32766 reach 0 exact 0 ∷ 1 ticks_at negsuc 32767 reach 1 exact 1000000 ∷ "Q" answers "e" ∷ [])
    -- "B0 first moves to p2 at V": the exact position is p2, and a 5 there starts it at the plunger
    ∷ ("Wp2,3000BR" answers "@" ∷ 3 ticks_at pos 32767 reach 0 exact 3000000000 ∷ "?0" answers "@3000" ∷ 1 ticks_at negsuc 32766 reach 80 exact 3000000000 ∷ 1 ticks_at negsuc 32767 reach 160 exact 160000000 ∷ "Q" answers "e" ∷ "?67" answers "e0" ∷ [])
    -- the search begins in the tick after the one in which the move arrives; ?0 is then the plunger; "T cuts a search like any movement"
    ∷ ("Wp2,100BP100R" answers "@" ∷ 5 ticks_at pos 0 reach 100 exact 100000000 ∷ "?0" answers "@100" ∷ 3 ticks_at pos 0 reach 104 exact 100000000 ∷ "?0" answers "@104" ∷ "P1R" answers "O" ∷ "T" answers "`" ∷ "?1" answers "`104" ∷ "R" answers "@" ∷ 3 ticks 204 exact 204000000 ∷ [])
    -- W-205 doesn't ask of B: with v above V it moves and searches, and the A behind it is refused
    ∷ ("Wv200V100p2,10BA0R" answers "@" ∷ 5 ticks_at pos 0 reach 0 exact 10000000 ∷ 10 ticks_at pos 0 reach 10 exact 10000000 ∷ 1 ticks_at pos 16 reach 11 exact 11000000 ∷ "Q" answers "@" ∷ 1 ticks 11 exact 11000000 ∷ "Q" answers "c" ∷ [])
    ∷ []

-- 01, "Errors a class makes, and so may a program"
abbrev pub mistakes : List (List Line)
mistakes =
    -- "Each volume rounded by itself: five times 10 nL gives 0."
    ("WgP0.01,1G5R" answers "@" ∷ 20 ticks 2 exact 2000000 ∷ [])
    -- "Defaults sent through the range check": 8000.0 increments a second is no flow of 2.500 to 2000.000
    ∷ ("V,1R" answers "@" ∷ 1 ticks 0 exact 0 ∷ "?7" answers "`8000.0" ∷ [])
    -- "A loop without movement run inside one tick."
    ∷ ("gG3R" answers "@" ∷ 3 ticks 0 exact 0 ∷ "Q" answers "@" ∷ 1 ticks 0 exact 0 ∷ "Q" answers "`" ∷ [])
    -- "T while delaying taken as a starting point, so the fraction is lost."
    ∷ ("WP0.01,1M1000R" answers "@" ∷ 3 ticks 0 exact 400000 ∷ "T" answers "`" ∷ "P0.01,1R" answers "@" ∷ 2 ticks 1 exact 800000 ∷ [])
    -- accepted taken for done: this method is accepted, and its run refused with 3 when the first move is done
    ∷ ("WA10D20R" answers "@" ∷ 3 ticks 10 exact 10000000 ∷ "Q" answers "@" ∷ 1 ticks 10 exact 10000000 ∷ "Q" answers "c" ∷ [])
    ∷ []

-- 01: "These must be shut out"
abbrev pub impostors : List (List Line)
impostors =
    -- "a controller refusing everything"
    ("A44000" answers "`" ∷ [])
    -- "one answering always 60h"
    ∷ ("A1000R" answers "@" ∷ [])
    -- "one whose ticks move nothing", "one that runs only a text's first command", "and a run reporting an invented tick count"
    ∷ ("WA5A10R" answers "@" ∷ 3 ticks 5 exact 5000000 ∷ 100 run_uses 2 ∷ 1 ticks 10 exact 10000000 ∷ 100 run_uses 0 ∷ [])
    ∷ []

-- W, b, A, P, D, T in a delay, a movement that is cut, and a reset
abbrev moved : List Call
moved =
    calls_of ("Wb350A10P0.5,1D0.2,1M1000R" answers "@") ++ advance 20 nothing_sensed ∷ calls_of ("T" answers "`") ++
    calls_of ("A44000R" answers "@") ++ advance 3 nothing_sensed ∷ calls_of ("T" answers "`") ++ calls_of ("!R" answers "`")

pub record Computed : Type 0 where
  pub the_examples_hold : wrong_of definition examples ≡ []
  pub no_mistake_is_made : wrong_of definition mistakes ≡ []
  pub what_no_impostor_plays : wrong_of definition impostors ≡ []
  pub the_plunger_moves : Moves
  pub OEM : OemExamples

-- opened: every definition on the way of a byte or a tick, so that rows can be added freely
pub computed : Computed
unfolding BasicsBytes.digit BasicsBytes.every BasicsBytes.value_of BasicsLay.over BasicsLay.fits BasicsLay.laid_in DecimalDigits.last_digits DecimalDigits.trim DecimalDigits.digits_of DecimalDigits.fixed_of SettingsLimits.within SettingsUnits.nearest SettingsUnits.tenths_of SettingsUnits.flow_of SettingsUnits.ticks_of SettingsUnits.rate_of SettingsUnits.millionths_of SettingsUnits.goal_of SettingsUnits.nanolitres_of SettingsUnits.gone_of OperandNumber.digits OperandNumber.decimals_of OperandNumber.followed_of OperandNumber.number_of OperandNumber.behind_comma OperandNumber.pair_of OperandText.run OperandText.rest Command.placed Command.found_in Command.command_at CommandTable.letter_of CommandTable.allowed CommandTable.taken_of CommandTable.whole_of CommandTable.nanolitres_of CommandTable.speed_of CommandTable.in_tenths CommandTable.flow_of CommandTable.made CommandTable.both CommandTable.in_unit CommandTable.volume_of CommandTable.paced_of CommandTable.slopes_of CommandTable.compensation_of CommandTable.row_at CommandTable.row_of CommandTable.detail_of CommandTable.set_by CommandTable.aspect_of CommandTable.command_of TextData.spaceless TextData.asked_of TextData.body TextData.runs TextData.string_of TextData.control_of TextData.data_of TextLoops.level_of TextLoops.levels TextLoops.loops_ok Text.read_from Text.read_of Text.check_of LineAnswer.status_of LineAnswer.report_of LineAnswer.start_of LineAnswer.tail_of LineAnswer.answer_of LineBytes.printable LineBytes.sum_from LineOem.sequenced LineOem.header_of LineOem.take_of LineOem.collect_of LineOem.judged_of LineOem.hear_of LineDt.end_of LineDt.take_of LineDt.hear_of LineWire.hear_of LineWire.keep_of plunger_of Level.pressure_of Level.apart Level.left_of Level.limit_of Level.gone_in Level.plunger_in Level.far Level.count_with Level.counted_as Level.finding_of Level.sought_of Detect.approach_of Detect.zeroed_of Detect.no_way_down Detect.detect_of Detect.approached_of Detect.found_as Detect.searched_of Motion.home_of Motion.within Motion.target_of Motion.set_out Motion.aimed Motion.move_of Motion.delay_of Motion.eject_of Motion.waited_of Motion.ejected_of Motion.effect_of Motion.carried Motion.onward_of Motion.cut_of Motion.reset_of Motion.fresh_body BufferOrder.cell_of BufferOrder.loops_by BufferOrder.sized BufferOrder.verdict_of BufferCourse.halted MachineAct.halt_of MachineAct.stop_of MachineAct.changed_of MachineAct.done_of BufferOrder.laid_by BufferOrder.stored_by MachineAct.acted_of MachineAct.act_of BufferCourse.pass_of BufferCourse.reached BufferCourse.opened_of BufferCourse.closed_by BufferCourse.closed_of MachineDevice.fresh_of MachineDevice.tick_of MachineDevice.advance_of MachineRun.ticks_of MachineStep.applied_of MachineStep.taken_of MachineStep.carried_on MachineStep.running_of MachineStep.active_of MachineStep.step_of MachineStep.next_of PipettorByte.fetched_of PipettorByte.squeezed_in PipettorByte.got_of PipettorByte.squeezed_of PipettorByte.task_of PipettorByte.performed_of PipettorByte.outcome_of PipettorByte.said_of PipettorByte.written_of PipettorByte.dealt_of PipettorByte.heard_of PipettorByte.byte_of PipettorController.made_of PipettorController.advanced_of Reports.goal_in Reports.setting_of Reports.aspect_in Reports.value_of Reports.query_of Reports.tell_of Calls.call_of Calls.answer_of Calls.after_of Calls.answers_of Calls.answers MachineDevice.ran_of MachineRun.used_of PipettorController.run_of seen wrong_in wrong_of Calls.ticks_events Calls.events_of Calls.after Calls.history History.call_of History.events_of
computed = record {
  the_examples_hold = refl;
  no_mistake_is_made = refl;
  what_no_impostor_plays = refl;
  the_plunger_moves = record { calls = moved; plunger = leb-true 1 (after bench moved).device.core.body.plunger refl; events = refl };
  OEM = record {
    busy_is_71h = refl;
    ready_is_51h = refl;
    data_are_summed = refl;
    a_sum_of_02h_is_a_sum = (refl, refl);
    sequence_37h = refl;
    sequence_38h_is_silent = refl;
    sequence_2Fh_is_silent = refl;
    another_address_is_silent = refl;
    a_slash_is_data = refl;
    a_CR_drops_the_frame = refl;
    the_next_frame_is_lost = refl;
    the_one_behind_it_is_read = refl;
    its_own_02h_begins_a_frame = refl;
  };
}
