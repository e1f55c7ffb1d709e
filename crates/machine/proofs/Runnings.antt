-- Runs that loop and runs that fail, computed from the definitions: what `specs/OnCourse` speaks of is met.
use mathlib.Core.Path.{◌≡◌, refl}
use mathlib.Core.List.{List, [], ◌∷◌}
use Prim.Native.Nat.{ℕ}
use Prim.Native.String.{String}
use native.Mathlib.Omega.{arith}
use lib.ListN.{replicate}
use Rattle.basics.specs.Bytes.{chars, digit, every, value_of}
use Rattle.basics.specs.Lay.{over, fits, laid_in}
use Rattle.settings.specs.Limits.{within}
use Rattle.settings.specs.Units.{rate_of, millionths_of, goal_of, gone_of}
use Rattle.operand.specs.Text.{run, rest}
use Rattle.operand.specs.Number.{digits, decimals_of, followed_of, number_of, behind_comma, pair_of}
use Rattle.command.specs.Table.{letter_of, allowed, taken_of, whole_of, nanolitres_of, made, both, in_unit, volume_of, compensation_of, command_of}
use Rattle.command.specs.Command.{placed, found_in, command_at}
use Rattle.text.specs.Text.{Step, Reading, reads, wrong, read_from, read_of}
use Rattle.text.specs.Loops.{level_of, levels, loops_ok}
use Rattle.motion.specs.declared.Activity.TheVariants.{Between}
use Rattle.motion.specs.Bodies.{plunger_of, nothing_sensed}
use Rattle.motion.specs.Motion as Motion
use Rattle.buffer.specs.declared.course.State.{State}
use Rattle.buffer.specs.declared.course.State.TheVariants.{Empty, Running, Done}
use Rattle.buffer.specs.declared.order.Action.TheVariants.{Launch}
use Rattle.buffer.specs.Course.{pass_of, reached, opened_of, closed_by, closed_of}
use Rattle.machine.specs.Step as Step
use Rattle.buffer.specs.Order.{cell_of, loops_by, sized, verdict_of, laid_by, stored_by}
use Rattle.machine.specs.Act.{changed_of, done_of, acted_of, act_of}
use Rattle.machine.specs.Device.{fresh_of, tick_of}
use Rattle.machine.specs.History.{Call, call_of, after_of, after}
use Rattle.machine.specs.History.Call.{tick, act}
use Rattle.machine.specs.OnCourse.{OnCourse, Loaded}
use Rattle.machine.proofs.OnCourse.{every_device_is_on_course}

-- a text is run for so many ticks
abbrev runs : String → ℕ → List Call
runs text n = act Launch (chars text) ∷ replicate n (tick nothing_sensed)

pub record Shown : Type 0 where
  pub state : State
  pub at : ℕ
  pub depth : ℕ
  pub error : ℕ

abbrev shown : List Call → Shown
shown calls = let c = (after calls).core.course in record { state = c.state; at = c.at; depth = c.loops.depth; error = c.error }

abbrev shows : State → ℕ → ℕ → ℕ → Shown
shows state at depth error = record { state = state; at = at; depth = depth; error = error }

-- two loops open; back behind the inner g; out of both; a G without an open g is refused at once; 7 and 3
pub runs_loop_and_fail :
    shown (runs "gWgWG2G3" 3)
    ∷ shown (runs "gWgWG2G3" 5)
    ∷ shown (runs "gWgWG2G3" 22)
    ∷ shown (runs "WWG0" 3)
    ∷ shown (runs "P1" 1)
    ∷ shown (runs "WD1" 2)
    ∷ []
    ≡ shows (Running Between) 3 2 0
    ∷ shows (Running Between) 3 2 0
    ∷ shows Done 8 0 0
    ∷ shows Empty 0 0 3
    ∷ shows Empty 0 0 7
    ∷ shows Empty 0 0 3
    ∷ []
unfolding digit every value_of over fits laid_in within rate_of millionths_of goal_of gone_of run rest digits decimals_of followed_of number_of behind_comma pair_of letter_of allowed taken_of whole_of nanolitres_of made both in_unit volume_of compensation_of command_of placed found_in command_at read_from read_of level_of levels loops_ok plunger_of Motion.home_of Motion.within Motion.target_of Motion.set_out Motion.aimed Motion.move_of Motion.effect_of Motion.carried Motion.onward_of Motion.fresh_body pass_of reached opened_of closed_by closed_of Step.applied_of Step.taken_of Step.carried_on Step.running_of Step.active_of Step.step_of cell_of loops_by sized verdict_of changed_of done_of laid_by stored_by acted_of act_of fresh_of tick_of call_of after_of after
runs_loop_and_fail = refl

-- the strings of such calls are texts that read, and so the device is on course
abbrev steps_of : Reading → List Step
steps_of (reads steps) = steps
steps_of (wrong r) = []

pub a_looping_text_is_loaded : Loaded (chars "gWgWG2G3")
unfolding digit every value_of within run rest digits decimals_of followed_of number_of behind_comma pair_of letter_of allowed taken_of whole_of made both in_unit command_of placed found_in read_from read_of
a_looping_text_is_loaded = record { steps = steps_of (read_of (chars "gWgWG2G3")); reading = refl; some = omega arith }

pub a_looping_device_is_on_course : OnCourse (after (runs "gWgWG2G3" 3))
a_looping_device_is_on_course = every_device_is_on_course (runs "gWgWG2G3" 3) (a_looping_text_is_loaded, (tt, (tt, (tt, tt))))
