-- Histories that move, computed from the definitions: the plunger leaves 0, and all that moves it stands in the history.
use mathlib.Core.Path.{◌≡◌, refl}
use mathlib.Core.Bool.{Bool, true, false}
use mathlib.Core.List.{List, [], ◌∷◌, ◌++◌}
use Prim.Native.Nat.{ℕ}
use Prim.Native.String.{String}
use lib.ListN.{replicate}
use Rattle.basics.specs.Bytes.{chars, digit, every, value_of}
use Rattle.basics.specs.Lay.{over, fits, laid_in}
use Rattle.settings.specs.declared.Volume.TheVariants as V
use Rattle.settings.specs.Limits.{within}
use Rattle.settings.specs.Units.{rate_of, millionths_of, goal_of, gone_of}
use Rattle.operand.specs.Text.{run, rest}
use Rattle.operand.specs.Number.{digits, decimals_of, followed_of, number_of, behind_comma, pair_of}
use Rattle.command.specs.Table.{letter_of, allowed, taken_of, whole_of, nanolitres_of, made, both, in_unit, volume_of, compensation_of, command_of}
use Rattle.command.specs.Command.{placed, found_in, command_at}
use Rattle.text.specs.Text.{read_from, read_of}
use Rattle.text.specs.Loops.{level_of, levels, loops_ok}
use Rattle.motion.specs.Events.{Event, start, volume}
use Rattle.motion.specs.Bodies.{plunger_of, nothing_sensed}
use Rattle.motion.specs.Motion as Motion
use Rattle.buffer.specs.declared.order.Action.TheVariants.{Launch}
use Rattle.buffer.specs.Course.{reached, halted}
use Rattle.machine.specs.Step as Step
use Rattle.buffer.specs.Order.{cell_of, loops_by, sized, verdict_of, laid_by, stored_by}
use Rattle.machine.specs.Act.{halt_of, stop_of, changed_of, done_of, acted_of, act_of}
use Rattle.machine.specs.Device.{fresh_of, tick_of, halted_of}
use Rattle.machine.specs.History.{Call, call_of, after_of, events_of, after, history}
use Rattle.machine.specs.History.Call.{tick, act, stop}

-- a text is run for so many ticks, and then some more calls
abbrev runs : String → ℕ → List Call → List Call
runs text n more = act Launch (chars text) ∷ (replicate n (tick nothing_sensed) ++ more)

pub record Shown : Type 0 where
  pub plunger : ℕ
  pub exact : ℕ
  pub events : List Event

abbrev shown : List Call → Shown
shown calls = record { plunger = (after calls).core.body.plunger; exact = (after calls).core.body.exact; events = history calls }

abbrev shows : ℕ → ℕ → List Event → Shown
shows plunger exact events = record { plunger = plunger; exact = exact; events = events }

abbrev nL : ℕ → ℕ → Bool → Event
nL n rate up = volume (V.Nanolitres n) rate up

pub histories_move :
    shown (runs "WA5" 3 [])
    ∷ shown (runs "WP0.01,1P0.01,1" 4 [])
    ∷ shown (runs "Wb350A1,1D0.5,1" 6 [])
    ∷ shown (runs "WA500" 3 (stop ∷ []))
    ∷ []
    ≡ shows 5 5000000 (start 0 ∷ start 0 ∷ start 5000000 ∷ [])
    ∷ shows 1 800000 (start 0 ∷ start 0 ∷ nL 10 40000 true ∷ nL 10 40000 true ∷ [])
    ∷ shows 20 20175000 (start 0 ∷ start 0 ∷ start 40350000 ∷ nL 500 40350 false ∷ [])
    ∷ shows 80 80000000 (start 0 ∷ start 0 ∷ start 500000000 ∷ start 80000000 ∷ [])
    ∷ []
unfolding digit every value_of over fits laid_in within rate_of millionths_of goal_of gone_of run rest digits decimals_of followed_of number_of behind_comma pair_of letter_of allowed taken_of whole_of nanolitres_of made both in_unit volume_of compensation_of command_of placed found_in command_at read_from read_of level_of levels loops_ok plunger_of Motion.home_of Motion.within Motion.target_of Motion.set_out Motion.aimed Motion.move_of Motion.effect_of Motion.carried Motion.onward_of Motion.cut_of Motion.fresh_body reached Step.applied_of Step.taken_of Step.carried_on Step.running_of Step.active_of Step.step_of cell_of loops_by sized verdict_of halted halt_of stop_of changed_of done_of laid_by stored_by acted_of act_of fresh_of tick_of halted_of call_of after_of events_of after history
histories_move = refl
