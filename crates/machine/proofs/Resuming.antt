-- Theorems: T and then R goes on where the run was, and an endless loop is never over.
use mathlib.Core.Path.{◌≡◌, refl}
use mathlib.Core.Bool.{Bool, true, false}
use mathlib.Core.List.{List}
use Prim.Native.Nat.{ℕ, ◌<◌}
use borrow.Author.Tests.{lt-ltb, ne_eqb}
use Rattle.std.specs.Prelude.{if◌then◌else◌, Ok, Some}
use Rattle.motion.specs.declared.Body.{Body}
use Rattle.motion.specs.declared.Activity.{Activity}
use Rattle.motion.specs.declared.Activity.TheVariants.{Delaying, Between}
use Rattle.motion.specs.Events.{start, quiet, told}
use Rattle.motion.specs.Bodies.{body_for, at_plunger}
use Rattle.motion.specs.Motion.{in_motion, cut_of}
use Rattle.buffer.specs.declared.course.State.TheVariants.{Running, Stopped}
use Rattle.buffer.specs.declared.course.Course.{Course}
use Rattle.buffer.specs.declared.order.Action.TheVariants as A
use Rattle.buffer.specs.Course.{in_state, with_error, pass_of, reached, closed_by, closed_of, halted}
use Rattle.buffer.specs.Order.{cell_of, loops_by, verdict_of, laid_by, stored_by}
use Rattle.machine.specs.declared.step.Core.{Core}
use Rattle.machine.specs.declared.Device.{Device}
use Rattle.machine.specs.Step.{core}
use Rattle.machine.specs.Act.{halt_of, stop_of, changed_of, done_of, acted_of, acted, act_of}
use Rattle.machine.specs.Device.{device, halted_of}

-- T: the exact position "is the plunger's" after a cut movement; "T without movement doesn't touch it"
abbrev pub cut_body : Activity → Body → Body
cut_body a b = if in_motion a then body_for (at_plunger b) b else b

cut_body_lem : (a : Activity) (b : Body) → (cut_of a b).next ≡ cut_body a b
unfolding cut_of
cut_body_lem a b = go (in_motion a)
  where
    go : (x : Bool) → (if x then told (start (at_plunger b)) (body_for (at_plunger b) b) else quiet b).next ≡ (if x then body_for (at_plunger b) b else b)
    go true = refl
    go false = refl

-- T with a command left: "Stopped before the next command, loop counts kept"
pub a_stop_stands_before_the_next_command :
    (a : Activity) (c : Core) → c.course.state ≡ Running a → c.course.at < c.course.len →
    (stop_of c).next ≡ core (cut_body a c.body) (in_state Stopped c.course)
unfolding stop_of halt_of halted
a_stop_stands_before_the_next_command a c e h = rw (e, cut_body_lem a c.body, lt-ltb c.course.at c.course.len h)

-- R in Stopped: "resumes"
pub a_run_resumes :
    (added : List ℕ) (d : Device) → d.core.course.state ≡ Stopped →
    (act_of A.Run added d).next ≡ acted d.text d.tip (core d.core.body (with_error 0 0 (in_state (Running Between) d.core.course))) (Ok tt)
unfolding act_of acted_of cell_of verdict_of loops_by done_of changed_of stored_by laid_by
a_run_resumes added d e = rw e

-- R in a delay: "ends a delay (Done at once if that was the last command)": no command is taken before the next tick
pub a_run_in_a_delay_takes_no_command :
    (k : ℕ) (added : List ℕ) (d : Device) → d.core.course.state ≡ Running (Delaying k) →
    act_of A.Run added d ≡ quiet (acted d.text d.tip (core d.core.body (with_error 0 0 (reached d.core.course.at d.core.course.loops d.core.course))) (Ok tt))
unfolding act_of acted_of cell_of verdict_of loops_by done_of changed_of stored_by laid_by
a_run_in_a_delay_takes_no_command k added d e = rw e

-- T and then R: the same place, loops and settings, and the exact position the plunger's where a movement was cut
pub a_stopped_run_goes_on_where_it_was :
    (a : Activity) (added : List ℕ) (d : Device) → d.core.course.state ≡ Running a → d.core.course.at < d.core.course.len →
    (act_of A.Run added (halted_of d).next).next ≡ acted d.text d.tip (core (cut_body a d.core.body) (with_error 0 0 (in_state (Running Between) d.core.course))) (Ok tt)
unfolding halted_of
a_stopped_run_goes_on_where_it_was a added d e h =
    rw (a_stop_stands_before_the_next_command a d.core e h)
    (a_run_resumes added (device d.text d.tip (core (cut_body a d.core.body) (in_state Stopped d.core.course))) refl)

-- "0 is endless": its G always goes back, and its passes are not counted
pub an_endless_loop_goes_round_again : (p : ℕ) → pass_of 0 p ≡ Some p
unfolding pass_of
an_endless_loop_goes_round_again p = refl

pub an_endless_G_goes_back :
    (next : ℕ) (c : Course) → (c.loops.depth ≡ 0 → ⊥) →
    closed_of 0 next c ≡ Ok (reached c.loops.first.start c.loops c)
unfolding closed_of closed_by pass_of
an_endless_G_goes_back next c h = rw (ne_eqb c.loops.depth 0 h)
