-- Theorems over whole frames: what each control does where it is accepted, what leaves the body alone, and f.
use mathlib.Core.Path.{◌≡◌, refl, ap, ◌∙◌}
use mathlib.Core.Bool.{true, false, false≢true}
use mathlib.Core.List.{List, [], ◌∷◌}
use Prim.Native.Nat.{ℕ, ◌*◌}
use Rattle.std.specs.Prelude.{Some}
use Rattle.basics.specs.Lay.{over}
use Rattle.settings.specs.Limits.{usual_settings}
use Rattle.text.specs.declared.Control.TheVariants.{Run, Stop, Again, Clear, Reset}
use Rattle.text.specs.declared.Data.{Data}
use Rattle.text.specs.declared.Data.TheVariants as D
use Rattle.text.specs.Data.{spaceless, control_of, data_of, received_of}
use Rattle.line.specs.declared.Report.TheVariants.{Character}
use Rattle.line.specs.declared.Framing.{Framing}
use Rattle.line.specs.Answer.{status_of, answer_of}
use Rattle.motion.specs.declared.Activity.TheVariants.{Between}
use Rattle.motion.specs.Events.{Turn}
use Rattle.motion.specs.Bodies.{at_plunger}
use Rattle.motion.specs.Motion.{reset_of, fresh_body}
use Rattle.buffer.specs.declared.course.State.{State}
use Rattle.buffer.specs.declared.course.State.TheVariants.{Empty, Stored, Running, Stopped, Done}
use Rattle.buffer.specs.declared.order.Action.{Action}
use Rattle.buffer.specs.Course.{course_of, no_loops}
use Rattle.buffer.specs.Order.{cell_of, loops_by, verdict_of}
use Rattle.machine.specs.declared.step.Core.{Core}
use Rattle.machine.specs.declared.Device.{Device}
use Rattle.machine.specs.Step.{core}
use Rattle.machine.specs.Run.{ready_in, ready_of}
use Rattle.machine.specs.Device.{fresh_of}
use Rattle.machine.specs.Act.{halt_of, stop_of, changed_of, done_of, core_error, acted_of, act_of}
use Rattle.machine.proofs.Bodies.{NoStop, strings_R_X_and_C_leave_the_body, strings_R_X_and_C_add_nothing_to_the_history}
use Rattle.pipettor.specs.declared.address.Address.{Address}
use Rattle.pipettor.specs.declared.acting.Task.TheVariants as T
use Rattle.pipettor.specs.Address.{letter_of}
use Rattle.pipettor.specs.Byte.{action_of, string_action, task_of, performed_of, outcome_of, written_of, Exchange, dealt_of}
use Rattle.reports.specs.Reports.{tell_of}
use Rattle.frames.specs.Frame.{added_of, exchange_of}

module _ (a : Address) (d : Device) (f : Framing) (buf : List ℕ) where
  -- the core that a frame with these data leaves
  abbrev left : List ℕ → Core
  left ds = (exchange_of f ds a d buf).next.device.core

  -- "X: from Done, runs the text again"
  pub X_in_Done_runs_the_text_again : d.core.course.state ≡ Done → left (88 ∷ []) ≡ core d.core.body (course_of 0 d.core.course.len no_loops (Running Between) 0 0)
  unfolding exchange_of dealt_of received_of spaceless data_of control_of task_of performed_of act_of cell_of loops_by verdict_of acted_of done_of changed_of
  X_in_Done_runs_the_text_again e = rw e

  -- "C: Empty; in Running 15."
  pub C_empties : ready_in d.core.course.state ≡ true → left (67 ∷ []) ≡ core d.core.body (course_of 0 0 no_loops Empty 0 0)
  unfolding exchange_of dealt_of received_of spaceless data_of control_of task_of performed_of act_of cell_of loops_by verdict_of acted_of done_of changed_of
  C_empties r = go d.core.course.state refl r
    where
      go : (s : State) → d.core.course.state ≡ s → ready_in s ≡ true → left (67 ∷ []) ≡ core d.core.body (course_of 0 0 no_loops Empty 0 0)
      go (Running k) e h = absurd (false≢true h)
      go Empty e h = rw e
      go Stored e h = rw e
      go Stopped e h = rw e
      go Done e h = rw e

  -- T, in any state: what the host's stop does, and no error
  pub T_stops : left (84 ∷ []) ≡ core_error 0 0 (stop_of d.core).next
  unfolding exchange_of dealt_of received_of spaceless data_of control_of task_of performed_of act_of cell_of loops_by verdict_of acted_of done_of changed_of
  T_stops = refl

  -- "Otherwise no effect."
  pub a_stop_has_no_effect_when_ready : ready_in d.core.course.state ≡ true → (stop_of d.core).next ≡ d.core
  unfolding stop_of halt_of
  a_stop_has_no_effect_when_ready r = go d.core.course.state refl r
    where
      go : (s : State) → d.core.course.state ≡ s → ready_in s ≡ true → (stop_of d.core).next ≡ d.core
      go (Running k) e h = absurd (false≢true h)
      go Empty e h = rw e
      go Stored e h = rw e
      go Stopped e h = rw e
      go Done e h = rw e

  -- "!R in any state: Empty, default settings, uninitialised, no error; the plunger stays."
  pub reset_in_any_state :
      left (33 ∷ 82 ∷ []) ≡
      core (record { plunger = d.core.body.plunger; exact = at_plunger d.core.body; initialised = false; settings = usual_settings }) (course_of 0 0 no_loops Empty 0 0)
  unfolding exchange_of dealt_of received_of spaceless data_of control_of task_of performed_of act_of cell_of loops_by verdict_of acted_of done_of changed_of reset_of
  reset_in_any_state = refl

  -- "Fresh: plunger and exact position 0, as after reset."
  pub fresh_is_as_after_a_reset_at_0 : d.core.body.plunger ≡ 0 → left (33 ∷ 82 ∷ []) ≡ fresh_of.next.core
  unfolding fresh_of fresh_body
  fresh_is_as_after_a_reset_at_0 e = reset_in_any_state ∙ ap (λ (p : ℕ). core (record { plunger = p; exact = p * 1000000; initialised = false; settings = usual_settings }) (course_of 0 0 no_loops Empty 0 0)) e

  -- every frame but T and !R leaves the plunger, the exact position, "initialised" and the settings alone, and the history: they change by ticks
  record Untouched (e : Turn Exchange) : Type 0 where
    body : e.next.device.core.body ≡ d.core.body
    events : e.events ≡ []

  acted_leaves : (x : Action) (added : List ℕ) → NoStop x → (y : Data) → task_of (Some y) ≡ T.Act x → Untouched (dealt_of f (Some y) added a d buf)
  unfolding dealt_of performed_of
  acted_leaves x added h y is =
      record { body = rw is (strings_R_X_and_C_leave_the_body x added d h); events = rw is (strings_R_X_and_C_add_nothing_to_the_history x added d h) }

  dealt_leaves : (x : Data) (added : List ℕ) → (x ≡ D.Control Stop → ⊥) → (x ≡ D.Control Reset → ⊥) → Untouched (dealt_of f (Some x) added a d buf)
  unfolding dealt_of task_of performed_of
  dealt_leaves (D.Report q) added p r = record { body = refl; events = refl }
  dealt_leaves D.WrongReport added p r = record { body = refl; events = refl }
  dealt_leaves (D.Control Run) added p r = acted_leaves (action_of Run) added tt _ refl
  dealt_leaves (D.Control Again) added p r = acted_leaves (action_of Again) added tt _ refl
  dealt_leaves (D.Control Clear) added p r = acted_leaves (action_of Clear) added tt _ refl
  dealt_leaves (D.Control Stop) added p r = absurd (p refl)
  dealt_leaves (D.Control Reset) added p r = absurd (r refl)
  dealt_leaves (D.Text n true) added p r = acted_leaves (string_action true) added tt _ refl
  dealt_leaves (D.Text n false) added p r = acted_leaves (string_action false) added tt _ refl
  dealt_leaves (D.Wrong m) added p r = record { body = refl; events = refl }
  dealt_leaves D.TooLong added p r = record { body = refl; events = refl }

  module _ (ds : List ℕ) (no_stop : received_of ds ≡ D.Control Stop → ⊥) (no-reset : received_of ds ≡ D.Control Reset → ⊥) where
    pub every_frame_but_T_and_reset_leaves_the_body : (left ds).body ≡ d.core.body
    unfolding exchange_of
    every_frame_but_T_and_reset_leaves_the_body = (dealt_leaves (received_of ds) (added_of ds) no_stop no-reset).body

    pub every_frame_but_T_and_reset_adds_nothing : (exchange_of f ds a d buf).events ≡ []
    unfolding exchange_of
    every_frame_but_T_and_reset_adds_nothing = (dealt_leaves (received_of ds) (added_of ds) no_stop no-reset).events

  -- "f the address", whatever it is
  pub f_says_the_address : (exchange_of f (102 ∷ []) a d buf).next.buffer ≡ over (answer_of f (status_of (ready_of d.core) d.core.course.error) (Character (letter_of a))) 0 buf
  unfolding exchange_of dealt_of received_of spaceless data_of task_of performed_of outcome_of written_of tell_of
  f_says_the_address = refl
