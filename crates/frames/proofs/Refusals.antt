-- Theorems over whole frames: each number exactly where 01's table gives it, what it leaves behind, and what is answered.
use mathlib.Core.Path.{◌≡◌, refl, sym}
use mathlib.Core.Logic.{◌⊎◌, inl, inr}
use mathlib.Core.Bool.{Bool, true, false, false≢true}
use mathlib.Core.List.{List}
use Prim.Native.Nat.{ℕ}
use native.Mathlib.Omega.{arith}
use lib.Dec.{eqb}
use lib.ListN.{length}
use Rattle.std.specs.Prelude.{if◌then◌else◌, None, Ok, Option, Some}
use Rattle.line.specs.declared.Report.{Report}
use Rattle.basics.specs.Lay.{over}
use Rattle.basics.specs.Exactly.{Exactly}
use Rattle.command.specs.declared.refusal.Misread.{Misread}
use Rattle.command.specs.declared.refusal.Misread.TheVariants.{Letter, Operand}
use Rattle.command.specs.Numbers.{refusal_number}
use Rattle.command.proofs.Numbers.{zero_is_fine, another_has_a_reason}
use Rattle.text.specs.declared.Data.{Data}
use Rattle.text.specs.declared.Data.TheVariants as D
use Rattle.text.specs.Data.{received_of}
use Rattle.line.specs.declared.Framing.{Framing}
use Rattle.line.specs.Answer as Line
use Rattle.line.specs.Answer.{status_of}
use Rattle.motion.specs.Events.{Turn}
use Rattle.buffer.specs.declared.course.Column.{Column}
use Rattle.buffer.specs.Course.{column_of}
use Rattle.machine.specs.declared.Device.{Device}
use Rattle.buffer.specs.declared.order.Action.{Action}
use Rattle.buffer.specs.declared.order.Action.TheVariants as A
use Rattle.machine.specs.Run.{ready_of}
use Rattle.buffer.specs.Order.{stored_by}
use Rattle.machine.specs.Act.{core_error, acted_of, act_of}
use Rattle.machine.specs.Refusals as Buffer
use Rattle.machine.specs.Refusals.{verdict_for, NothingToRun, run_empty, run_done, again_empty, again_stored, again_stopped, again_delaying}
use Rattle.machine.proofs.Refusals.{nothing_to_run_is_14, busy_or_too_long_is_15, wrong_loops_are_3, no_other_refusal}
use Rattle.pipettor.specs.declared.address.Address.{Address}
use Rattle.pipettor.specs.declared.acting.Task.TheVariants as T
use Rattle.pipettor.specs.Byte.{told_of, action_of, string_action, task_of, performed_of, outcome_of, told_code, said_of, written_of, Exchange, dealt_of}
use Rattle.frames.specs.Frame.{added_of, exchange_of}
use Rattle.frames.proofs.Strings as Strings
use Rattle.frames.proofs.Strings.{a_string_is_refused_exactly_at_its_first_wrong_place}
use Rattle.frames.specs.Refused.{told_number, told_report, number_for, refusal_of, is_report, refused_core, Replied, Refused, Unchanged, Known, WrongLetter, WrongNumber, operand, report, report_number, loops_of_control, loops_of_text, TooMuchNow, too_many_bytes, control, text, NothingNow, nothing}

-- an answered report carries the last error, and one that is refused 3
module _ (f : Framing) (error : ℕ) (ready : Bool) where
  abbrev told : Option Report → List ℕ
  told t = Line.answer_of f (status_of ready (if eqb (told_number t) 0 then error else told_number t)) (told_report t)

  told_said : (t : Option Report) → said_of f (told_code t error) ready ≡ Ok (Some (length (told t)))
  unfolding said_of
  told_said (Some r) = refl
  told_said None = refl

  told_written : (t : Option Report) (buf : List ℕ) → written_of f (told_code t error) ready buf ≡ over (told t) 0 buf
  unfolding written_of
  told_written (Some r) buf = refl
  told_written None buf = refl

-- the buffer never says 2, and 14 never of a string
never_2 : {G : Type 0} (added : List ℕ) (d : Device) (x : Action) → Buffer.number_for x added d ≡ 2 → G
never_2 {G} added d x e = go (rw e at (no_other_refusal x added d))
  where
    go : (◌≡◌ {A = ℕ} 2 0) ⊎ (◌≡◌ {A = ℕ} 2 3) ⊎ (◌≡◌ {A = ℕ} 2 14) ⊎ (◌≡◌ {A = ℕ} 2 15) → G
    go (inl h) = absurd (omega arith)
    go (inr (inl h)) = absurd (omega arith)
    go (inr (inr (inl h))) = absurd (omega arith)
    go (inr (inr (inr h))) = absurd (omega arith)

abbrev RunOrAgain : Action → Type 0
RunOrAgain A.Run = Unit {0}
RunOrAgain A.Again = Unit {0}
RunOrAgain A.Store = ⊥
RunOrAgain A.Launch = ⊥
RunOrAgain A.Stop = ⊥
RunOrAgain A.Clear = ⊥
RunOrAgain A.Reset = ⊥

run_or_again : (x : Action) (s : Column) → NothingToRun x s → RunOrAgain x
run_or_again x s run_empty = tt
run_or_again x s run_done = tt
run_or_again x s again_empty = tt
run_or_again x s again_stored = tt
run_or_again x s again_stopped = tt
run_or_again x s again_delaying = tt

no_string : (run : Bool) (s : Column) → NothingToRun (string_action run) s → ⊥
no_string true s h = run_or_again A.Launch s h
no_string false s h = run_or_again A.Store s h

-- a report answers 0 or 3
not_told : {G : Type 0} (n : ℕ) (t : Option Report) → told_number t ≡ n → (n ≡ 0 → ⊥) → (n ≡ 3 → ⊥) → G
not_told n (Some r) e p q = absurd (p (sym e))
not_told n None e p q = absurd (q (sym e))

refused_3 : (t : Option Report) → told_number t ≡ 3 → t ≡ None
refused_3 (Some r) e = absurd (omega arith)
refused_3 None e = refl

-- no other number than 01's
known_told : (t : Option Report) → Known (told_number t)
known_told (Some r) = inl refl
known_told None = inr (inr (inl refl))

known_buffer : (n : ℕ) → (n ≡ 0) ⊎ (n ≡ 3) ⊎ (n ≡ 14) ⊎ (n ≡ 15) → Known n
known_buffer n (inl h) = inl h
known_buffer n (inr h) = inr (inr h)

-- over any data, with the characters that come with them
module _ (added : List ℕ) (a : Address) (d : Device) where
  abbrev number : Data → ℕ
  number x = number_for x added a d

  module _ (f : Framing) (buf : List ℕ) where
    abbrev does : Data → Turn Exchange
    does x = dealt_of f (Some x) added a d buf

    replied : (x : Data) → Replied f x (number x) a d buf (does x)
    unfolding dealt_of number_for task_of performed_of act_of outcome_of said_of written_of
    replied (D.Report q) = record {
      said = told_said f d.core.course.error (ready_of d.core) (told_of q a d.tip d.core);
      buffer = told_written f d.core.course.error (ready_of d.core) (told_of q a d.tip d.core) buf;
    }
    replied D.WrongReport = record { said = refl; buffer = refl }
    replied (D.Control c) = record { said = refl; buffer = refl }
    replied (D.Text n run) = record { said = refl; buffer = refl }
    replied (D.Wrong r) = record { said = refl; buffer = refl }
    replied D.TooLong = record { said = refl; buffer = refl }

    -- what is left behind
    left_by_lem : (x : Action) (y : Data) → ((n : ℕ) → refused_core y n d.core ≡ core_error n 0 d.core) → task_of (Some y) ≡ T.Act x → (Buffer.number_for x added d ≡ 0 → ⊥) → Refused y (Buffer.number_for x added d) d (does y)
    unfolding dealt_of performed_of act_of acted_of stored_by
    left_by_lem x y no_report is h =
        let (why, e) = another_has_a_reason (verdict_for x added d) h in
        record { text = rw (is, e); tip = rw is; core = rw (is, e) (sym (no_report (refusal_number why))); events = rw (is, e) }

    left : (x : Data) → (number x ≡ 0 → ⊥) → Refused x (number x) d (does x)
    unfolding dealt_of number_for task_of performed_of
    left (D.Report q) h = record { text = refl; tip = refl; core = refl; events = refl }
    left D.WrongReport h = record { text = refl; tip = refl; core = refl; events = refl }
    left (D.Control c) h = left_by_lem (action_of c) (D.Control c) (λ n. refl) refl h
    left (D.Text n run) h = left_by_lem (string_action run) (D.Text n run) (λ m. refl) refl h
    left (D.Wrong (Letter place)) h = record { text = refl; tip = refl; core = refl; events = refl }
    left (D.Wrong (Operand place read)) h = record { text = refl; tip = refl; core = refl; events = refl }
    left D.TooLong h = record { text = refl; tip = refl; core = refl; events = refl }

    untouched : (x : Data) → is_report x ≡ true → Unchanged d (does x)
    unfolding dealt_of task_of performed_of
    untouched (D.Report q) h = record { device = refl; events = refl }
    untouched D.WrongReport h = record { device = refl; events = refl }
    untouched (D.Control c) h = absurd (false≢true h)
    untouched (D.Text n run) h = absurd (false≢true h)
    untouched (D.Wrong r) h = absurd (false≢true h)
    untouched D.TooLong h = absurd (false≢true h)

    cleared_by : (x : Action) (y : Data) → task_of (Some y) ≡ T.Act x → Buffer.number_for x added d ≡ 0 → (does y).next.device.core.course.error ≡ 0
    unfolding dealt_of performed_of act_of acted_of
    cleared_by x y is e = rw (is, zero_is_fine (verdict_for x added d) e)

    cleared : (x : Data) → is_report x ≡ false → number x ≡ 0 → (does x).next.device.core.course.error ≡ 0
    unfolding number_for task_of
    cleared (D.Report q) h e = absurd (false≢true (sym h))
    cleared D.WrongReport h e = absurd (false≢true (sym h))
    cleared (D.Control c) h e = cleared_by (action_of c) (D.Control c) refl e
    cleared (D.Text n run) h e = cleared_by (string_action run) (D.Text n run) refl e
    cleared (D.Wrong (Letter place)) h e = absurd (omega arith)
    cleared (D.Wrong (Operand place read)) h e = absurd (omega arith)
    cleared D.TooLong h e = absurd (omega arith)

  -- which number
  only_14 : (x : Data) → number x ≡ 14 → NothingNow d.core.course.state x
  unfolding number_for
  only_14 (D.Report q) e = not_told 14 (told_of q a d.tip d.core) e (λ h. omega arith) (λ h. omega arith)
  only_14 D.WrongReport e = absurd (omega arith)
  only_14 (D.Control c) e = nothing c ((nothing_to_run_is_14 (action_of c) added d).only e)
  only_14 (D.Text n run) e = absurd (no_string run (column_of d.core.course.state) ((nothing_to_run_is_14 (string_action run) added d).only e))
  only_14 (D.Wrong (Letter place)) e = absurd (omega arith)
  only_14 (D.Wrong (Operand place read)) e = absurd (omega arith)
  only_14 D.TooLong e = absurd (omega arith)

  always_14 : (x : Data) → NothingNow d.core.course.state x → number x ≡ 14
  unfolding number_for
  always_14 x (nothing c h) = (nothing_to_run_is_14 (action_of c) added d).always h

  only_15 : (x : Data) → number x ≡ 15 → TooMuchNow a d added x
  unfolding number_for
  only_15 (D.Report q) e = not_told 15 (told_of q a d.tip d.core) e (λ h. omega arith) (λ h. omega arith)
  only_15 D.WrongReport e = absurd (omega arith)
  only_15 (D.Control c) e = control c ((busy_or_too_long_is_15 (action_of c) added d).only e)
  only_15 (D.Text n run) e = text n run ((busy_or_too_long_is_15 (string_action run) added d).only e)
  only_15 (D.Wrong (Letter place)) e = absurd (omega arith)
  only_15 (D.Wrong (Operand place read)) e = absurd (omega arith)
  only_15 D.TooLong e = too_many_bytes

  always_15 : (x : Data) → TooMuchNow a d added x → number x ≡ 15
  unfolding number_for
  always_15 x too_many_bytes = refl
  always_15 x (control c h) = (busy_or_too_long_is_15 (action_of c) added d).always h
  always_15 x (text n run h) = (busy_or_too_long_is_15 (string_action run) added d).always h

  known : (x : Data) → Known (number x)
  unfolding number_for
  known (D.Report q) = known_told (told_of q a d.tip d.core)
  known D.WrongReport = inr (inr (inl refl))
  known (D.Control c) = known_buffer _ (no_other_refusal (action_of c) added d)
  known (D.Text n run) = known_buffer _ (no_other_refusal (string_action run) added d)
  known (D.Wrong (Letter place)) = inr (inl refl)
  known (D.Wrong (Operand place read)) = inr (inr (inl refl))
  known D.TooLong = inr (inr (inr (inr refl)))

-- 2 and 3, of the bytes received
module _ (ds : List ℕ) (a : Address) (d : Device) where
  abbrev gets : Data → ℕ
  gets x = number_for x (added_of ds) a d

  refused_as : (m : Misread) → received_of ds ≡ D.Wrong m → Strings.Refused ds m
  refused_as m = (a_string_is_refused_exactly_at_its_first_wrong_place ds m).only

  only_2 : (x : Data) → received_of ds ≡ x → gets x ≡ 2 → WrongLetter ds
  unfolding number_for
  only_2 (D.Report q) is e = not_told 2 (told_of q a d.tip d.core) e (λ h. omega arith) (λ h. omega arith)
  only_2 D.WrongReport is e = absurd (omega arith)
  only_2 (D.Control c) is e = never_2 (added_of ds) d (action_of c) e
  only_2 (D.Text n run) is e = never_2 (added_of ds) d (string_action run) e
  only_2 (D.Wrong (Letter place)) is e = let r = refused_as (Letter place) is in record { string = r.string; place = place; letter = r.judged }
  only_2 (D.Wrong (Operand place read)) is e = absurd (omega arith)
  only_2 D.TooLong is e = absurd (omega arith)

  only_3 : (x : Data) → received_of ds ≡ x → gets x ≡ 3 → WrongNumber a d ds
  unfolding number_for
  only_3 (D.Report q) is e = report_number q is (refused_3 (told_of q a d.tip d.core) e)
  only_3 D.WrongReport is e = report is
  only_3 (D.Control c) is e = loops_of_control c is ((wrong_loops_are_3 (action_of c) (added_of ds) d).only e)
  only_3 (D.Text n run) is e = loops_of_text n run is ((wrong_loops_are_3 (string_action run) (added_of ds) d).only e)
  only_3 (D.Wrong (Letter place)) is e = absurd (omega arith)
  only_3 (D.Wrong (Operand place read)) is e = let r = refused_as (Operand place read) is in operand r.string place read r.judged
  only_3 D.TooLong is e = absurd (omega arith)

  always_3 : WrongNumber a d ds → gets (received_of ds) ≡ 3
  unfolding number_for
  always_3 (operand string place read judged) = rw ((a_string_is_refused_exactly_at_its_first_wrong_place ds (Operand place read)).always (record { string = string; judged = judged }))
  always_3 (report is) = rw is
  always_3 (report_number q is h) = rw (is, h)
  always_3 (loops_of_control c is h) = rw is ((wrong_loops_are_3 (action_of c) (added_of ds) d).always h)
  always_3 (loops_of_text n run is h) = rw is ((wrong_loops_are_3 (string_action run) (added_of ds) d).always h)

-- A frame to us with these data.
module _ (ds : List ℕ) (a : Address) (d : Device) where
  -- 2, 3, 14 and 15, each exactly where the table says
  pub a_wrong_letter_is_2 : Exactly (refusal_of ds a d ≡ 2) (WrongLetter ds)
  unfolding refusal_of number_for
  a_wrong_letter_is_2 =
      record {
        only = only_2 ds a d (received_of ds) refl;
        always = λ w. rw ((a_string_is_refused_exactly_at_its_first_wrong_place ds (Letter w.place)).always (record { string = w.string; judged = w.letter }));
      }

  pub a_wrong_number_is_3 : Exactly (refusal_of ds a d ≡ 3) (WrongNumber a d ds)
  unfolding refusal_of
  a_wrong_number_is_3 = record { only = only_3 ds a d (received_of ds) refl; always = always_3 ds a d }

  pub nothing_to_run_now_is_14 : Exactly (refusal_of ds a d ≡ 14) (NothingNow d.core.course.state (received_of ds))
  unfolding refusal_of
  nothing_to_run_now_is_14 = record { only = only_14 (added_of ds) a d (received_of ds); always = always_14 (added_of ds) a d (received_of ds) }

  pub too_much_now_is_15 : Exactly (refusal_of ds a d ≡ 15) (TooMuchNow a d (added_of ds) (received_of ds))
  unfolding refusal_of
  too_much_now_is_15 = record { only = only_15 (added_of ds) a d (received_of ds); always = always_15 (added_of ds) a d (received_of ds) }

  pub no_other_number : Known (refusal_of ds a d)
  unfolding refusal_of
  no_other_number = known (added_of ds) a d (received_of ds)

  -- "7: A, P or D taken while not initialised": in a run, and never at load
  pub never_7_at_load : refusal_of ds a d ≡ 7 → ⊥
  never_7_at_load e = go no_other_number
    where
      go : Known (refusal_of ds a d) → ⊥
      go (inl h) = omega arith
      go (inr (inl h)) = omega arith
      go (inr (inr (inl h))) = omega arith
      go (inr (inr (inr (inl h)))) = omega arith
      go (inr (inr (inr (inr h)))) = omega arith

  module _ (f : Framing) (buf : List ℕ) where
    -- every frame is answered, with its status: the last error, 0 or its own number
    pub every_frame_is_answered : Replied f (received_of ds) (refusal_of ds a d) a d buf (exchange_of f ds a d buf)
    unfolding refusal_of exchange_of
    every_frame_is_answered = replied (added_of ds) a d f buf (received_of ds)

    -- a refusal leaves the last error only, and a refused report nothing
    pub a_refused_frame_leaves_the_error_only : (refusal_of ds a d ≡ 0 → ⊥) → Refused (received_of ds) (refusal_of ds a d) d (exchange_of f ds a d buf)
    unfolding refusal_of exchange_of
    a_refused_frame_leaves_the_error_only = left (added_of ds) a d f buf (received_of ds)

    -- "An accepted frame that isn't a report sets it to 0"
    pub an_accepted_frame_clears_the_error : is_report (received_of ds) ≡ false → refusal_of ds a d ≡ 0 → (exchange_of f ds a d buf).next.device.core.course.error ≡ 0
    unfolding refusal_of exchange_of
    an_accepted_frame_clears_the_error = cleared (added_of ds) a d f buf (received_of ds)

    -- "Reports never change it"
    pub reports_leave_everything : is_report (received_of ds) ≡ true → Unchanged d (exchange_of f ds a d buf)
    unfolding exchange_of
    reports_leave_everything = untouched (added_of ds) a d f buf (received_of ds)
