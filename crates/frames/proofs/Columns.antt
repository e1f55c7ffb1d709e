-- Theorem (02, W-202): what the column means that a frame leaves.
use mathlib.Core.Path.{◌≡◌, refl, sym, ap, ◌∙◌}
use mathlib.Core.Bool.{true, false, false≢true}
use mathlib.Core.List.{List, ◌∷◌, ◌++◌}
use Prim.Native.Nat.{ℕ, ◌+◌, ◌≤◌}
use native.Mathlib.Omega.{arith}
use borrow.Author.Tests.{le-ltb}
use lib.Dec.{ltb}
use lib.ListN.{length, length-append}
use Rattle.std.specs.Prelude.{Err, Ok, Some}
use Rattle.command.specs.Verdict.{Verdict}
use Rattle.basics.proofs.Choice.{by}
use Rattle.command.specs.declared.refusal.Misread.TheVariants.{Letter, Operand}
use Rattle.command.specs.Numbers.{column_at}
use Rattle.text.specs.declared.Data.{Data}
use Rattle.text.specs.declared.Data.TheVariants as D
use Rattle.text.specs.Data.{spaceless, received_of}
use Rattle.text.proofs.Squeezing.{spaceless_short}
use Rattle.text.proofs.Strings.{body_short}
use Rattle.line.specs.declared.Framing.{Framing}
use Rattle.buffer.specs.declared.course.State.{State}
use Rattle.buffer.specs.declared.course.State.TheVariants.{Empty, Stored, Running, Stopped, Done}
use Rattle.buffer.specs.declared.course.Course.{Course}
use Rattle.buffer.specs.Course.{halted}
use Rattle.buffer.specs.declared.order.Order.{Order}
use Rattle.machine.specs.declared.step.Core.{Core}
use Rattle.machine.specs.declared.Device.{Device}
use Rattle.machine.specs.Act.{halt_of, stop_of, acted_of, act_of}
use Rattle.machine.specs.Device.{halted_of}
use Rattle.pipettor.specs.declared.address.Address.{Address}
use Rattle.pipettor.specs.declared.Controller.{Controller}
use Rattle.pipettor.specs.Controller.{stopped_of}
use Rattle.pipettor.specs.Byte.{task_of, performed_of, dealt_of}
use Rattle.frames.specs.Frame.{added_of, exchange_of}
use Rattle.frames.specs.Grammar.{OperandAt, UpTo}
use Rattle.frames.specs.Refused.{is_report, column_after, IsString, text_in, WrongLetter, Columned}
use Rattle.frames.proofs.Strings.{a_string_is_refused_exactly_at_its_first_wrong_place}

-- what is accepted, and what the buffer refuses, has no column
no_column : (o : Order) (v : Verdict) (n : ℕ) (c : Core) → (acted_of o v n c).next.course.misread ≡ 0
unfolding acted_of
no_column o (Ok tt) n c = refl
no_column o (Err why) n c = refl

module _ (a : Address) (d : Device) (f : Framing) (buf added : List ℕ) where
  left : (x : Data) → (dealt_of f (Some x) added a d buf).next.device.core.course.misread ≡ column_after x d.core.course.misread
  unfolding dealt_of task_of performed_of act_of
  left (D.Report q) = refl
  left D.WrongReport = refl
  left (D.Control c) = no_column _ _ _ _
  left (D.Text n run) = no_column _ _ _ _
  left (D.Wrong (Letter place)) = refl
  left (D.Wrong (Operand place read)) = refl
  left D.TooLong = refl

-- a place of the text is a place of the data, of which there are 320 at most
within : (ds : List ℕ) (place : ℕ) (b : ℕ) (u : List ℕ) → IsString ds → UpTo (text_in ds) place (b ∷ u) → place + 1 ≤ 320
within ds place b u string up =
    let counted : length (text_in ds) ≡ length up.before + length (b ∷ u) = ap length up.whole ∙ length-append up.before (b ∷ u) in
    omega (arith, counted, up.here, body_short (spaceless ds), spaceless_short ds, string.short)

column_of_lem : (place : ℕ) → place ≤ 320 → column_at place ≡ place + 1
column_of_lem place h = rw (le-ltb 320 place h)

module _ (ds : List ℕ) (a : Address) (d : Device) (f : Framing) (buf : List ℕ) where
  abbrev column : ℕ
  column = (exchange_of f ds a d buf).next.device.core.course.misread

  pub the_column_a_frame_leaves : column ≡ column_after (received_of ds) d.core.course.misread
  unfolding exchange_of
  the_column_a_frame_leaves = left a d f buf (added_of ds) (received_of ds)

  by_report : (x : Data) → is_report x ≡ true → column_after x d.core.course.misread ≡ d.core.course.misread
  by_report (D.Report q) h = refl
  by_report D.WrongReport h = refl
  by_report (D.Control c) h = absurd (false≢true h)
  by_report (D.Text n run) h = absurd (false≢true h)
  by_report (D.Wrong m) h = absurd (false≢true h)
  by_report D.TooLong h = absurd (false≢true h)

  by_another :
      (x : Data) → received_of ds ≡ x → is_report x ≡ false → (WrongLetter ds → ⊥) → ((place read : ℕ) → IsString ds → OperandAt (text_in ds) place read → ⊥) →
      column_after x d.core.course.misread ≡ 0
  by_another (D.Report q) is h no_letter no_Operand = absurd (false≢true (sym h))
  by_another D.WrongReport is h no_letter no_Operand = absurd (false≢true (sym h))
  by_another (D.Control c) is h no_letter no_Operand = refl
  by_another (D.Text n run) is h no_letter no_Operand = refl
  by_another (D.Wrong (Letter place)) is h no_letter no_Operand =
      let r = (a_string_is_refused_exactly_at_its_first_wrong_place ds (Letter place)).only is in
      absurd (no_letter (record { string = r.string; place = place; letter = r.judged }))
  by_another (D.Wrong (Operand place read)) is h no_letter no_Operand =
      let r = (a_string_is_refused_exactly_at_its_first_wrong_place ds (Operand place read)).only is in
      absurd (no_Operand place read r.string r.judged)
  by_another D.TooLong is h no_letter no_Operand = refl

  pub what_a_column_means : Columned ds a d (exchange_of f ds a d buf)
  what_a_column_means =
      record {
        at_the_wrong_letter = λ place string l.
            the_column_a_frame_leaves ∙
            ap (λ (x : Data). column_after x d.core.course.misread) ((a_string_is_refused_exactly_at_its_first_wrong_place ds (Letter place)).always (record { string = string; judged = l })) ∙
            column_of_lem place (omega (arith, within ds place l.letter l.after string l.up_to));
        at_the_wrong_operand = λ place read string o.
            the_column_a_frame_leaves ∙
            ap (λ (x : Data). column_after x d.core.course.misread) ((a_string_is_refused_exactly_at_its_first_wrong_place ds (Operand place read)).always (record { string = string; judged = o })) ∙
            column_of_lem place (omega (arith, o.here, within ds o.at o.letter (o.operand ++ o.after) string o.up_to));
        a_report_leaves_it = λ h. the_column_a_frame_leaves ∙ by_report (received_of ds) h;
        any_other_frame_makes_it_0 = λ h no_letter no_Operand. the_column_a_frame_leaves ∙ by_another (received_of ds) refl h no_letter no_Operand;
      }

-- the host's stop changes neither the last error nor its column
halted_leaves : (c : Course) → (halted c).misread ≡ c.misread
unfolding halted
halted_leaves c = by (λ (x : Course). x.misread ≡ c.misread) (ltb c.at c.len) (λ h. refl) (λ h. refl)

halt_leaves : (s : State) (c : Core) → (halt_of s c).next.course.misread ≡ c.course.misread
unfolding halt_of
halt_leaves (Running a) c = halted_leaves c.course
halt_leaves Empty c = refl
halt_leaves Stored c = refl
halt_leaves Stopped c = refl
halt_leaves Done c = refl

pub the_stop_leaves_the_column : (k : Controller) → (stopped_of k).next.device.core.course.misread ≡ k.device.core.course.misread
unfolding stopped_of halted_of stop_of
the_stop_leaves_the_column k = halt_leaves k.device.core.course.state k.device.core
