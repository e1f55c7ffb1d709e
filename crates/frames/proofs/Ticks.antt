-- Theorems: a tick in which no run fails leaves the last error and its column as they were, and one in which it fails leaves no column.
use mathlib.Core.Path.{◌≡◌, refl, sym, ◌∙◌}
use Prim.Native.Nat.{ℕ}
use native.Mathlib.Omega.{arith}
use Rattle.std.specs.Prelude.{Err, Ok}
use Rattle.command.specs.Verdict.{Verdict}
use Rattle.command.specs.declared.refusal.Refusal.{Refusal}
use Rattle.motion.specs.declared.Sense.{Sense}
use Rattle.buffer.specs.declared.course.Course.{Course}
use Rattle.buffer.specs.Course.{reached}
use Rattle.machine.specs.declared.step.Core.{Core}
use Rattle.machine.specs.declared.step.Stepped.{Stepped}
use Rattle.machine.specs.Step.{Around, around, step_of}
use Rattle.machine.specs.Device.{tick_of}
use Rattle.machine.proofs.Ways.{step_by}
use Rattle.pipettor.specs.declared.Controller.{Controller}
use Rattle.pipettor.specs.Controller.{ticked_of}

refused_is_not_fine : {A : Type 0} (why : Refusal) → ◌≡◌ {A = Verdict} (Err why) (Ok tt) → A
refused_is_not_fine why e = let z : ◌≡◌ {A = ℕ} 0 1 = cc in absurd (omega arith)

module _ (c : Core) where
  record Leaves (s : Stepped) : Type 0 where
    kept : s.news.failed ≡ Ok tt → (s.core.course.error ≡ c.course.error) × (s.core.course.misread ≡ c.course.misread)
    cleared : (why : Refusal) → s.news.failed ≡ Err why → s.core.course.misread ≡ 0

  goes_on : (s : Stepped) → s.news.failed ≡ Ok tt → s.core.course.error ≡ c.course.error → s.core.course.misread ≡ c.course.misread → Leaves s
  goes_on s fine error column = record { kept = λ h. (error, column); cleared = λ why h. refused_is_not_fine why (sym h ∙ fine) }

  fails : (s : Stepped) (why : Refusal) → s.news.failed ≡ Err why → s.core.course.misread ≡ 0 → Leaves s
  fails s why is none = record { kept = λ h. refused_is_not_fine why (sym is ∙ h); cleared = λ w h. none }

  leaves : (w : Around) → Leaves (step_of w c).next
  unfolding reached
  leaves w =
      step_by Leaves c
      (record {
        rests = goes_on _ refl refl refl;
        goes = λ b a at. goes_on _ refl refl refl;
        ends = λ b at l. goes_on _ refl refl refl;
        breaks = λ why b. fails _ why refl refl;
        asks = λ at. goes_on _ refl refl refl;
      })
      w

module _ (s : Sense) (k : Controller) where
  abbrev before : Course
  before = k.device.core.course

  ticked_leaves : Leaves k.device.core (step_of (around k.device.text s) k.device.core).next
  ticked_leaves = leaves k.device.core (around k.device.text s)

  pub a_tick_leaves_the_last_error_unless_the_run_fails : (ticked_of s k).next.news.failed ≡ Ok tt → (ticked_of s k).next.controller.device.core.course.error ≡ before.error
  unfolding ticked_of tick_of
  a_tick_leaves_the_last_error_unless_the_run_fails h = (ticked_leaves.kept h).0

  -- 02, W-202: "It is 0 after .. an error in a run"
  pub a_tick_leaves_the_column_unless_the_run_fails : (ticked_of s k).next.news.failed ≡ Ok tt → (ticked_of s k).next.controller.device.core.course.misread ≡ before.misread
  unfolding ticked_of tick_of
  a_tick_leaves_the_column_unless_the_run_fails h = (ticked_leaves.kept h).1

  pub an_error_in_a_run_has_no_column : (why : Refusal) → (ticked_of s k).next.news.failed ≡ Err why → (ticked_of s k).next.controller.device.core.course.misread ≡ 0
  unfolding ticked_of tick_of
  an_error_in_a_run_has_no_column why h = ticked_leaves.cleared why h
