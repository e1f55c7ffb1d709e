-- Laws of `specs/Device`, one for each return of the code.
use mathlib.Core.Path.{◌≡◌, ap, ◌∙◌}
use mathlib.Core.Bool.{Bool}
use Prim.Native.Nat.{ℕ, ◌≤◌, ◌<◌}
use borrow.Author.Tests.{lt-ltb, le-ltb, ne_eqb}
use Rattle.std.specs.Prelude.{Err, Ok}
use Rattle.machine.specs.Used.{s3}
use Rattle.motion.specs.declared.Sense.{Sense}
use Rattle.machine.specs.declared.step.News.{News}
use Rattle.machine.specs.declared.step.Ticked.{Ticked}
use Rattle.machine.specs.declared.Device.{Device}
use Rattle.machine.specs.declared.Turned.{Turned}
use Rattle.machine.specs.Step.{around, fine, next_of, no_news}
use Rattle.machine.specs.Run.{ticks_of, run_of}
use Rattle.machine.specs.Device.{tip_after, turned, tick_of, advance_of, ran_of}
use Rattle.machine.proofs.Runs.{used_ticks}

pub is_ticked : (x : Sense) (d : Device) (r : Turned) → r ≡ advance_of 1 x d → r ≡ (tick_of x d).next
unfolding advance_of tick_of ticks_of next_of
is_ticked x d r e = e

-- a tick after which the tip is what was sensed
pub each_senses : (n : ℕ) (x : Sense) (before : Bool) → (n ≡ 0 → ⊥) → x.tip ≡ tip_after n x before
each_senses n x before e = rw (ne_eqb n 0 e)

module _ (n : ℕ) (x : Sense) (d : Device) where
  pub is_advanced : (t : Ticked) (r : Turned) → t ≡ run_of n (around d.text x) d.core → r ≡ turned n x d t.stepped → r ≡ advance_of n x d
  unfolding advance_of run_of
  is_advanced t r e q = q ∙ ap (λ (y : Ticked). turned n x d y.stepped) e ∙ ap (turned n x d) (used_ticks n (around d.text x) (fine d.core))

  pub is_refused : (news : News) → 60000 < n → news ≡ no_news → record { turned = record { device = d; news = news }; used = Err s3 } ≡ ran_of n x d
  unfolding ran_of
  is_refused news h e = rw (lt-ltb 60000 n h, e)

  pub is_run : (t : Ticked) (r : Turned) → n ≤ 60000 → t ≡ run_of n (around d.text x) d.core → r ≡ turned t.used x d t.stepped → record { turned = r; used = Ok t.used } ≡ ran_of n x d
  unfolding ran_of advance_of run_of
  is_run t r h e q = rw (le-ltb 60000 n h, q, e)
