-- Theorems: to advance is to tick as often, and to run is to advance by the ticks it says it used; with the same history.
use mathlib.Core.Path.{◌≡◌, refl, ap, ◌∙◌}
use mathlib.Core.List.{◌++◌}
use Prim.Native.Nat.{ℕ, zero, suc}
use lib.Dec.{ltb}
use lib.ListN.{replicate}
use Rattle.std.specs.Prelude.{Err, Ok}
use Rattle.machine.specs.Used.{s3}
use Rattle.basics.proofs.Choice.{by}
use Rattle.motion.specs.declared.Sense.{Sense}
use Rattle.machine.specs.declared.Ran.{Ran}
use Rattle.machine.specs.Run.{ticks_of, used_of}
use Rattle.machine.specs.declared.Device.{Device}
use Rattle.machine.specs.Step.{around, fine}
use Rattle.machine.specs.Device.{turned, tick_of, advance_of, ran_of}
use Rattle.machine.proofs.History.{to_advance_is_to_call_ticks}
use Rattle.machine.specs.History as Machine
use Rattle.pipettor.specs.declared.Controller.{Controller}
use Rattle.pipettor.specs.declared.Ticked.{Ticked}
use Rattle.pipettor.specs.Controller.{on, ticked, ticked_of, advanced_of, run_of}
use Rattle.demands.specs.Calls.{tick, advance, run, ticks_events, ticks_used, call_of, after_of, events_of}

module _ (s : Sense) where
  -- a controller's ticks are its device's
  ticked_on : (n : ℕ) (k : Controller) → after_of (replicate n (tick s)) k ≡ on (Machine.after_of (replicate n (Machine.tick s)) k.device) k
  unfolding after_of call_of ticked_of Machine.after_of Machine.call_of
  ticked_on zero k = refl
  ticked_on (suc n) k = ticked_on n (ticked_of s k).next.controller

  pub to_advance_is_to_tick : (n : ℕ) (k : Controller) → after_of (replicate n (tick s)) k ≡ (call_of (advance n s) k).next
  unfolding call_of advanced_of
  to_advance_is_to_tick n k = ticked_on n k ∙ ap (λ (d : Device). on d k) (to_advance_is_to_call_ticks s n k.device)

  pub advancing_has_the_history_of_ticks : (n : ℕ) (k : Controller) → events_of (replicate n (tick s)) k ≡ (call_of (advance n s) k).events
  unfolding events_of call_of ticked_of tick_of ticks_events Machine.events_of Machine.call_of
  advancing_has_the_history_of_ticks zero k = refl
  advancing_has_the_history_of_ticks (suc n) k = ap (◌++◌ (ticked_of s k).events) (advancing_has_the_history_of_ticks n (ticked_of s k).next.controller)

  -- a run hands back what as many ticks do
  pub a_run_hands_back_what_its_ticks_do : (n : ℕ) (k : Controller) → (run_of n s k).ticked ≡ advanced_of (ticks_used (run_of n s k).used) s k
  unfolding run_of ran_of advanced_of advance_of ticks_of
  a_run_hands_back_what_its_ticks_do n k =
      let d = k.device in
      let count = used_of n (around d.text s) (fine d.core) in
      by (λ (r : Ran). ticked r.turned k ≡ advanced_of (ticks_used r.used) s k) (ltb 60000 n)
      {a = record { turned = turned 0 s d (fine d.core); used = Err s3 }} {b = record { turned = advance_of count s d; used = Ok count }}
      (λ h. refl)
      (λ h. refl)

  pub to_run_is_to_advance : (n : ℕ) (k : Controller) → call_of (run n s) k ≡ call_of (advance (ticks_used (run_of n s k).used) s) k
  unfolding call_of
  to_run_is_to_advance n k =
      ap (λ (t : Ticked). record { next = t.controller; events = ticks_events (ticks_used (run_of n s k).used) s k.device }) (a_run_hands_back_what_its_ticks_do n k)
