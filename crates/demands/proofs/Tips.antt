-- `specs/Tips`, proved: "a tip changes nothing but ?31 while no E is taken or in progress".
use mathlib.Core.Path.{◌≡◌, refl, sym, ap, ◌∙◌}
use mathlib.Core.Bool.{Bool}
use mathlib.Core.List.{List, ◌++◌}
use Prim.Native.Nat.{ℕ, zero, suc, ◌≤◌, ◌<◌}
use native.Mathlib.Omega.{arith}
use lib.Dec.{ltb}
use Rattle.std.specs.Prelude.{Ok, Result}
use Rattle.machine.specs.declared.S3.{S3}
use Rattle.basics.proofs.Choice.{by}
use Rattle.motion.specs.declared.Sense.{Sense}
use Rattle.motion.specs.Events.{Event, Turn}
use Rattle.machine.specs.declared.step.News.{News}
use Rattle.machine.specs.declared.step.Stepped.{Stepped}
use Rattle.machine.specs.declared.Device.{Device}
use Rattle.machine.specs.declared.Ran.{Ran}
use Rattle.machine.specs.Step.{around, no_news, both_of, fine, stepped, step_of, next_of}
use Rattle.machine.specs.Run.{ticks_of, used_of}
use Rattle.machine.specs.Device.{device, tip_after, tick_of, halted_of, advance_of, ran_of}
use Rattle.machine.specs.History as Machine
use Rattle.machine.specs.Tips.{AtEject}
use Rattle.machine.proofs.Runs.{count_within}
use Rattle.machine.proofs.Tips.{another_tip_changes_no_tick, another_tip_changes_no_ticks, another_tip_changes_no_count}
use Rattle.pipettor.specs.declared.Controller.{Controller}
use Rattle.pipettor.specs.declared.Ticked.{Ticked}
use Rattle.pipettor.specs.Byte.{After}
use Rattle.pipettor.specs.Listening.{listened_of}
use Rattle.pipettor.specs.Controller.{on, ticked_of, stopped_of, advanced_of, run_of}
use Rattle.frames.specs.Tips.{with_tip, tipped}
use Rattle.frames.proofs.Tips.{both_ways, another_tip_leaves_the_controller, another_tip_leaves_the_history, another_tip_changes_no_answer}
use Rattle.demands.specs.Calls.{lent, Call, byte, listen, tick, stop, advance, run, said, told, used, ticks_events, ticks_used, call_of, answer_of, after_of, events_of, answers_of}
use Rattle.demands.specs.Tips.{sensed, retipped, ApartFor, Apart, SameBut31, Retipped, none, one, AllApart, AllSameBut31, TipsTellOnly31}
use Rattle.demands.proofs.Ticks.{a_run_hands_back_what_its_ticks_do, to_run_is_to_advance}

module _ (t : Bool) (s : Sense) where
  abbrev other : Sense
  other = sensed t s

  -- so many ticks of a device, none of which takes an E or has one in progress
  abbrev Free : ℕ → Device → News → Type 0
  Free n d v = (j : ℕ) → j < n → AtEject d.text (ticks_of j (around d.text s) (stepped d.core v)).core → ⊥

  same_tick : (n : ℕ) (d : Device) (v : News) → Free (suc n) d v → step_of (around d.text s) d.core ≡ step_of (around d.text other) d.core
  unfolding ticks_of
  same_tick n d v free = another_tip_changes_no_tick d.text s other refl d.core (free 0 (omega arith))

  -- what they add to the history
  same_history : (n : ℕ) (d : Device) (v : News) (u : Bool) → Free n d v → ticks_events n other (with_tip u d) ≡ ticks_events n s d
  unfolding ticks_events Machine.events_of Machine.call_of tick_of ticks_of next_of
  same_history zero d v u free = refl
  same_history (suc n) d v u free =
      let e = same_tick n d v free in
      let after = (tick_of s d).next.device in
      let later = same_history n after (both_of v (step_of (around d.text s) d.core).next.news) t (λ j h. free (suc j) (omega arith)) in
      sym (ap (λ (x : Turn Stepped). x.events ++ ticks_events n other (device d.text t x.next.core)) e) ∙ ap (◌++◌ (step_of (around d.text s) d.core).events) later

  module _ (n : ℕ) (k : Controller) (u : Bool) (apart : ApartFor n s k) where
    free : Free n k.device no_news
    unfolding advanced_of advance_of
    free = apart

    same_ticks : ticks_of n (around k.device.text s) (fine k.device.core) ≡ ticks_of n (around k.device.text other) (fine k.device.core)
    same_ticks = another_tip_changes_no_ticks k.device.text s other refl n (fine k.device.core) free

    same_advance : advanced_of n other (tipped u k) ≡ record { controller = tipped (tip_after n other u) (advanced_of n s k).controller; news = (advanced_of n s k).news }
    unfolding advanced_of advance_of
    same_advance =
        sym (ap (λ (x : Stepped). record { controller = on (device k.device.text (tip_after n other u) x.core) k; news = x.news }) same_ticks)

    same_count : used_of n (around k.device.text s) (fine k.device.core) ≡ used_of n (around k.device.text other) (fine k.device.core)
    same_count = another_tip_changes_no_count k.device.text s other refl n (fine k.device.core) free

    same_used : (run_of n other (tipped u k)).used ≡ (run_of n s k).used
    unfolding run_of ran_of
    same_used = both_ways (λ (r : Ran). r.used) (λ (r : Ran). r.used) (ltb 60000 n) _ _ _ _ refl (ap Ok (sym same_count))

  ticks_same : (n : ℕ) (k : Controller) (u : Bool) → ApartFor n s k → SameBut31 (advance n s) (advance n other) k (tipped u k)
  unfolding call_of answer_of
  ticks_same n k u apart =
      let e = same_advance n k u apart in
      record {
        tip = tip_after n other u;
        controller = ap (λ (x : Ticked). x.controller) e;
        events = same_history n k.device no_news u (free n k u apart);
        answer = λ h. ap (λ (x : Ticked). told x.news) e;
      }

  -- a run is as many ticks
  fewer : (m n : ℕ) (k : Controller) → m ≤ n → ApartFor n s k → ApartFor m s k
  fewer m n k h apart = λ j l. apart j (omega arith)

  uses_within : (n : ℕ) (k : Controller) → ticks_used (run_of n s k).used ≤ n
  unfolding run_of ran_of
  uses_within n k = by (λ (r : Ran). ticks_used r.used ≤ n) (ltb 60000 n) (λ h. omega arith) (λ h. count_within n (around k.device.text s) (fine k.device.core))

  run_same : (n : ℕ) (k : Controller) (u : Bool) → ApartFor n s k → SameBut31 (run n s) (run n other) k (tipped u k)
  unfolding answer_of
  run_same n k u apart =
      let m = ticks_used (run_of n s k).used in
      let count = same_used n k u apart in
      let ticks = ticks_same m k u (fewer m n k (uses_within n k) apart) in
      let here = to_run_is_to_advance s n k in
      let there : call_of (run n other) (tipped u k) ≡ call_of (advance m other) (tipped u k) = to_run_is_to_advance other n (tipped u k) ∙ ap (λ (x : Result ℕ S3). call_of (advance (ticks_used x) other) (tipped u k)) count in
      let tells : (run_of n other (tipped u k)).ticked ≡ advanced_of m other (tipped u k) = a_run_hands_back_what_its_ticks_do other n (tipped u k) ∙ ap (λ (x : Result ℕ S3). advanced_of (ticks_used x) other (tipped u k)) count in
      record {
        tip = ticks.tip;
        controller = ap (λ (x : Turn Controller). x.next) there ∙ ticks.controller ∙ sym (ap (λ (x : Turn Controller). tipped ticks.tip x.next) here);
        events = ap (λ (x : Turn Controller). x.events) there ∙ ticks.events ∙ sym (ap (λ (x : Turn Controller). x.events) here);
        answer =
            λ h.
            ap (λ (x : Result ℕ S3). used (run_of n other (tipped u k)).ticked.news x) count
            ∙ ap (λ (x : Ticked). used x.news (run_of n s k).used) (tells ∙ same_advance m k u (fewer m n k (uses_within n k) apart))
            ∙ sym (ap (λ (x : Ticked). used x.news (run_of n s k).used) (a_run_hands_back_what_its_ticks_do s n k));
      }

-- any call
call_same : (t u : Bool) (c : Call) (k : Controller) → Apart c k → SameBut31 c (retipped t c) k (tipped u k)
unfolding call_of answer_of listened_of stopped_of halted_of ticked_of tick_of
call_same t u (byte b l) k apart =
    record {
      tip = u;
      controller = another_tip_leaves_the_controller k b l.buffer u;
      events = another_tip_leaves_the_history k b l.buffer u;
      answer = λ h. ap (λ (x : Turn After). said x.next.reply.said (lent x.next.buffer)) (another_tip_changes_no_answer k b l.buffer u h);
    }
call_same t u (listen bytes) k apart = record { tip = u; controller = refl; events = refl; answer = λ h. refl }
call_same t u (tick s) k apart =
    let e = same_tick t s 0 k.device no_news (free t s 1 k u apart) in
    record {
      tip = t;
      controller = sym (ap (λ (x : Turn Stepped). on (device k.device.text t x.next.core) k) e);
      events = sym (ap (λ (x : Turn Stepped). x.events) e);
      answer = λ h. sym (ap (λ (x : Turn Stepped). told x.next.news) e);
    }
call_same t u stop k apart = record { tip = u; controller = refl; events = refl; answer = λ h. refl }
call_same t u (advance n s) k apart = ticks_same t s n k u apart
call_same t u (run n s) k apart = run_same t s n k u apart

calls_same : (u : Bool) (cs ds : List Call) (k : Controller) → Retipped cs ds → AllApart cs k → AllSameBut31 cs ds k (tipped u k)
unfolding after_of events_of answers_of
calls_same u cs ds k none apart = record { tip = u; controller = refl; events = refl; answers = λ h. refl }
calls_same u cs ds k (one t c xs ys rest) apart =
    let first = call_same t u c k apart.0 in
    let later = calls_same first.tip xs ys (call_of c k).next rest apart.1 in
    let d = retipped t c in
    record {
      tip = later.tip;
      controller = ap (λ (x : Controller). after_of ys x) first.controller ∙ later.controller;
      events = ap (λ (x : List Event). x ++ events_of ys (call_of d (tipped u k)).next) first.events ∙ ap (λ (x : Controller). (call_of c k).events ++ events_of ys x) first.controller ∙ ap (◌++◌ (call_of c k).events) later.events;
      answers = λ h. rw (first.answer h.0, first.controller, later.answers h.1);
    }

pub a_tip_changes_nothing_but_31 : TipsTellOnly31
a_tip_changes_nothing_but_31 = record { a_call = call_same; any_calls = calls_same }
