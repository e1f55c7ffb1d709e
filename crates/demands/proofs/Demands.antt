-- The demands 1 and 3 of `specs/Demands`, proved; `proofs/Agreement` proves the second.
use mathlib.Core.Path.{◌≡◌, refl, sym, ap, ◌∙◌}
use mathlib.Core.List.{List}
use mathlib.Core.Bool.{Bool, true, false}
use Prim.Native.Nat.{ℕ, ◌+◌, ◌≤◌}
use native.Mathlib.Omega.{arith}
use borrow.Author.Tests.{lt-ltb, le-ltb, ltb-false}
use lib.Dec.{ltb}
use lib.ListN.{length, drop}
use lib.Seq.{drop_at}
use Rattle.std.specs.Prelude.{Err, None, Ok, Option, Result, Some}
use Rattle.pipettor.specs.declared.address.S2.{S2}
use Rattle.pipettor.specs.Said.{Said, s1, s2}
use Rattle.machine.specs.declared.S3.{S3}
use Rattle.machine.specs.Used.{s3}
use Rattle.line.specs.declared.Report.{Report}
use Rattle.command.specs.Verdict.{Verdict}
use Rattle.basics.specs.Lay.{over}
use Rattle.basics.specs.Exactly.{Exactly}
use Rattle.basics.proofs.Choice.{by}
use Rattle.basics.proofs.Over.{length_over}
use Rattle.command.specs.declared.refusal.Refusal.{Refusal}
use Rattle.command.specs.declared.refusal.Refusal.TheVariants as R
use Rattle.command.specs.declared.Command.TheVariants as C
use Rattle.command.specs.Numbers.{refusal_number, verdict_number}
use Rattle.line.specs.declared.Framing.{Framing}
use Rattle.line.specs.Answer.{status_of, answer_of}
use Rattle.line.proofs.Answers.{answer_fits}
use Rattle.motion.specs.declared.Sense.{Sense}
use Rattle.motion.specs.Events.{Turn}
use Rattle.motion.specs.declared.Activity.TheVariants.{Approaching, Searching, Ejecting}
use Rattle.buffer.specs.declared.course.State.TheVariants.{Running}
use Rattle.machine.specs.Step.{around, fine}
use Rattle.machine.specs.Run.{used_of}
use Rattle.machine.specs.Device.{tick_of, halted_of, advance_of, ran_of}
use Rattle.machine.specs.History.{IsSum}
use Rattle.motion.specs.Detect.{felt_in}
use Rattle.machine.specs.OnCourse.{OnCourse, uninitialised, steep, outside, tipless, unready, still_there, taken, judged, unknown, no_way, no_zero, halted_move, too_much, no_liquid}
use Rattle.machine.proofs.Runs.{count_within, not_ready_before, ready_after}
use Rattle.machine.proofs.Position.{at_rest}
use Rattle.machine.proofs.Failures.{a_run_meets_a_command, a_run_fails_for_a_cause, where_there_is_a_cause_the_run_fails, a_run_fails_exactly_for_a_cause}
use Rattle.machine.proofs.Tips.{the_host_is_asked_for_each_E_taken_and_not_refused, ticks_ask_where_one_does, without_an_E_no_tick_asks}
use Rattle.machine.proofs.Homing.{a_cut_W_leaves_the_plunger_uninitialised}
use Rattle.pipettor.specs.declared.address.Address.{Address}
use Rattle.pipettor.specs.declared.address.Address.TheVariants.{One, Two, Three, Four, Five, Six, Seven, Eight, Nine}
use Rattle.pipettor.specs.declared.Controller.{Controller}
use Rattle.pipettor.specs.Address.{address_of}
use Rattle.pipettor.specs.Byte.{After, said_of, written_of, dealt_of, heard_of, byte_of}
use Rattle.pipettor.specs.Controller.{ticked_of, stopped_of, advanced_of, run_of}
use Rattle.frames.proofs.Calls.{a_short_buffer_is_s1, s1_changes_nothing, an_address_outside_1_to_9_is_s2, more_than_60000_ticks_are_s3}
use Rattle.frames.proofs.Columns.{the_stop_leaves_the_column}
use Rattle.frames.proofs.Tips.{no_byte_changes_the_tip, a_tick_brings_the_tip_sensed, the_stop_leaves_the_tip}
use Rattle.frames.proofs.Reports.{q31_tells_the_tip}
use Rattle.frames.proofs.Ticks.{a_tick_leaves_the_column_unless_the_run_fails, an_error_in_a_run_has_no_column}
use Rattle.demands.specs.Calls.{Making, Call, after}
use Rattle.demands.specs.Values.{Handed, number, S, said_is, given_is, used_is}
use Rattle.demands.specs.Demands.{Counted, AsksWithin, Takes, CauseIn, Written, Answers, Makes, TotalityAndRefusals, Position, Moves, FeelsFor, taking, moving_to_p2, searching, MissesIn}
use Rattle.demands.proofs.Examples.{computed}
use Rattle.demands.proofs.Frames.{a_frame_is_treated_by_the_table}
use Rattle.demands.proofs.InHand.{every_controller_receives}
use Rattle.demands.proofs.Sound.{every_controller_is_sound}

-- 1
behind_over : (xs buf : List ℕ) → drop (length xs) (over xs 0 buf) ≡ drop (length xs) buf
unfolding over
behind_over xs buf = let z : 0 + length xs ≡ length xs = omega arith in rw z (drop_at xs (drop (length xs) buf) (length xs) refl)

written_by : (f : Framing) (o : Option (Report × ℕ)) (ready : Bool) (buf : List ℕ) → 32 ≤ length buf → Written (said_of f o ready) buf (written_of f o ready buf)
unfolding said_of written_of
written_by f None ready buf long = refl
written_by f (Some (report, code)) ready buf long =
    let answer = answer_of f (status_of ready code) report in
    let short = answer_fits f (status_of ready code) report in
    (short, length_over answer 0 buf (omega arith), behind_over answer buf)

a_byte_writes : (k : Controller) (b : ℕ) (buf : List ℕ) → (let r = (byte_of k b buf).next in Written r.reply.said buf r.buffer)
unfolding byte_of heard_of dealt_of
a_byte_writes k b buf =
    by (λ (t : Turn After). Written t.next.reply.said buf t.next.buffer) (ltb (length buf) 32)
    (λ h. refl)
    (λ h. written_by _ _ _ buf (ltb-false (length buf) 32 h))

module _ (k : Controller) (n : ℕ) (sense : Sense) where
  a_run_is_counted : n ≤ 60000 → Counted n sense k (used_of n (around k.device.text sense) (fine k.device.core))
  unfolding run_of ran_of advanced_of advance_of
  a_run_is_counted h =
      let w = around k.device.text sense in
      let s = fine k.device.core in
      record {
        run = rw (le-ltb 60000 n h);
        within = count_within n w s;
        busy_before = λ i l. not_ready_before n i w s l;
        ready_after = ready_after n w s;
      }

-- (Err s1), (Err s2) and (Err s3) are what is called so on paper, and nothing else is
on_paper : {A : Type 0} {C : Type 0} (paper : A → Handed) (r s : A) (n : ℕ) → (paper r ≡ S n → r ≡ s) → paper s ≡ S n → Exactly (r ≡ s) C → Exactly (paper r ≡ S n) C
on_paper paper r s n named is e = record { only = λ p. e.only (named p); always = λ c. ap paper (e.always c) ∙ is }

only_s1 : (r : Said) → said_is r ≡ S 1 → r ≡ Err s1
only_s1 (Ok None) e = let z : ◌≡◌ {A = ℕ} 0 1 = cc in absurd (omega arith)
only_s1 (Ok (Some n)) e = let z : ◌≡◌ {A = ℕ} 0 1 = cc in absurd (omega arith)
only_s1 (Err _) e = refl

only_s2 : (r : Result Address S2) → given_is r ≡ S 2 → r ≡ Err s2
only_s2 (Ok a) e = let z : ◌≡◌ {A = ℕ} 0 1 = cc in absurd (omega arith)
only_s2 (Err _) e = refl

only_s3 : (r : Result ℕ S3) → used_is r ≡ S 3 → r ≡ Err s3
only_s3 (Ok n) e = let z : ◌≡◌ {A = ℕ} 0 1 = cc in absurd (omega arith)
only_s3 (Err _) e = refl

-- a run that fails with a number has a cause of that number
module _ (k : Controller) (s : Sense) (o : OnCourse k.device) where
  abbrev failed : Verdict
  failed = (ticked_of s k).next.news.failed

  causes : {A : Type 0} (n : ℕ) → (n ≡ 0 → ⊥) → ((why : Refusal) → CauseIn s k why → refusal_number why ≡ n → A) → verdict_number failed ≡ n → A
  unfolding ticked_of tick_of
  causes {A} n some f e = go failed refl e
    where
      go : (v : Verdict) → failed ≡ v → verdict_number v ≡ n → A
      go (Ok tt) h q = absurd (some (sym q))
      go (Err why) h q = f why ((a_run_fails_exactly_for_a_cause k.device.text s k.device.core why o).only h) q

  numbered : (why : Refusal) → CauseIn s k why → verdict_number failed ≡ refusal_number why
  unfolding ticked_of tick_of
  numbered why cause = ap verdict_number ((a_run_fails_exactly_for_a_cause k.device.text s k.device.core why o).always cause)

  ten : Exactly (verdict_number failed ≡ 10) (Takes k (C.Eject false) × (s.tip ≡ false))
  ten = record { only = causes 10 (λ e. omega arith) from; always = λ h. numbered R.NoTip (taken (C.Eject false) h.0 (tipless refl h.1)) }
    where
      from : (why : Refusal) → CauseIn s k why → refusal_number why ≡ 10 → Takes k (C.Eject false) × (s.tip ≡ false)
      from why (taken c t (uninitialised way v e i)) q = absurd (omega arith)
      from why (taken c t (steep way v e i h)) q = absurd (omega arith)
      from why (taken c t (outside way v e i flat out)) q = absurd (omega arith)
      from why (taken c t (tipless e none)) q = (rw e at t, none)
      from why (taken c t (unready e i)) q = absurd (omega arith)
      from why (taken c t (unknown here e i)) q = absurd (omega arith)
      from why (taken c t (no_way here e i n)) q = absurd (omega arith)
      from why (taken c t (no_zero here e i n f)) q = absurd (omega arith)
      from why (judged a is (still_there h)) q = absurd (omega arith)
      from why (judged a is (halted_move t z f)) q = absurd (omega arith)
      from why (judged a is (too_much f h)) q = absurd (omega arith)
      from why (judged a is (no_liquid f h)) q = absurd (omega arith)

  eight : Exactly (verdict_number failed ≡ 8) ((k.device.core.course.state ≡ Running Ejecting) × (s.tip ≡ true))
  eight = record { only = causes 8 (λ e. omega arith) from; always = λ h. numbered R.StillThere (judged Ejecting h.0 (still_there h.1)) }
    where
      from : (why : Refusal) → CauseIn s k why → refusal_number why ≡ 8 → (k.device.core.course.state ≡ Running Ejecting) × (s.tip ≡ true)
      from why (taken c t (uninitialised way v e i)) q = absurd (omega arith)
      from why (taken c t (steep way v e i h)) q = absurd (omega arith)
      from why (taken c t (outside way v e i flat out)) q = absurd (omega arith)
      from why (taken c t (tipless e none)) q = absurd (omega arith)
      from why (taken c t (unready e i)) q = absurd (omega arith)
      from why (taken c t (unknown here e i)) q = absurd (omega arith)
      from why (taken c t (no_way here e i n)) q = absurd (omega arith)
      from why (taken c t (no_zero here e i n f)) q = absurd (omega arith)
      from why (judged a is (still_there h)) q = (is, h)
      from why (judged a is (halted_move t z f)) q = absurd (omega arith)
      from why (judged a is (too_much f h)) q = absurd (omega arith)
      from why (judged a is (no_liquid f h)) q = absurd (omega arith)

  five : Exactly (verdict_number failed ≡ 5) (FeelsFor k × (felt_in s ≡ None))
  five = record { only = causes 5 (λ e. omega arith) from; always = λ h. numbered R.TooMuchPressure (to h.0 h.1) }
    where
      from : (why : Refusal) → CauseIn s k why → refusal_number why ≡ 5 → FeelsFor k × (felt_in s ≡ None)
      from why (taken c t (uninitialised way v e i)) q = absurd (omega arith)
      from why (taken c t (steep way v e i h)) q = absurd (omega arith)
      from why (taken c t (outside way v e i flat out)) q = absurd (omega arith)
      from why (taken c t (tipless e none)) q = absurd (omega arith)
      from why (taken c t (unready e i)) q = absurd (omega arith)
      from why (taken c t (unknown here e i)) q = absurd (omega arith)
      from why (taken c t (no_way here e i n)) q = absurd (omega arith)
      from why (taken c t (no_zero here e i n f)) q = (taking here (rw e at t) i n, f)
      from why (judged a is (still_there h)) q = absurd (omega arith)
      from why (judged a is (halted_move t z f)) q = (moving_to_p2 t z is, f)
      from why (judged a is (too_much f h)) q = (searching f is, h)
      from why (judged a is (no_liquid f h)) q = absurd (omega arith)

      to : FeelsFor k → felt_in s ≡ None → CauseIn s k R.TooMuchPressure
      to (taking here t i n) f = taken (C.Detect here) t (no_zero here refl i n f)
      to (moving_to_p2 t z is) f = judged (Approaching t z) is (halted_move t z f)
      to (searching x is) f = judged (Searching x) is (too_much x f)

  six : Exactly (verdict_number failed ≡ 6) (MissesIn s k)
  six = record { only = causes 6 (λ e. omega arith) from; always = λ h. numbered R.NoLiquid (judged (Searching h.search) h.searching (no_liquid h.search h.missed)) }
    where
      from : (why : Refusal) → CauseIn s k why → refusal_number why ≡ 6 → MissesIn s k
      from why (taken c t (uninitialised way v e i)) q = absurd (omega arith)
      from why (taken c t (steep way v e i h)) q = absurd (omega arith)
      from why (taken c t (outside way v e i flat out)) q = absurd (omega arith)
      from why (taken c t (tipless e none)) q = absurd (omega arith)
      from why (taken c t (unready e i)) q = absurd (omega arith)
      from why (taken c t (unknown here e i)) q = absurd (omega arith)
      from why (taken c t (no_way here e i n)) q = absurd (omega arith)
      from why (taken c t (no_zero here e i n f)) q = absurd (omega arith)
      from why (judged a is (still_there h)) q = absurd (omega arith)
      from why (judged a is (halted_move t z f)) q = absurd (omega arith)
      from why (judged a is (too_much f h)) q = absurd (omega arith)
      from why (judged a is (no_liquid f h)) q = record { search = f; searching = is; missed = h }

-- many ticks ask where one does
asks_within : (k : Controller) (n : ℕ) (s : Sense) → Exactly ((advanced_of n s k).news.eject ≡ true) (AsksWithin n s k)
unfolding advanced_of advance_of ticked_of tick_of
asks_within k n s =
    let e = ticks_ask_where_one_does n (around k.device.text s) k.device.core in
    record {
      only = λ h. (let a = e.only h in record { tick = a.tick; before = a.before; asks = a.asks });
      always = λ a. e.always (record { tick = a.tick; before = a.before; asks = a.asks });
    }

every_controller_answers : (a : Making) (calls : List Call) → Answers (after a calls)
unfolding run_of ran_of ticked_of tick_of stopped_of halted_of advanced_of advance_of
every_controller_answers a calls =
    let k = after a calls in
    let sound = every_controller_is_sound a calls in
    record {
      every_premise_holds = sound.valid;
      a_short_buffer_is_S1 = λ b buf. on_paper said_is _ (Err s1) 1 (only_s1 _) refl (a_short_buffer_is_s1 k b buf);
      S1_changes_nothing = s1_changes_nothing k;
      a_byte_writes_its_answer_only = a_byte_writes k;
      a_frame_is_treated_by_the_table = λ form ds buf heard good long. a_frame_is_treated_by_the_table k sound.sized.frame buf long form ds heard good;
      a_long_run_is_S3 = λ n s. on_paper used_is _ (Err s3) 3 (only_s3 _) refl (more_than_60000_ticks_are_s3 n s k);
      S3_changes_nothing = λ n s h. rw (lt-ltb 60000 n h);
      a_run_counts_its_ticks = λ n s h. (used_of n (around k.device.text s) (fine k.device.core), a_run_is_counted k n s h);
      a_run_meets_a_command = λ is. a_run_meets_a_command k.device.text k.device.core.course is sound.on_course;
      a_run_fails_for_a_cause = λ s doing is empty. a_run_fails_for_a_cause k.device.text s k.device.core doing is sound.on_course empty;
      a_run_fails_exactly_for_a_cause = λ s why. a_run_fails_exactly_for_a_cause k.device.text s k.device.core why sound.on_course;
      ten_is_an_E0_without_a_tip = λ s. ten k s sound.on_course;
      five_is_a_reading_outside = λ s. five k s sound.on_course;
      six_is_a_search_without_a_find = λ s. six k s sound.on_course;
      eight_is_a_tip_still_there = λ s. eight k s sound.on_course;
      a_run_that_fails_leaves = λ s why cause. rw (where_there_is_a_cause_the_run_fails k.device.text s k.device.core why cause);
      the_host_is_asked_once_for_each_E = λ s. the_host_is_asked_for_each_E_taken_and_not_refused k.device.text s k.device.core;
      ticks_ask_where_one_does = λ n s. asks_within k n s;
      without_an_E_nothing_asks = λ n s none. without_an_E_no_tick_asks k.device.text s n (fine k.device.core) refl none;
      a_tick_brings_the_tip_sensed = λ s. a_tick_brings_the_tip_sensed s k;
      no_byte_changes_the_tip = λ b buf. no_byte_changes_the_tip k b buf;
      the_stop_leaves_the_tip = the_stop_leaves_the_tip k;
      q31_tells_the_tip = q31_tells_the_tip k.address k.device;
      an_error_in_a_run_has_no_column = λ s. an_error_in_a_run_has_no_column s k;
      any_other_tick_leaves_the_column = λ s. a_tick_leaves_the_column_unless_the_run_fails s k;
      the_stop_leaves_the_column = the_stop_leaves_the_column k;
      a_cut_W_leaves_it_uninitialised = λ t is. a_cut_W_leaves_the_plunger_uninitialised t k.device.core is sound.homes;
    }

address : (a : Address) → (n : ℕ) × (given_is (address_of n) ≡ number n) × (address_of n ≡ Ok a)
unfolding address_of
address One = (1, refl, refl)
address Two = (2, refl, refl)
address Three = (3, refl, refl)
address Four = (4, refl, refl)
address Five = (5, refl, refl)
address Six = (6, refl, refl)
address Seven = (7, refl, refl)
address Eight = (8, refl, refl)
address Nine = (9, refl, refl)

making_refuses : Makes
making_refuses = record { one_to_nine = address; any_other_is_S2 = λ n. on_paper given_is _ (Err s2) 2 (only_s2 _) refl (an_address_outside_1_to_9_is_s2 n) }

pub every_call_is_answered : TotalityAndRefusals
every_call_is_answered = record { making = making_refuses; calling = every_controller_answers; receiving = every_controller_receives }

-- 3
pub the_plunger_stands_where_its_history_says : Position
unfolding IsSum
the_plunger_stands_where_its_history_says a calls =
    let c = (after a calls).device.core in
    let sound = every_controller_is_sound a calls in
    let is = sound.told.sum in
    record {
      within_travel = sound.valid.core.body.plunger;
      exact_is_the_sum = is;
      near_at_rest =
          λ still.
          let near = rw (at_rest c.course.state c.body.plunger c.body.exact still) at sound.told.near in
          record { above = omega (arith, near, is); below = omega (arith, near, is) };
    }

pub the_plunger_moves : Moves
the_plunger_moves = computed.the_plunger_moves
