-- Ticks of a movement before the one in which it arrives may be passed over: a tick after them is as many ticks and one.
use mathlib.Core.Path.{◌≡◌, refl, sym, ap, ◌∙◌}
use mathlib.Core.Bool.{Bool, true, false}
use mathlib.Core.List.{List}
use Prim.Native.Nat.{ℕ, zero, suc, ◌+◌, ◌-◌, ◌*◌, ◌/◌, ◌≤◌, ◌<◌, min}
use Rattle.std.specs.Int.{abs_diff}
use lib.Dec.{eqb}
use native.Mathlib.Numerals.{add-one}
use native.Mathlib.Omega.{arith}
use mir.Syntax.{w32}
use mir.Val.{Fits}
use Rattle.settings.specs.Units.{ticks_for}
use Rattle.std.specs.Prelude.{if◌then◌else◌}
use Rattle.motion.specs.declared.Sense.{Sense}
use Rattle.motion.specs.declared.Body.{Body}
use Rattle.motion.specs.declared.Effect.TheVariants.{Goes, Ends}
use Rattle.motion.specs.declared.Travel.{Travel}
use Rattle.motion.specs.declared.Activity.{Activity}
use Rattle.motion.specs.declared.Activity.TheVariants.{Initialising, Moving, Delaying, Approaching, Searching, Ejecting, Between}
use Rattle.motion.specs.Bounds.{TravelOk, ActivityOk}
use Rattle.motion.specs.Bodies.{later_of, plunger_of, body_at, body_known}
use Rattle.motion.specs.Motion.{carried}
use Rattle.motion.proofs.Keeps.{not_arrived}
use Rattle.buffer.specs.declared.course.State.{State}
use Rattle.buffer.specs.declared.course.State.TheVariants.{Empty, Stored, Running, Stopped, Done}
use Rattle.buffer.specs.declared.course.Course.{Course}
use Rattle.machine.specs.declared.step.Core.{Core}
use Rattle.machine.specs.declared.step.News.{News}
use Rattle.machine.specs.declared.step.Stepped.{Stepped}
use Rattle.machine.specs.declared.step.Ticked.{Ticked}
use Rattle.machine.specs.declared.skip.Skipped.{Skipped}
use Rattle.buffer.specs.Course.{in_state}
use Rattle.machine.specs.Step.{Around, around, core, both_of, stepped, applied_of, step_of, next_of}
use Rattle.machine.specs.Run.{ready_of, ticks_of}
use Rattle.machine.specs.Valid.{StateOk, Valid, Ready}
use Rattle.machine.specs.Movement.{distance_of, time_of, since}
use Rattle.machine.specs.Skip.{spare_of, Spare, skipped, passed_by, skipped_in, skipped_of, leapt_of}
use Rattle.machine.proofs.Runs.{next_fine}
use Rattle.machine.proofs.Movement.{away, Kind, a_move, initialising, one_tick, goes_on}

-- how long a movement takes
pub takes : (t : Travel) (d s : ℕ) → d ≡ abs_diff t.goal t.from → s ≡ t.speed → (d * 1000 + (s - 1)) / s ≡ time_of t
unfolding time_of ticks_for distance_of
takes t d s e q = rw (e, q)

-- the ticks that are spare lie before the movement's time
before_its_time : (t : Travel) (most : ℕ) → 0 < spare_of t most → t.ticks + spare_of t most < time_of t
unfolding spare_of
before_its_time t most h = omega arith

pub spare_within : (t : Travel) (most : ℕ) → spare_of t most ≤ most
unfolding spare_of
spare_within t most = omega arith

module _ (t : Travel) (ok : TravelOk t) (most : ℕ) where
  moves : 0 < t.speed
  moves = omega (arith, ok.slow)

  spare_small : t.ticks + spare_of t most ≤ 44000
  spare_small = go (spare_of t most) refl
    where
      go : (n : ℕ) → spare_of t most ≡ n → t.ticks + n ≤ 44000
      go zero e = omega (arith, ok.ticks)
      go (suc n) e =
          let soon = rw e at (before_its_time t most (omega arith)) in
          not_arrived (since t (t.ticks + suc n)) ok.slow ok.from ok.goal (away t moves (t.ticks + suc n) soon)

  pub a_spare : (all r : ℕ) → all ≡ time_of t → r ≡ min (all - (t.ticks + 1)) most → Spare t most r
  unfolding spare_of
  a_spare all r e h = let s = spare_small in record { spare = omega arith; small = omega arith }

  pub later_ok : TravelOk (since t (t.ticks + spare_of t most))
  later_ok = record { from = ok.from; goal = ok.goal; slow = ok.slow; ticks = spare_small }

same_time : (t : Travel) → time_of (later_of t) ≡ time_of t
unfolding time_of
same_time t = refl

-- ticks that come to the same after other ones
next_same : (w : Around) (c d : Core) (v : News) → (step_of w c).next ≡ (step_of w d).next → next_of w (stepped c v) ≡ next_of w (stepped d v)
unfolding next_of
next_same w c d v e = ap (λ (t : Stepped). stepped t.core (both_of v t.news)) e

-- what goes on or ends is the body that is left, whatever it was before
either : (x : Bool) (d e : Body) (a : Activity) (at : ℕ) (b f : Body) (k : Course) →
    applied_of (if x then Ends d else Goes e a) at (core b k) ≡ applied_of (if x then Ends d else Goes e a) at (core f k)
unfolding applied_of
either true d e a at b f k = refl
either false d e a at b f k = refl

module _ (kind : Travel → Activity) (known : Bool → Bool) (is : Kind kind known) (w : Around) where
  -- so many ticks of a movement passed over
  abbrev passed : Travel → ℕ → Core → Core
  passed t n c = core c.body (in_state (Running (kind (since t (t.ticks + n)))) c.course)

  -- a tick puts the plunger where the movement's count says, wherever it stood
  wherever : (c : Core) (t : Travel) (p : ℕ) (x : State) → (step_of w (core (body_at p c.body) (in_state (Running (kind t)) (in_state x c.course)))).next ≡ (step_of w (core c.body (in_state (Running (kind t)) c.course))).next
  unfolding carried
  wherever c t p x =
      one_tick kind known is w (core (body_at p c.body) (in_state (Running (kind t)) (in_state x c.course))) t refl
      ∙ either (eqb (plunger_of (later_of t)) t.goal) (body_known (known c.body.initialised) (body_at (plunger_of (later_of t)) c.body))
      (body_at (plunger_of (later_of t)) c.body) (kind (later_of t)) c.course.at (body_at p c.body) c.body (in_state (Running (kind t)) c.course)
      ∙ sym (one_tick kind known is w (core c.body (in_state (Running (kind t)) c.course)) t refl)

  counted : (t : Travel) (c : Core) (m n : ℕ) → m ≡ n → (step_of w (core c.body (in_state (Running (kind (since t m))) c.course))).next ≡ (step_of w (core c.body (in_state (Running (kind (since t n))) c.course))).next
  counted t c m n e = rw e

  -- the next tick of a movement that doesn't arrive in it
  further : (s : Stepped) (t : Travel) → s.core.course.state ≡ Running (kind t) → 0 < t.speed → t.ticks + 1 < time_of t →
      next_of w s ≡ stepped (core (body_at (plunger_of (later_of t)) s.core.body) (in_state (Running (kind (later_of t))) s.core.course)) s.news
  further s t run moves h = next_fine w s _ (goes_on kind known is w s.core t run (away t moves (t.ticks + 1) h))

  leap : (n : ℕ) (s : Stepped) (t : Travel) → s.core.course.state ≡ Running (kind t) → 0 < t.speed → (0 < n → t.ticks + n < time_of t) →
      ticks_of (suc n) w s ≡ next_of w (stepped (passed t n s.core) s.news)
  unfolding ticks_of
  leap zero s t run moves h =
      let c = s.core in
      next_same w c (passed t 0 c) s.news
      (ap (λ (x : State). (step_of w (core c.body (in_state x c.course))).next) run
      ∙ counted t c t.ticks (t.ticks + 0) (omega arith))
  leap (suc n) s t run moves h =
      let soon = h (omega arith) in
      let c = s.core in
      let p = plunger_of (later_of t) in
      let x = Running (kind (later_of t)) in
      let d = core (body_at p c.body) (in_state x c.course) in
      ap (λ (r : Stepped). ticks_of (suc n) w r) (further s t run moves (omega arith))
      ∙ leap n (stepped d s.news) (later_of t) refl moves (λ l. omega (arith, same_time t))
      ∙ next_same w (passed (later_of t) n d) (passed t (suc n) c) s.news
      (wherever c (since t (t.ticks + 1 + n)) p x
      ∙ counted t c (t.ticks + 1 + n) (t.ticks + suc n) (omega arith))

  busy_on : (j n : ℕ) (s : Stepped) (t : Travel) → s.core.course.state ≡ Running (kind t) → 0 < t.speed → (0 < n → t.ticks + n < time_of t) → j ≤ n →
      ready_of (ticks_of j w s).core ≡ false
  unfolding ticks_of
  busy_on zero n s t run moves h l = rw run
  busy_on (suc j) zero s t run moves h l = absurd (omega arith)
  busy_on (suc j) (suc n) s t run moves h l =
      let soon = h (omega arith) in
      let d = stepped (core (body_at (plunger_of (later_of t)) s.core.body) (in_state (Running (kind (later_of t))) s.core.course)) s.news in
      ap (λ (r : Stepped). ready_of (ticks_of j w r).core) (further s t run moves (omega arith))
      ∙ busy_on j n d (later_of t) refl moves (λ k. omega (arith, same_time t)) (omega arith)

-- a leap: so many ticks, and not ready before the last of them
pub record Leaps (w : Around) (s : Stepped) (most : ℕ) (r : Ticked) : Type 0 where
  pub some : 0 < r.used
  pub within : r.used ≤ most + 1
  pub here : r.stepped ≡ ticks_of r.used w s
  pub busy : (j : ℕ) → j < r.used → ready_of (ticks_of j w s).core ≡ false

abbrev leapt : Around → News → Skipped → Ticked
leapt w v k = record { stepped = next_of w (stepped k.core v); used = k.used + 1 }

module _ (w : Around) (s : Stepped) (most : ℕ) where
  by_moving : (kind : Travel → Activity) (known : Bool → Bool) (is : Kind kind known) (t : Travel) → TravelOk t → s.core.course.state ≡ Running (kind t) →
      Leaps w s most (leapt w s.news (passed_by (kind (since t (t.ticks + spare_of t most))) (spare_of t most) s.core))
  by_moving kind known is t ok run =
      let n = spare_of t most in
      let few = spare_within t most in
      let fast = moves t ok most in
      record {
        some = omega arith;
        within = omega arith;
        here = rw (add-one n) (sym (leap kind known is w n s t run fast (before_its_time t most)));
        busy = λ j l. busy_on kind known is w j n s t run fast (before_its_time t most) (omega arith);
      }

  by_one : ready_of s.core ≡ false → Leaps w s most (leapt w s.news (skipped s.core 0))
  unfolding ticks_of
  by_one r = record { some = omega arith; within = omega arith; here = refl; busy = first }
    where
      first : (j : ℕ) → j < 1 → ready_of (ticks_of j w s).core ≡ false
      first zero l = r
      first (suc j) l = absurd (omega arith)

  pub leaps : Valid s.core → ready_of s.core ≡ false → Leaps w s most (leapt_of most w s)
  unfolding leapt_of skipped_of skipped_in
  leaps ok r = go s.core.course.state refl ok.course.state
    where
      go : (x : State) → s.core.course.state ≡ x → StateOk x → Leaps w s most (leapt w s.news (skipped_in x most s.core))
      go (Running (Initialising t)) e o = by_moving Initialising (λ i. _) initialising t o e
      go (Running (Moving t)) e o = by_moving Moving (λ i. i) a_move t o e
      go (Running (Delaying k)) e o = by_one r
      go (Running (Approaching t z)) e o = by_one r
      go (Running (Searching f)) e o = by_one r
      go (Running Ejecting) e o = by_one r
      go (Running Between) e o = by_one r
      go Empty e o = by_one r
      go Stored e o = by_one r
      go Stopped e o = by_one r
      go Done e o = by_one r

-- what is passed over leaves a valid core, and is few ticks
pub record Skips (r : Skipped) : Type 0 where
  pub valid : Valid r.core
  pub few : r.used ≤ 44000

module _ (c : Core) (ok : Valid c) (most : ℕ) where
  passing : (kind : Travel → Activity) (t : Travel) → TravelOk t → (TravelOk (since t (t.ticks + spare_of t most)) → ActivityOk (kind (since t (t.ticks + spare_of t most)))) →
      Skips (passed_by (kind (since t (t.ticks + spare_of t most))) (spare_of t most) c)
  passing kind t o f = record {
    valid = record { body = ok.body; course = record { len = ok.course.len; state = f (later_ok t o most); error = ok.course.error } };
    few = omega (arith, spare_small t o most);
  }

  pub skips : Skips (skipped_of most c)
  unfolding skipped_of skipped_in
  skips = go c.course.state ok.course.state
    where
      stays : Skips (skipped c 0)
      stays = record { valid = ok; few = omega arith }

      go : (s : State) → StateOk s → Skips (skipped_in s most c)
      go (Running (Initialising t)) o = passing Initialising t o (λ h. h)
      go (Running (Moving t)) o = passing Moving t o (λ h. h)
      go (Running (Delaying k)) o = stays
      go (Running (Approaching t z)) o = stays
      go (Running (Searching f)) o = stays
      go (Running Ejecting) o = stays
      go (Running Between) o = stays
      go Empty o = stays
      go Stored o = stays
      go Stopped o = stays
      go Done o = stays

-- by what is in progress
module _ (a : Activity) (most : ℕ) (c : Core) where
  pub moving_ok : (t : Travel) → a ≡ Moving t → ActivityOk a → TravelOk t
  moving_ok t e o = rw e at o

  pub homing_ok : (t : Travel) → a ≡ Initialising t → ActivityOk a → TravelOk t
  homing_ok t e o = rw e at o

  pub moving_skips : (t u : Travel) (n : ℕ) (r : Skipped) → a ≡ Moving t → Spare t most n → u ≡ since t (t.ticks + n) → r ≡ passed_by (Moving u) n c → r ≡ skipped_in (Running a) most c
  unfolding skipped_in
  moving_skips t u n r e s l p = p ∙ rw (l, e, s.spare)

  pub homing_skips : (t u : Travel) (n : ℕ) (r : Skipped) → a ≡ Initialising t → Spare t most n → u ≡ since t (t.ticks + n) → r ≡ passed_by (Initialising u) n c → r ≡ skipped_in (Running a) most c
  unfolding skipped_in
  homing_skips t u n r e s l p = p ∙ rw (l, e, s.spare)

pub case : (s j : State) (most : ℕ) (c : Core) (r : Skipped) → s ≡ j → r ≡ skipped_in j most c → r ≡ skipped_in s most c
case s j most c r e q = rw e q

pub activity_case : (a b : Activity) (most : ℕ) (c : Core) (r : Skipped) → a ≡ b → r ≡ skipped_in (Running b) most c → r ≡ skipped_in (Running a) most c
activity_case a b most c r e q = rw e q

pub running_ok : (a : Activity) (c : Core) → c.course.state ≡ Running a → Valid c → ActivityOk a
running_ok a c e ok = rw e at ok.course.state

-- the leap
module _ (most : ℕ) (text : List ℕ) (s : Stepped) (k : Skipped) (e : k ≡ skipped_of most s.core) where
  pub ready_to_step : Ready s.core text → Ready k.core text
  ready_to_step r = record { valid = rw e (skips s.core r.valid most).valid; long = r.long }

  pub few_ticks : Ready s.core text → Fits w32 (k.used + 1)
  few_ticks r = let few : k.used ≤ 44000 = rw e (skips s.core r.valid most).few in omega arith

  pub leap_made : (x : Sense) (d : Stepped) → d ≡ next_of (around text x) (stepped k.core s.news) → record { stepped = d; used = k.used + 1 } ≡ leapt_of most (around text x) s
  unfolding leapt_of
  leap_made x d q = rw (q, e)
