-- Theorems of 02, W-203: the host is asked exactly in a tick that takes an E and doesn't refuse it; without an E in the text never;
-- and what a tip is changes nothing but itself while no E is taken or in progress.
use mathlib.Core.Path.{◌≡◌, refl, sym, ap, ◌∙◌}
use mathlib.Core.Logic.{◌⊎◌, inl, inr}
use mathlib.Core.Bool.{Bool, true, false, ◌||◌, true≢false, false≢true}
use mathlib.Core.List.{List, [], ◌∷◌}
use Prim.Native.Nat.{ℕ, zero, suc, ◌<◌}
use native.Mathlib.Omega.{arith}
use lib.Dec.{eqb, leb}
use lib.ListN.{take, drop}
use Rattle.std.specs.Prelude.{if◌then◌else◌, Err, None, Ok, Option, Result, Some}
use Rattle.command.specs.Found.{Found}
use Rattle.buffer.specs.declared.course.Course.{Course}
use Rattle.basics.specs.Bytes.{every}
use Rattle.basics.specs.Exactly.{Exactly}
use Rattle.basics.proofs.Choice.{by}
use Rattle.basics.proofs.Digits.{and_both}
use Rattle.settings.specs.declared.Volume.{Volume}
use Rattle.settings.specs.Units.{goal_of}
use Rattle.settings.specs.Units.{ticks_of as ticksOfMs}
use Rattle.command.specs.declared.Way.{Way}
use Rattle.command.specs.declared.refusal.Refusal.{Refusal}
use Rattle.command.specs.declared.Command.{Command}
use Rattle.command.specs.declared.Command.TheVariants as C
use Rattle.command.specs.Command.{found_in, command_at}
use Rattle.command.proofs.Letters.{an_eject_stands_at_an_e}
use Rattle.motion.specs.declared.Sense.{Sense}
use Rattle.motion.specs.declared.Body.{Body}
use Rattle.motion.specs.declared.Activity.{Activity}
use Rattle.motion.specs.declared.Activity.TheVariants.{Initialising, Moving, Delaying, Approaching, Searching, Ejecting, Between}
use Rattle.motion.specs.declared.Effect.{Effect}
use Rattle.motion.specs.declared.Effect.TheVariants.{Goes, Ends, Fails, Asks, Opens, Closes}
use Rattle.motion.specs.Events.{Turn}
use Rattle.motion.specs.Bodies.{later_of, plunger_of}
use Rattle.level.specs.Level.{pressure_of}
use Rattle.motion.specs.Detect.{felt_in, detect_of, searched_of}
use Rattle.motion.specs.Motion.{home_of, set_out, aimed, delay_of, effect_of, carried, waited_of, onward_of}
use Rattle.motion.proofs.Moves.{move_by_lem, eject_by_lem, ejected_by, detect_by_lem, approached_by, found_by}
use Rattle.buffer.specs.declared.course.State.{State}
use Rattle.buffer.specs.declared.course.State.TheVariants.{Empty, Stored, Running, Stopped, Done}
use Rattle.buffer.specs.Course.{reached, opened_of, closed_of}
use Rattle.machine.specs.declared.step.Core.{Core}
use Rattle.machine.specs.declared.step.Stepped.{Stepped}
use Rattle.machine.specs.Step.{Around, around, both_of, stepped, fine, applies, went_of, applied_of, taken_of, carried_on, running_of, active_of, step_of, next_of}
use Rattle.machine.specs.Run.{ready_of, ticks_of, used_of}
use Rattle.machine.specs.OnCourse.{Takes, Failing}
use Rattle.machine.specs.Tips.{Ejects, AskedIn, AtEject, next_is_one, in_progress, other_than_e, NoE}
use Rattle.machine.proofs.Failures.{effect_fails, must_fail, step_takes}
use Rattle.machine.proofs.Ways.{step_by}

-- which effect asks
abbrev asks_of : Effect → Bool
asks_of (Goes b a) = false
asks_of (Ends b) = false
asks_of (Fails why b) = false
asks_of Asks = true
asks_of Opens = false
asks_of (Closes n) = false

abbrev Unasking : Effect → Type 0
Unasking e = asks_of e ≡ false

went_asks_not : (g : Result Course Refusal) (c : Core) → (went_of g c.body c.course).news.eject ≡ false
went_asks_not (Ok on) c = refl
went_asks_not (Err why) c = refl

applied_asks : (e : Effect) (next : ℕ) (c : Core) → (applied_of e next c).news.eject ≡ asks_of e
unfolding applied_of
applied_asks (Goes b a) next c = refl
applied_asks (Ends b) next c = refl
applied_asks (Fails why b) next c = refl
applied_asks Asks next c = refl
applied_asks Opens next c = went_asks_not (opened_of next c.course) c
applied_asks (Closes n) next c = went_asks_not (closed_of n next c.course) c

onward_asks_not : (x : Sense) (a : Activity) (b : Body) → Unasking (onward_of x a b).next
unfolding onward_of carried waited_of searched_of
onward_asks_not x (Initialising t) b = by Unasking (eqb (plunger_of (later_of t)) t.goal) (λ _. refl) (λ _. refl)
onward_asks_not x (Moving t) b = by Unasking (eqb (plunger_of (later_of t)) t.goal) (λ _. refl) (λ _. refl)
onward_asks_not x (Delaying k) b = by Unasking (leb k 1) (λ _. refl) (λ _. refl)
onward_asks_not x (Approaching t z) b = approached_by (λ (e : Turn Effect). Unasking e.next) (felt_in x) (later_of t) z _ refl refl refl
onward_asks_not x (Searching f) b = found_by (λ (e : Turn Effect). Unasking e.next) _ refl (λ why. refl) (λ s. refl) _
onward_asks_not x Ejecting b = ejected_by Unasking x b refl refl
onward_asks_not x Between b = refl

aimed_asks_not : (g : Option ℕ) (way : Way) (v : Volume) (b : Body) → Unasking (aimed g way v b).next
unfolding aimed set_out
aimed_asks_not (Some exact) way v b = by Unasking (eqb b.plunger (goal_of exact)) (λ _. refl) (λ _. refl)
aimed_asks_not None way v b = refl

-- a command that asks is an E
abbrev AsksAs : Command → Type 0
AsksAs k = (bare : Bool) × (k ≡ C.Eject bare)

effect_asks : (x : Sense) (k : Command) (b : Body) → asks_of (effect_of x k b).next ≡ true → AsksAs k
unfolding effect_of home_of delay_of
effect_asks x (C.Initialise n) b e = absurd (false≢true (sym (by Unasking (eqb b.plunger 0) (λ _. refl) (λ _. refl)) ∙ e))
effect_asks x (C.Move way v) b e =
    absurd (false≢true (sym (move_by_lem (λ (t : Turn Effect). Unasking t.next) way v b (λ why. refl) (aimed_asks_not _ way v b)) ∙ e))
effect_asks x (C.Speed pace n) b e = absurd (false≢true e)
effect_asks x (C.Slopes up down) b e = absurd (false≢true e)
effect_asks x (C.Backlash n) b e = absurd (false≢true e)
effect_asks x (C.Compensate n down) b e = absurd (false≢true e)
effect_asks x (C.Delay ms) b e = absurd (false≢true (sym (by Unasking (eqb (ticksOfMs ms) 0) (λ _. refl) (λ _. refl)) ∙ e))
effect_asks x (C.Set a n) b e = absurd (false≢true e)
effect_asks x (C.Detect here) b e = absurd (false≢true (sym (detect_by_lem (λ (t : Turn Effect). Unasking t.next) b (λ why. refl) (λ z. refl) (λ z. refl) (λ z. refl) here x) ∙ e))
effect_asks x (C.Eject bare) b e = (bare, refl)
effect_asks x C.Open b e = absurd (false≢true e)
effect_asks x (C.Close n) b e = absurd (false≢true e)

-- E asks, or fails for a cause
asks_or_fails : (x : Sense) (bare : Bool) (b : Body) → ((effect_of x (C.Eject bare) b).next ≡ Asks) ⊎ ((why : Refusal) × ((effect_of x (C.Eject bare) b).next ≡ Fails why b))
unfolding effect_of
asks_or_fails x bare b = eject_by_lem (λ (e : Effect). (e ≡ Asks) ⊎ ((why : Refusal) × (e ≡ Fails why b))) bare x b (λ why. inr (why, refl)) (inl refl)

module _ (text : List ℕ) (x : Sense) (c : Core) where
  abbrev asks_now : Bool
  asks_now = (step_of (around text x) c).next.news.eject

  granted_by : (bare : Bool) → asks_of (effect_of x (C.Eject bare) c.body).next ≡ true → (why : Refusal) → Failing x (C.Eject bare) c.body why → ⊥
  granted_by bare e why f = true≢false (sym e ∙ ap asks_of (must_fail x (C.Eject bare) c.body why f))

  taken_ejects : (f : Found) → command_at (take c.course.len text) c.course.at ≡ f → c.course.state ≡ Running Between → (taken_of x f c).next.news.eject ≡ true → Ejects text x c
  unfolding taken_of
  taken_ejects (Ok (Some (k, next))) found between h =
      let e = sym (applied_asks (effect_of x k c.body).next next c) ∙ h in
      let (bare, is) = effect_asks x k c.body e in
      let takes : Takes text c k = record { next = next; between = between; found = found } in
      record { bare = bare; takes = rw is at takes; granted = granted_by bare (rw is at e) }
  taken_ejects (Err m) found between h = absurd (false≢true h)
  taken_ejects (Ok None) found between h = absurd (false≢true h)

  carried_asks_not : (a : Activity) → (carried_on x a c).next.news.eject ≡ true → Ejects text x c
  unfolding carried_on
  carried_asks_not a h = absurd (false≢true (sym (applied_asks (onward_of x a c.body).next c.course.at c ∙ onward_asks_not x a c.body) ∙ h))

  active_ejects : (s : State) → c.course.state ≡ s → (active_of s (around text x) c).next.news.eject ≡ true → Ejects text x c
  unfolding active_of running_of
  active_ejects (Running (Initialising t)) s h = carried_asks_not (Initialising t) h
  active_ejects (Running (Moving t)) s h = carried_asks_not (Moving t) h
  active_ejects (Running (Delaying k)) s h = carried_asks_not (Delaying k) h
  active_ejects (Running (Approaching t z)) s h = carried_asks_not (Approaching t z) h
  active_ejects (Running (Searching f)) s h = carried_asks_not (Searching f) h
  active_ejects (Running Ejecting) s h = carried_asks_not Ejecting h
  active_ejects (Running Between) s h = taken_ejects (command_at (take c.course.len text) c.course.at) refl s h
  active_ejects Empty s h = absurd (false≢true h)
  active_ejects Stored s h = absurd (false≢true h)
  active_ejects Stopped s h = absurd (false≢true h)
  active_ejects Done s h = absurd (false≢true h)

  only_asked : asks_now ≡ true → Ejects text x c
  unfolding step_of
  only_asked h = active_ejects c.course.state refl h

  takes_asks : (bare : Bool) (t : Takes text c (C.Eject bare)) → (effect_of x (C.Eject bare) c.body).next ≡ Asks → asks_now ≡ true
  takes_asks bare t e = ap (λ (s : Stepped). s.news.eject) (step_takes text x c (C.Eject bare) t) ∙ applied_asks (effect_of x (C.Eject bare) c.body).next t.next c ∙ ap asks_of e

  always_asked : Ejects text x c → asks_now ≡ true
  always_asked j = go (asks_or_fails x j.bare c.body)
    where
      go : ((effect_of x (C.Eject j.bare) c.body).next ≡ Asks) ⊎ ((why : Refusal) × ((effect_of x (C.Eject j.bare) c.body).next ≡ Fails why c.body)) → asks_now ≡ true
      go (inl e) = takes_asks j.bare j.takes e
      go (inr (why, e)) = absurd (j.granted why (effect_fails x (C.Eject j.bare) c.body why c.body e).cause)

  -- a tick asks at most once; it asks exactly where it takes an E and doesn't refuse it
  pub the_host_is_asked_for_each_E_taken_and_not_refused : Exactly (asks_now ≡ true) (Ejects text x c)
  the_host_is_asked_for_each_E_taken_and_not_refused = record { only = only_asked; always = always_asked }

-- many ticks ask exactly where one of them does
asked_stays : (n : ℕ) (w : Around) (s : Stepped) → s.news.eject ≡ true → (ticks_of n w s).news.eject ≡ true
unfolding ticks_of next_of
asked_stays zero w s h = h
asked_stays (suc n) w s h = asked_stays n w (next_of w s) (rw h)

either : (x y : Bool) → (x || y) ≡ true → (x ≡ true) ⊎ (y ≡ true)
either true y h = inl refl
either false y h = inr h

or_second : (x y : Bool) → y ≡ true → (x || y) ≡ true
or_second true y h = refl
or_second false y h = h

only_in : (n : ℕ) (w : Around) (s : Stepped) → (ticks_of n w s).news.eject ≡ true → (s.news.eject ≡ true) ⊎ AskedIn n w s
unfolding ticks_of next_of
only_in zero w s h = inl h
only_in (suc n) w s h = go (only_in n w (next_of w s) h)
  where
    first : (s.news.eject ≡ true) ⊎ ((step_of w s.core).next.news.eject ≡ true) → (s.news.eject ≡ true) ⊎ AskedIn (suc n) w s
    first (inl e) = inl e
    first (inr e) = inr (record { tick = 0; before = omega arith; asks = e })

    go : ((next_of w s).news.eject ≡ true) ⊎ AskedIn n w (next_of w s) → (s.news.eject ≡ true) ⊎ AskedIn (suc n) w s
    go (inl e) = first (either s.news.eject _ e)
    go (inr a) = inr (record { tick = suc a.tick; before = omega (arith, a.before); asks = a.asks })

always_in : (n k : ℕ) (w : Around) (s : Stepped) → k < n → (step_of w (ticks_of k w s).core).next.news.eject ≡ true → (ticks_of n w s).news.eject ≡ true
unfolding ticks_of next_of
always_in zero k w s h e = absurd (omega arith)
always_in (suc n) zero w s h e = asked_stays n w (next_of w s) (or_second s.news.eject _ e)
always_in (suc n) (suc k) w s h e = always_in n k w (next_of w s) (omega arith) e

module _ (n : ℕ) (w : Around) (c : Core) where
  pub ticks_ask_where_one_does : Exactly ((ticks_of n w (fine c)).news.eject ≡ true) (AskedIn n w (fine c))
  ticks_ask_where_one_does = record { only = λ h. go (only_in n w (fine c) h); always = λ a. always_in n a.tick w (fine c) a.before a.asks }
    where
      go : (false ≡ true) ⊎ AskedIn n w (fine c) → AskedIn n w (fine c)
      go (inl e) = absurd (false≢true e)
      go (inr a) = a

-- a text without an E
no_e_behind : (n : ℕ) (t : List ℕ) → NoE t → NoE (drop n t)
unfolding every drop
no_e_behind zero t h = h
no_e_behind (suc n) [] h = h
no_e_behind (suc n) (b ∷ t) h = no_e_behind n t (and_both (other_than_e b) (every other_than_e t) h).1

no_eject_found : (at : ℕ) (t : List ℕ) (bare : Bool) (next : ℕ) → NoE t → found_in at t ≡ Ok (Some (C.Eject bare, next)) → ⊥
unfolding every found_in
no_eject_found at [] bare next h e = let z : ◌≡◌ {A = ℕ} 0 1 = cc in omega arith
no_eject_found at (b ∷ t) bare next h e =
    let is = an_eject_stands_at_an_e at b t bare next e in
    false≢true (rw is at (and_both (other_than_e b) (every other_than_e t) h).0)

module _ (text : List ℕ) (x : Sense) where
  not_asked : (c : Core) → NoE (take c.course.len text) → (step_of (around text x) c).next.news.eject ≡ false
  unfolding command_at
  not_asked c none = go (step_of (around text x) c).next.news.eject refl
    where
      go : (b : Bool) → (step_of (around text x) c).next.news.eject ≡ b → b ≡ false
      go false e = refl
      go true e =
          let j = only_asked text x c e in
          absurd (no_eject_found c.course.at (drop c.course.at (take c.course.len text)) j.bare j.takes.next (no_e_behind c.course.at (take c.course.len text) none) j.takes.found)

  -- a tick leaves the text as long as it was, or erases it
  none_left : (c : Core) → NoE (take c.course.len text) → NoE (take (step_of (around text x) c).next.core.course.len text)
  unfolding reached every
  none_left c none =
      step_by (λ (s : Stepped). NoE (take s.core.course.len text)) c
      (record { rests = none; goes = λ b a at. none; ends = λ b at l. none; breaks = λ why b. refl; asks = λ at. none })
      (around text x)

  pub without_an_E_no_tick_asks : (n : ℕ) (s : Stepped) → s.news.eject ≡ false → NoE (take s.core.course.len text) → (ticks_of n (around text x) s).news.eject ≡ false
  unfolding ticks_of next_of
  without_an_E_no_tick_asks zero s h none = h
  without_an_E_no_tick_asks (suc n) s h none = without_an_E_no_tick_asks n (next_of (around text x) s) (rw h (not_asked s.core none)) (none_left s.core none)

-- another tip
module _ (text : List ℕ) (x y : Sense) (pressed : x.reading ≡ y.reading) where
  felt_same : felt_in x ≡ felt_in y
  felt_same = ap pressure_of pressed

  effect_same : (k : Command) (b : Body) → ((bare : Bool) → k ≡ C.Eject bare → ⊥) → effect_of x k b ≡ effect_of y k b
  unfolding effect_of detect_of
  effect_same (C.Initialise n) b apart = refl
  effect_same (C.Move way v) b apart = refl
  effect_same (C.Speed pace n) b apart = refl
  effect_same (C.Slopes up down) b apart = refl
  effect_same (C.Backlash n) b apart = refl
  effect_same (C.Compensate n down) b apart = refl
  effect_same (C.Delay ms) b apart = refl
  effect_same (C.Set a n) b apart = refl
  effect_same (C.Detect here) b apart = rw felt_same
  effect_same (C.Eject bare) b apart = absurd (apart bare refl)
  effect_same C.Open b apart = refl
  effect_same (C.Close n) b apart = refl

  module _ (c : Core) (apart : AtEject text c → ⊥) where
    taken_same : (f : Found) → command_at (take c.course.len text) c.course.at ≡ f → c.course.state ≡ Running Between → taken_of x f c ≡ taken_of y f c
    unfolding taken_of
    taken_same (Ok (Some (k, next))) found between =
        ap (λ (t : Turn Effect). applies t next c)
        (effect_same k c.body (λ bare is. let takes : Takes text c k = record { next = next; between = between; found = found } in apart (next_is_one bare (rw is at takes))))
    taken_same (Err m) found between = refl
    taken_same (Ok None) found between = refl

    active_same : (s : State) → c.course.state ≡ s → active_of s (around text x) c ≡ active_of s (around text y) c
    unfolding active_of running_of carried_on onward_of
    active_same (Running (Initialising t)) s = refl
    active_same (Running (Moving t)) s = refl
    active_same (Running (Delaying k)) s = refl
    active_same (Running (Approaching t z)) s = rw felt_same
    active_same (Running (Searching f)) s = rw felt_same
    active_same (Running Ejecting) s = absurd (apart (in_progress s))
    active_same (Running Between) s = taken_same (command_at (take c.course.len text) c.course.at) refl s
    active_same Empty s = refl
    active_same Stored s = refl
    active_same Stopped s = refl
    active_same Done s = refl

    pub another_tip_changes_no_tick : step_of (around text x) c ≡ step_of (around text y) c
    unfolding step_of
    another_tip_changes_no_tick = active_same c.course.state refl

  pub another_tip_changes_no_ticks : (n : ℕ) (s : Stepped) → ((j : ℕ) → j < n → AtEject text (ticks_of j (around text x) s).core → ⊥) → ticks_of n (around text x) s ≡ ticks_of n (around text y) s
  unfolding ticks_of next_of
  another_tip_changes_no_ticks zero s apart = refl
  another_tip_changes_no_ticks (suc n) s apart =
      another_tip_changes_no_ticks n (next_of (around text x) s) (λ j h. apart (suc j) (omega arith))
      ∙ ap (λ (t : Turn Stepped). ticks_of n (around text y) (stepped t.next.core (both_of s.news t.next.news))) (another_tip_changes_no_tick s.core (apart 0 (omega arith)))

  -- nor how many of them a run uses
  pub another_tip_changes_no_count : (n : ℕ) (s : Stepped) → ((j : ℕ) → j < n → AtEject text (ticks_of j (around text x) s).core → ⊥) → used_of n (around text x) s ≡ used_of n (around text y) s
  unfolding used_of ticks_of next_of
  another_tip_changes_no_count zero s apart = refl
  another_tip_changes_no_count (suc n) s apart =
      ap (λ (k : ℕ). if ready_of s.core then zero else suc k)
      (another_tip_changes_no_count n (next_of (around text x) s) (λ j h. apart (suc j) (omega arith))
      ∙ ap (λ (t : Turn Stepped). used_of n (around text y) (stepped t.next.core (both_of s.news t.next.news))) (another_tip_changes_no_tick s.core (apart 0 (omega arith))))
