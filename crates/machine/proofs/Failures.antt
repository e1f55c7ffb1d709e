-- Theorems: what on course means for a run: where it is in its text, that it always meets a command, and that it fails for each cause, and for no other.
use mathlib.Core.Path.{◌≡◌, refl, sym, ap, subst, ◌∙◌}
use mathlib.Core.Bool.{Bool, true, false}
use mathlib.Core.List.{List}
use Prim.Native.Nat.{ℕ, ◌<◌}
use native.Mathlib.Omega.{arith}
use borrow.Author.Tests.{ltb-true, ltb-false, lt-ltb, le-ltb, ne_eqb}
use lib.Dec.{ltb, leb, eqb}
use lib.ListN.{take}
use Rattle.std.specs.Prelude.{if◌then◌else◌, Err, None, Ok, Option, Result, Some}
use Rattle.command.specs.Found.{Found}
use Rattle.basics.specs.Exactly.{Exactly}
use Rattle.basics.proofs.Choice.{by}
use Rattle.settings.specs.declared.Volume.{Volume}
use Rattle.settings.specs.Units.{millionths_of, goal_of, ticks_of}
use Rattle.level.specs.declared.Search.{Search}
use Rattle.level.specs.declared.Finding.{Finding}
use Rattle.level.specs.declared.Finding.TheVariants as Found
use Rattle.level.specs.Level as Level
use Rattle.level.specs.Level.{plunger_in, finding_of, sought_of}
use Rattle.level.proofs.Ends.{found_shows, too_much_by}
use Rattle.motion.specs.declared.Sense.{Sense}
use Rattle.motion.specs.declared.Body.{Body}
use Rattle.motion.specs.declared.Travel.{Travel}
use Rattle.motion.specs.declared.Activity.{Activity}
use Rattle.motion.specs.declared.Activity.TheVariants.{Initialising, Moving, Delaying, Approaching, Searching, Ejecting, Between}
use Rattle.motion.specs.declared.Effect.{Effect}
use Rattle.motion.specs.declared.Effect.TheVariants.{Goes, Ends, Fails, Asks, Opens, Closes}
use Rattle.motion.specs.Events.{Turn}
use Rattle.motion.specs.Bodies.{later_of, plunger_of, body_at}
use Rattle.motion.specs.Detect.{felt_in, no_way_down, approach_of, zeroed_of, detect_of, approached_of, found_as, searched_of}
use Rattle.motion.specs.Motion.{between, home_of, target_of, set_out, aimed, move_of, delay_of, eject_of, effect_of, carried, waited_of, ejected_of, onward_of}
use Rattle.command.specs.Verdict.{Verdict}
use Rattle.command.specs.declared.refusal.Refusal.{Refusal}
use Rattle.command.specs.declared.refusal.Refusal.TheVariants as R
use Rattle.command.specs.declared.Way.{Way}
use Rattle.command.specs.declared.Command.{Command}
use Rattle.command.specs.declared.Command.TheVariants as C
use Rattle.command.specs.Command.{command_at}
use Rattle.text.specs.Text.{reads, read_of}
use Rattle.text.specs.Loops.{Part, opens, closes, plain, part_of, loops_ok}
use Rattle.text.specs.Inside.{Before}
use Rattle.buffer.specs.declared.course.State.{State}
use Rattle.buffer.specs.declared.course.State.TheVariants.{Empty, Stored, Running, Stopped, Done}
use Rattle.buffer.specs.declared.course.Loops.{Loops}
use Rattle.buffer.specs.declared.course.Course.{Course}
use Rattle.buffer.specs.Course.{mark, pushed, pass_of, reached, gone_on, opened_of, closed_of}
use Rattle.machine.specs.declared.step.Core.{Core}
use Rattle.machine.specs.declared.step.Stepped.{Stepped}
use Rattle.machine.specs.Step.{Around, around, fails, went_of, applied_of, taken_of, carried_on, running_of, active_of, step_of}
use Rattle.text.proofs.Trees.{every_tree_is_accepted}
use Rattle.text.proofs.Inside.{the_commands_before_a_place_read}
use Rattle.machine.specs.History.{Call, after}
use Rattle.machine.proofs.Looping.{closed_by_lem}
use Rattle.machine.proofs.Ways.{step_by}
use Rattle.machine.proofs.OnWay.{ahead_of, way_room, way_ends, way_deep, way_start}
use Rattle.machine.specs.OnCourse.{Meets, Failing, uninitialised, steep, outside, tipless, unready, unknown, no_way, no_zero, Breaking, still_there, halted_move, too_much, no_liquid, Takes, Cause, taken, judged, Fault, OnWay, Ahead, CourseOn, AllSent, left_by, left_in}
use Rattle.machine.proofs.OnCourse.{Fits, effect_fits, onward_fits, every_device_is_on_course}

-- what on course means: the text reads, its loops are right, and the commands before the run's place leave as many open as the run holds
pub a_text_on_its_way_is_accepted : (t : List ℕ) (at : ℕ) (l : Loops) → (w : OnWay t at l) → (read_of t ≡ reads w.may.steps) × (loops_ok w.may.steps ≡ true)
a_text_on_its_way_is_accepted t at l w = (w.may.reading, every_tree_is_accepted w.may.steps w.may.tree)

pub the_check_counts_as_the_run_does : (t : List ℕ) (at : ℕ) (l : Loops) → OnWay t at l → Before t at l.depth
the_check_counts_as_the_run_does t at l w =
    subst (Before t at) (sym w.deep) (the_commands_before_a_place_read t w.may at w.rounds w.place)

-- no tick meets a command that doesn't read, nor a fifth loop, nor a G without its g
module _ (text : List ℕ) (c : Course) where
  pub a_run_meets_a_command : c.state ≡ Running Between → CourseOn text c → Meets text c
  a_run_meets_a_command e o =
      let t = take c.len text in
      let a : Ahead t c.at c.loops = rw e at o in
      let n = ahead_of t c.at c.loops a in
      record {
        command = n.command;
        next = n.next;
        found = n.found;
        shallow = way_room t c.at c.loops a.way n;
        back =
            λ k is.
            let r = way_ends t c.at c.loops a.way n k is in
            record {
              may = a.way.may;
              round = r.round;
              outer = r.outer;
              of_the_tree = r.of_the_tree;
              closes_it = r.closes_it;
              passes = r.passes;
              deep = way_deep t c.at c.loops a.way n k is;
              behind_its_g = way_start t c.at c.loops a.way n k is;
            };
      }

-- how a command fails
never_goes : {A : Type 0} (b d : Body) (a : Activity) (why : Refusal) → Goes b a ≡ Fails why d → A
never_goes b d a why e = let z : ◌≡◌ {A = ℕ} 0 1 = cc in absurd (omega arith)

never_ends : {A : Type 0} (b d : Body) (why : Refusal) → Ends b ≡ Fails why d → A
never_ends b d why e = let z : ◌≡◌ {A = ℕ} 0 1 = cc in absurd (omega arith)

-- a choice between going on and having ended fails never
never : {A : Type 0} (x : Bool) (b c d : Body) (a : Activity) (why : Refusal) → (if x then Ends b else Goes c a) ≡ Fails why d → A
never true b c d a why e = never_ends b d why e
never false b c d a why e = never_goes c d a why e

-- nor does one between two ways of going on
never_either : {A : Type 0} (x : Bool) (b c d : Body) (a k : Activity) (why : Refusal) → (if x then Goes b a else Goes c k) ≡ Fails why d → A
never_either true b c d a k why e = never_goes b d a why e
never_either false b c d a k why e = never_goes c d k why e

-- with the body it found
pub record FailsSo (x : Sense) (k : Command) (b : Body) (why : Refusal) (d : Body) : Type 0 where
  pub cause : Failing x k b why
  pub body : d ≡ b

aimed_fails : (g : Option ℕ) (way : Way) (v : Volume) (b : Body) (why : Refusal) (d : Body) → (aimed g way v b).next ≡ Fails why d → (why ≡ R.Outside) × (d ≡ b) × (g ≡ None)
unfolding aimed set_out
aimed_fails (Some exact) way v b why d e = never (eqb b.plunger (goal_of exact)) _ _ d _ why e
aimed_fails None way v b why d e = (cc, cc, refl)

never_asks : {A : Type 0} (d : Body) (why : Refusal) → Asks ≡ Fails why d → A
never_asks d why e = let z : ◌≡◌ {A = ℕ} 0 1 = cc in absurd (omega arith)

zeroed_fails :
    (x : Sense) (here : Bool) (b : Body) (why : Refusal) (d : Body) → b.initialised ≡ true → no_way_down b.settings.detection ≡ false →
    (p : Option ℕ) → felt_in x ≡ p → (zeroed_of here p b).next ≡ Fails why d → FailsSo x (C.Detect here) b why d
unfolding zeroed_of approach_of
zeroed_fails x here b why d i n None f e = let is : why ≡ R.TooMuchPressure = cc in let same : d ≡ b = cc in rw is (record { cause = no_zero here refl i n f; body = same })
zeroed_fails x true b why d i n (Some z) f e = never_goes _ d _ why e
zeroed_fails x false b why d i n (Some z) f e = never_either (eqb b.plunger b.settings.detection.place) _ _ d _ _ why e

pub effect_fails : (x : Sense) (k : Command) (b : Body) (why : Refusal) (d : Body) → (effect_of x k b).next ≡ Fails why d → FailsSo x k b why d
unfolding effect_of home_of move_of delay_of eject_of detect_of
effect_fails x (C.Initialise n) b why d = λ e. never (eqb b.plunger 0) _ _ d _ why e
effect_fails x (C.Move way v) b why d =
    by (λ (e : Turn Effect). e.next ≡ Fails why d → FailsSo x (C.Move way v) b why d) b.initialised
    (λ h.
    by (λ (e : Turn Effect). e.next ≡ Fails why d → FailsSo x (C.Move way v) b why d) (ltb b.settings.top b.settings.start)
    (λ s e. let is : why ≡ R.StartAboveTop = cc in let same : d ≡ b = cc in rw is (record { cause = steep way v refl h (ltb-true b.settings.top b.settings.start s); body = same }))
    (λ s e.
    let (is, same, out) = aimed_fails (target_of way (millionths_of v b.settings.rate) b.exact) way v b why d e in
    rw is (record { cause = outside way v refl h (omega (arith, ltb-false b.settings.top b.settings.start s)) out; body = same })))
    (λ h e. let is : why ≡ R.NotInitialised = cc in let same : d ≡ b = cc in rw is (record { cause = uninitialised way v refl h; body = same }))
effect_fails x (C.Speed pace n) b why d = λ e. never_ends _ d why e
effect_fails x (C.Slopes up down) b why d = λ e. never_ends _ d why e
effect_fails x (C.Backlash n) b why d = λ e. never_ends _ d why e
effect_fails x (C.Compensate n down) b why d = λ e. never_ends _ d why e
effect_fails x (C.Delay ms) b why d = λ e. never (eqb (ticks_of ms) 0) _ _ d _ why e
effect_fails x (C.Set a n) b why d = λ e. never_ends _ d why e
effect_fails x (C.Detect here) b why d =
    by (λ (e : Turn Effect). e.next ≡ Fails why d → FailsSo x (C.Detect here) b why d) b.initialised
    (λ i.
    by (λ (e : Turn Effect). e.next ≡ Fails why d → FailsSo x (C.Detect here) b why d) (no_way_down b.settings.detection)
    (λ h e. let is : why ≡ R.NoWayDown = cc in let same : d ≡ b = cc in rw is (record { cause = no_way here refl i h; body = same }))
    (λ h. zeroed_fails x here b why d i h (felt_in x) refl))
    (λ i e. let is : why ≡ R.NotInitialised = cc in let same : d ≡ b = cc in rw is (record { cause = unknown here refl i; body = same }))
effect_fails x (C.Eject bare) b why d = go bare refl
  where
    go : (y : Bool) → bare ≡ y → (if y then (if b.initialised then Asks else Fails R.NotInitialised b) else (if x.tip then Asks else Fails R.NoTip b)) ≡ Fails why d → FailsSo x (C.Eject bare) b why d
    go true q =
        by (λ (e : Effect). e ≡ Fails why d → FailsSo x (C.Eject bare) b why d) b.initialised
        (λ h e. never_asks d why e)
        (λ h e. let is : why ≡ R.NotInitialised = cc in let same : d ≡ b = cc in rw is (record { cause = unready (ap C.Eject q) h; body = same }))
    go false q =
        by (λ (e : Effect). e ≡ Fails why d → FailsSo x (C.Eject bare) b why d) x.tip
        (λ h e. never_asks d why e)
        (λ h e. let is : why ≡ R.NoTip = cc in let same : d ≡ b = cc in rw is (record { cause = tipless (ap C.Eject q) h; body = same }))
effect_fails x C.Open b why d = λ e. let z : ◌≡◌ {A = ℕ} 0 1 = cc in absurd (omega arith)
effect_fails x (C.Close n) b why d = λ e. let z : ◌≡◌ {A = ℕ} 0 1 = cc in absurd (omega arith)

-- how what is in progress fails
carried_fails : {A : Type 0} (kind : Travel → Activity) (known : Bool) (t : Travel) (b : Body) (why : Refusal) (d : Body) → carried kind known t b ≡ Fails why d → A
unfolding carried
carried_fails kind known t b why d e = never (eqb (plunger_of t) t.goal) _ _ d _ why e

pub record BreaksSo (x : Sense) (a : Activity) (b : Body) (why : Refusal) (d : Body) : Type 0 where
  pub cause : Breaking x b a why
  pub body : d ≡ left_by a b

approached_fails :
    (x : Sense) (t : Travel) (z : ℕ) (b : Body) (why : Refusal) (d : Body) (p : Option ℕ) → felt_in x ≡ p →
    (approached_of p (later_of t) z (body_at (plunger_of (later_of t)) b)).next ≡ Fails why d → BreaksSo x (Approaching t z) b why d
unfolding approached_of
approached_fails x t z b why d None f e = let is : why ≡ R.TooMuchPressure = cc in rw is (record { cause = halted_move t z f; body = cc })
approached_fails x t z b why d (Some r) f e = never_either (eqb (plunger_of (later_of t)) t.goal) _ _ d _ _ why e

searched_fails :
    (x : Sense) (s : Search) (b : Body) (why : Refusal) (d : Body) (f : Finding) → finding_of b.settings.detection (Level.later_of s) (felt_in x) ≡ f →
    (found_as f (body_at (plunger_in b.settings.detection (Level.later_of s)) b)).next ≡ Fails why d → BreaksSo x (Searching s) b why d
unfolding found_as
searched_fails x s b why d Found.TooMuch f e = let is : why ≡ R.TooMuchPressure = cc in rw is (record { cause = too_much s (found_shows b.settings.detection (Level.later_of s) (felt_in x) Found.TooMuch f); body = cc })
searched_fails x s b why d Found.Found f e = never_ends _ d why e
searched_fails x s b why d Found.Missed f e = let is : why ≡ R.NoLiquid = cc in rw is (record { cause = no_liquid s f; body = cc })
searched_fails x s b why d (Found.On t) f e = never_goes _ d _ why e

onward_fails : (x : Sense) (a : Activity) (b : Body) (why : Refusal) (d : Body) → (onward_of x a b).next ≡ Fails why d → BreaksSo x a b why d
unfolding onward_of waited_of ejected_of searched_of sought_of
onward_fails x (Initialising t) b why d = λ e. carried_fails Initialising true (later_of t) b why d e
onward_fails x (Moving t) b why d = λ e. carried_fails Moving b.initialised (later_of t) b why d e
onward_fails x (Delaying k) b why d = λ e. never (leb k 1) _ _ d _ why e
onward_fails x (Approaching t z) b why d = approached_fails x t z b why d (felt_in x) refl
onward_fails x (Searching s) b why d = searched_fails x s b why d (finding_of b.settings.detection (Level.later_of s) (felt_in x)) refl
onward_fails x Ejecting b why d =
    by (λ (e : Effect). e ≡ Fails why d → BreaksSo x Ejecting b why d) x.tip
    (λ h e. let is : why ≡ R.StillThere = cc in let same : d ≡ b = cc in rw is (record { cause = still_there h; body = same }))
    (λ h e. never_ends _ d why e)
onward_fails x Between b why d = λ e. never_ends _ d why e

-- a run that goes on is not erased
module _ (c : Course) where
  reached_stays : (at : ℕ) (l : Loops) → (reached at l c).state ≡ Empty → ⊥
  unfolding reached
  reached_stays at l =
      by (λ (s : State). s ≡ Empty → ⊥) (ltb at c.len)
      (λ h e. let z : ◌≡◌ {A = ℕ} 0 1 = cc in omega arith)
      (λ h e. let z : ◌≡◌ {A = ℕ} 0 1 = cc in omega arith)

  gone_on_stays : (a : Activity) (at : ℕ) → (gone_on a at c).state ≡ Empty → ⊥
  gone_on_stays a at e = let z : ◌≡◌ {A = ℕ} 0 1 = cc in omega arith

-- a command that erases the text is one that fails
module _ (c : Core) (p : Part) (next : ℕ) (shallow : p ≡ opens → c.course.loops.depth < 4) (held : (n : ℕ) → p ≡ closes n → c.course.loops.depth ≡ 0 → ⊥) where
  abbrev Stays : Result Course Refusal → Type 0
  Stays g = (went_of g c.body c.course).core.course.state ≡ Empty → ⊥

  opened_stays : p ≡ opens → Stays (opened_of next c.course)
  unfolding opened_of
  opened_stays e = rw (lt-ltb c.course.loops.depth 4 (shallow e)) (reached_stays c.course next (pushed (mark next 0) c.course.loops))

  closed_stays : (n : ℕ) → p ≡ closes n → Stays (closed_of n next c.course)
  unfolding closed_of
  closed_stays n e =
      rw (ne_eqb c.course.loops.depth 0 (held n e))
      (closed_by_lem Stays c.course (reached_stays c.course) (pass_of n c.course.loops.first.passes) next)

  erased_by : (e : Effect) → Fits e p → (applied_of e next c).core.course.state ≡ Empty → (why : Refusal) × (d : Body) × (e ≡ Fails why d)
  unfolding applied_of
  erased_by (Goes b a) f h = absurd (gone_on_stays c.course a next h)
  erased_by (Ends b) f h = absurd (reached_stays c.course next c.course.loops h)
  erased_by (Fails why b) f h = (why, b, refl)
  erased_by Asks f h = absurd (gone_on_stays c.course Ejecting next h)
  erased_by Opens f h = absurd (opened_stays f h)
  erased_by (Closes n) f h = absurd (closed_stays n f h)

-- a tick that takes a command, and one of what is in progress
pub step_takes : (text : List ℕ) (x : Sense) (c : Core) (k : Command) (t : Takes text c k) → (step_of (around text x) c).next ≡ applied_of (effect_of x k c.body).next t.next c
unfolding step_of active_of running_of taken_of
step_takes text x c k t = rw (t.between, t.found)

module _ (text : List ℕ) (x : Sense) (c : Core) (why : Refusal) where
  step_fails : (k : Command) → Takes text c k → (effect_of x k c.body).next ≡ Fails why c.body → (step_of (around text x) c).next ≡ fails why (left_in c.course.state c.body) c.course
  unfolding applied_of
  step_fails k t e =
      step_takes text x c k t
      ∙ ap (λ (f : Effect). applied_of f t.next c) e
      ∙ ap (λ (s : State). fails why (left_in s c.body) c.course) (sym t.between)

  step_breaks :
      (a : Activity) → c.course.state ≡ Running a → between a ≡ false → (onward_of x a c.body).next ≡ Fails why (left_by a c.body) →
      (step_of (around text x) c).next ≡ fails why (left_in c.course.state c.body) c.course
  unfolding step_of active_of running_of carried_on applied_of
  step_breaks a s n e = rw (s, n, e)

module _ (text : List ℕ) (x : Sense) (c : Core) where
  taken_fails : c.course.state ≡ Running Between → CourseOn text c.course → (f : Found) → command_at (take c.course.len text) c.course.at ≡ f → (taken_of x f c).next.core.course.state ≡ Empty → Fault text x c
  unfolding taken_of
  taken_fails s o f e h =
      let m = a_run_meets_a_command text c.course s o in
      let q = sym e ∙ m.found in
      let (why, d, is) = erased_by c (part_of m.command) m.next m.shallow (λ n is z. omega (arith, (m.back n is).deep)) (effect_of x m.command c.body).next (effect_fits x m.command c.body) (rw q at h) in
      let so = effect_fails x m.command c.body why d is in
      let takes : Takes text c m.command = record { next = m.next; between = s; found = m.found } in
      record { refusal = why; why = taken m.command takes so.cause; so = step_fails text x c why m.command takes (is ∙ ap (Fails why) so.body) }

  carried_breaks : (a : Activity) → c.course.state ≡ Running a → between a ≡ false → (carried_on x a c).next.core.course.state ≡ Empty → Fault text x c
  unfolding carried_on
  carried_breaks a s n h =
      let z : (n : ℕ) → plain ≡ closes n → c.course.loops.depth ≡ 0 → ⊥ = λ n e d. (let z : ◌≡◌ {A = ℕ} 0 1 = cc in omega arith) in
      let y : plain ≡ opens → c.course.loops.depth < 4 = λ e. (let z : ◌≡◌ {A = ℕ} 0 1 = cc in absurd (omega arith)) in
      let (why, d, is) = erased_by c plain c.course.at y z (onward_of x a c.body).next (onward_fits x a c.body) h in
      let so = onward_fails x a c.body why d is in
      record { refusal = why; why = judged a s so.cause; so = step_breaks text x c why a s n (is ∙ ap (Fails why) so.body) }

  running_fails : (a : Activity) → c.course.state ≡ Running a → CourseOn text c.course → (running_of a (around text x) c).next.core.course.state ≡ Empty → Fault text x c
  unfolding running_of
  running_fails Between s o h = taken_fails s o (command_at (take c.course.len text) c.course.at) refl h
  running_fails (Initialising t) s o h = carried_breaks (Initialising t) s refl h
  running_fails (Moving t) s o h = carried_breaks (Moving t) s refl h
  running_fails (Delaying k) s o h = carried_breaks (Delaying k) s refl h
  running_fails (Approaching t z) s o h = carried_breaks (Approaching t z) s refl h
  running_fails (Searching f) s o h = carried_breaks (Searching f) s refl h
  running_fails Ejecting s o h = carried_breaks Ejecting s refl h

  pub a_run_fails_for_a_cause : (a : Activity) → c.course.state ≡ Running a → CourseOn text c.course → (step_of (around text x) c).next.core.course.state ≡ Empty → Fault text x c
  unfolding step_of active_of
  a_run_fails_for_a_cause a s o h = running_fails a s o (subst (λ (y : State). (active_of y (around text x) c).next.core.course.state ≡ Empty) s h)

-- and the other way: where there is a cause the tick fails, with that refusal
pub must_fail : (x : Sense) (k : Command) (b : Body) (why : Refusal) → Failing x k b why → (effect_of x k b).next ≡ Fails why b
unfolding effect_of move_of aimed eject_of detect_of zeroed_of
must_fail x k b why (uninitialised way v e i) = rw (e, i)
must_fail x k b why (steep way v e i s) = rw (e, i, lt-ltb b.settings.top b.settings.start s)
must_fail x k b why (outside way v e i flat out) = rw (e, i, le-ltb b.settings.top b.settings.start flat, out)
must_fail x k b why (tipless e t) = rw (e, t)
must_fail x k b why (unready e i) = rw (e, i)
must_fail x k b why (unknown here e i) = rw (e, i)
must_fail x k b why (no_way here e i n) = rw (e, i, n)
must_fail x k b why (no_zero here e i n f) = rw (e, i, n, f)

must_break : (x : Sense) (a : Activity) (b : Body) (why : Refusal) → Breaking x b a why → ((onward_of x a b).next ≡ Fails why (left_by a b)) × (between a ≡ false)
unfolding onward_of ejected_of approached_of searched_of sought_of found_as
must_break x a b why (still_there t) = (rw t, refl)
must_break x a b why (halted_move t z f) = (rw f, refl)
must_break x a b why (too_much s f) = (rw (too_much_by b.settings.detection (Level.later_of s) (felt_in x) f), refl)
must_break x a b why (no_liquid s f) = (rw f, refl)

pub where_there_is_a_cause_the_run_fails :
    (text : List ℕ) (x : Sense) (c : Core) (why : Refusal) → Cause text x c why → (step_of (around text x) c).next ≡ fails why (left_in c.course.state c.body) c.course
where_there_is_a_cause_the_run_fails text x c why (taken k t w) = step_fails text x c why k t (must_fail x k c.body why w)
where_there_is_a_cause_the_run_fails text x c why (judged a s w) = let (e, n) = must_break x a c.body why w in step_breaks text x c why a s n e

-- a tick tells of a failure exactly where there is a cause
fine_is_not_refused : {A : Type 0} (why : Refusal) → ◌≡◌ {A = Verdict} (Ok tt) (Err why) → A
fine_is_not_refused why e = let z : ◌≡◌ {A = ℕ} 0 1 = cc in absurd (omega arith)

told_erases : (w : Around) (c : Core) (why : Refusal) → (step_of w c).next.news.failed ≡ Err why → (step_of w c).next.core.course.state ≡ Empty
told_erases w c why =
    step_by (λ (s : Stepped). s.news.failed ≡ Err why → s.core.course.state ≡ Empty) c
    (record {
      rests = fine_is_not_refused why;
      goes = λ b a at. fine_is_not_refused why;
      ends = λ b at l. fine_is_not_refused why;
      breaks = λ y b e. refl;
      asks = λ at. fine_is_not_refused why;
    })
    w

module _ (text : List ℕ) (x : Sense) (c : Core) (why : Refusal) where
  told_so : Fault text x c → (step_of (around text x) c).next.news.failed ≡ Err why → Cause text x c why
  told_so f h =
      let same = sym (ap (λ (s : Stepped). s.news.failed) f.so) ∙ h in
      let is : f.refusal ≡ why = cc in
      rw is at f.why

  told_in : (s : State) → c.course.state ≡ s → CourseOn text c.course → (step_of (around text x) c).next.news.failed ≡ Err why → Cause text x c why
  unfolding step_of active_of
  told_in (Running a) s o h = told_so (a_run_fails_for_a_cause text x c a s o (told_erases (around text x) c why h)) h
  told_in Empty s o h = fine_is_not_refused why (rw s at h)
  told_in Stored s o h = fine_is_not_refused why (rw s at h)
  told_in Stopped s o h = fine_is_not_refused why (rw s at h)
  told_in Done s o h = fine_is_not_refused why (rw s at h)

  pub a_run_fails_exactly_for_a_cause : CourseOn text c.course → Exactly ((step_of (around text x) c).next.news.failed ≡ Err why) (Cause text x c why)
  a_run_fails_exactly_for_a_cause o =
      record {
        only = told_in c.course.state refl o;
        always = λ cause. ap (λ (s : Stepped). s.news.failed) (where_there_is_a_cause_the_run_fails text x c why cause);
      }

-- so for every device that comes from calls
module _ (calls : List Call) (sent : AllSent calls) where
  pub every_run_meets_a_command : (after calls).core.course.state ≡ Running Between → Meets (after calls).text (after calls).core.course
  every_run_meets_a_command s = a_run_meets_a_command (after calls).text (after calls).core.course s (every_device_is_on_course calls sent)

  pub every_run_that_fails_has_a_cause :
      (x : Sense) (a : Activity) → (after calls).core.course.state ≡ Running a → (step_of (around (after calls).text x) (after calls).core).next.core.course.state ≡ Empty →
      Fault (after calls).text x (after calls).core
  every_run_that_fails_has_a_cause x a s h = a_run_fails_for_a_cause (after calls).text x (after calls).core a s (every_device_is_on_course calls sent) h
