-- A movement ends after the ticks that its distance and speed give, and no sooner.
use mathlib.Core.Path.{◌≡◌, refl, sym, ap, ◌∙◌}
use mathlib.Core.Bool.{Bool, true}
use Prim.Native.Nat.{ℕ, zero, suc, ◌+◌, ◌-◌, ◌≤◌, ◌<◌}
use native.Mathlib.Numerals.{add-one}
use native.Mathlib.Omega.{arith}
use borrow.Author.Tests.{leb-true, leb-false, eq-eqb, ne_eqb}
use lib.Dec.{leb}
use Rattle.basics.proofs.Choice.{by}
use Rattle.settings.specs.Units.{gone_of}
use Rattle.settings.proofs.Motion.{distance_gone_is_at_most_the_distance, movement_arrives, movement_arrives_no_sooner}
use Rattle.motion.specs.declared.Body.{Body}
use Rattle.motion.specs.declared.Travel.{Travel}
use Rattle.motion.specs.declared.Activity.{Activity}
use Rattle.motion.specs.declared.Activity.TheVariants.{Initialising, Moving}
use Rattle.motion.specs.Bounds.{TravelOk, ActivityOk}
use Rattle.motion.specs.Bodies.{later_of, plunger_of, body_at, body_known}
use Rattle.motion.specs.Motion.{carried, onward_of}
use Rattle.buffer.specs.declared.course.State.{State}
use Rattle.buffer.specs.declared.course.State.TheVariants.{Running}
use Rattle.buffer.specs.declared.course.Course.{Course}
use Rattle.machine.specs.declared.step.Core.{Core}
use Rattle.buffer.specs.Course.{in_state, reached}
use Rattle.machine.specs.declared.step.Stepped.{Stepped}
use Rattle.machine.specs.Step.{Around, core, stepped, fine, applied_of, carried_on, running_of, active_of, step_of}
use Rattle.machine.specs.Run.{ticks_of}
use Rattle.machine.specs.Valid.{Valid}
use Rattle.machine.specs.Movement.{distance_of, time_of, since, UnderWay, arrived_of}
use Rattle.machine.proofs.Runs.{ticks_more, next_fine}

module _ (a b : ℕ) where
  pub upwards : a ≤ b → b - a ≡ distance_of a b
  unfolding distance_of
  upwards h = omega arith

  pub downwards : b < a → a - b ≡ distance_of a b
  unfolding distance_of
  downwards h = omega arith

  rising : (gone : ℕ) → a ≤ b → gone ≤ distance_of a b → distance_of (a + gone) b + gone ≡ distance_of a b
  unfolding distance_of
  rising gone h g = omega arith

  falling : (gone : ℕ) → b < a → gone ≤ distance_of a b → distance_of (a - gone) b + gone ≡ distance_of a b
  unfolding distance_of
  falling gone h g = omega arith

-- the distance that is left and the distance gone are the whole
pub left_and_gone_are_the_distance : (t : Travel) → distance_of (plunger_of t) t.goal + gone_of t.ticks t.speed (distance_of t.from t.goal) ≡ distance_of t.from t.goal
unfolding plunger_of
left_and_gone_are_the_distance t =
    let d = distance_of t.from t.goal in
    let gone = gone_of t.ticks t.speed d in
    let most = distance_gone_is_at_most_the_distance t.ticks t.speed d in
    by (λ (p : ℕ). distance_of p t.goal + gone ≡ d) (leb t.from t.goal)
    (λ h. let up = leb-true t.from t.goal h in rw (upwards t.from t.goal up) (rising t.from t.goal gone up most))
    (λ h. let down = leb-false t.from t.goal h in rw (downwards t.from t.goal down) (falling t.from t.goal gone down most))

module _ (t : Travel) where
  -- the plunger sets out where the movement begins ..
  sets_out : plunger_of (since t 0) ≡ t.from
  unfolding plunger_of gone_of
  sets_out = by (λ (p : ℕ). p ≡ t.from) (leb t.from t.goal) (λ h. omega arith) (λ h. omega arith)

  -- .. is at the goal after the movement's time ..
  there : 0 < t.speed → plunger_of (since t (time_of t)) ≡ t.goal
  unfolding time_of distance_of
  there moves =
      omega (arith, left_and_gone_are_the_distance (since t (time_of t)), movement_arrives t.speed (distance_of t.from t.goal) moves)

  -- .. and not before
  pub away : 0 < t.speed → (k : ℕ) → k < time_of t → plunger_of (since t k) ≡ t.goal → ⊥
  unfolding time_of distance_of
  away moves k l e =
      omega (arith, left_and_gone_are_the_distance (since t k), movement_arrives_no_sooner t.speed (distance_of t.from t.goal) moves k l)

-- the two kinds of movement differ in what they make of "initialised" at their end
pub record Kind (kind : Travel → Activity) (known : Bool → Bool) : Type 0 where
  pub ticks : (w : Around) (c : Core) (t : Travel) → (active_of (Running (kind t)) w c).next ≡ applied_of (carried kind (known c.body.initialised) (later_of t) c.body) c.course.at c
  pub fine_so : (t : Travel) → ActivityOk (kind t) → TravelOk t

pub a_move : Kind Moving (λ i. i)
unfolding active_of running_of carried_on onward_of
a_move = record { ticks = λ w c t. refl; fine_so = λ t h. h }

pub initialising : Kind Initialising (λ i. true)
unfolding active_of running_of carried_on onward_of
initialising = record { ticks = λ w c t. refl; fine_so = λ t h. h }

module _ (kind : Travel → Activity) (known : Bool → Bool) (is : Kind kind known) (w : Around) where
  module _ (d : Core) (t : Travel) (running : d.course.state ≡ Running (kind t)) where
    pub one_tick : (step_of w d).next ≡ applied_of (carried kind (known d.body.initialised) (later_of t) d.body) d.course.at d
    unfolding step_of
    one_tick = ap (λ (x : State). (active_of x w d).next) running ∙ is.ticks w d t

    pub goes_on : (plunger_of (later_of t) ≡ t.goal → ⊥) → (step_of w d).next ≡ fine (core (body_at (plunger_of (later_of t)) d.body) (in_state (Running (kind (later_of t))) d.course))
    unfolding carried applied_of
    goes_on h = one_tick ∙ rw (ne_eqb (plunger_of (later_of t)) t.goal h)

    ends : plunger_of (later_of t) ≡ t.goal → (step_of w d).next ≡ fine (arrived_of (known d.body.initialised) t d)
    unfolding carried applied_of arrived_of
    ends h = one_tick ∙ rw (eq-eqb (plunger_of (later_of t)) t.goal h, h)

  module _ (s : Stepped) (t : Travel) (ok : Valid s.core) (running : s.core.course.state ≡ Running (kind (since t 0))) where
    moves : 0 < t.speed
    moves = let ok = is.fine_so (since t 0) (rw running at ok.course.state) in omega (arith, ok.slow)

    further :
        (k j : ℕ) (d e : Stepped) → UnderWay kind t s k d →
        e ≡ stepped (core (body_at (plunger_of (since t j)) d.core.body) (in_state (Running (kind (since t j))) d.core.course)) d.news → UnderWay kind t s j e
    further k j d e h q =
        rw q
        (record { plunger = λ l. refl; body = h.body; course = ap (λ (x : Course). in_state (Running (kind (since t j))) x) h.course; news = h.news })

    under_way : (k : ℕ) → k < time_of t → UnderWay kind t s k (ticks_of k w s)
    unfolding ticks_of
    under_way zero h =
        record { plunger = λ l. absurd (omega arith); body = refl; course = ap (λ (x : State). in_state x s.core.course) running; news = refl }
    under_way (suc k) h =
        let so_far = under_way k (omega arith) in
        let d = ticks_of k w s in
        let on = goes_on d.core (since t k) (ap (λ (x : Course). x.state) so_far.course) (rw (add-one k) (away t moves (suc k) h)) in
        further k (suc k) d (ticks_of (suc k) w s) so_far (ticks_more k w s ∙ rw (add-one k) at (next_fine w d _ on))

    same_end : (k : ℕ) (d : Stepped) → UnderWay kind t s k d → stepped (arrived_of (known d.core.body.initialised) (since t k) d.core) d.news ≡ stepped (arrived_of (known s.core.body.initialised) t s.core) s.news
    unfolding arrived_of reached
    same_end k d h =
        ap (λ (b : Body). stepped (core (body_known (known b.initialised) (body_at t.goal b)) (reached d.core.course.at d.core.course.loops d.core.course)) d.news) h.body
        ∙ ap (λ (x : Course). stepped (core (body_known (known s.core.body.initialised) (body_at t.goal s.core.body)) (reached x.at x.loops x)) d.news) h.course
        ∙ ap (stepped _) h.news

    arrives : (n : ℕ) → n ≡ time_of t → (t.from ≡ t.goal → ⊥) → ticks_of n w s ≡ stepped (arrived_of (known s.core.body.initialised) t s.core) s.news
    unfolding arrived_of
    arrives zero e far = absurd (far (sym (sets_out t) ∙ rw e (there t moves)))
    arrives (suc k) e far =
        let so_far = under_way k (omega arith) in
        let d = ticks_of k w s in
        let last = ends d.core (since t k) (ap (λ (x : Course). x.state) so_far.course) (rw (add-one k, e) (there t moves)) in
        ticks_more k w s ∙ next_fine w d _ last ∙ same_end k d so_far

-- a movement of A, P or D, and one of W, in any valid core, from the tick in which it sets out on
module _ (w : Around) (s : Stepped) (ok : Valid s.core) (t : Travel) where
  module _ (running : s.core.course.state ≡ Running (Moving (since t 0))) where
    pub a_move_goes_on_until_its_time : (k : ℕ) → k < time_of t → UnderWay Moving t s k (ticks_of k w s)
    a_move_goes_on_until_its_time = under_way Moving (λ i. i) a_move w s t ok running

    pub a_move_arrives_in_its_time : (t.from ≡ t.goal → ⊥) → ticks_of (time_of t) w s ≡ stepped (arrived_of s.core.body.initialised t s.core) s.news
    a_move_arrives_in_its_time = arrives Moving (λ i. i) a_move w s t ok running (time_of t) refl

  module _ (running : s.core.course.state ≡ Running (Initialising (since t 0))) where
    pub initialising_goes_on_until_its_time : (k : ℕ) → k < time_of t → UnderWay Initialising t s k (ticks_of k w s)
    initialising_goes_on_until_its_time = under_way Initialising (λ i. true) initialising w s t ok running

    pub initialising_arrives_in_its_time : (t.from ≡ t.goal → ⊥) → ticks_of (time_of t) w s ≡ stepped (arrived_of true t s.core) s.news
    initialising_arrives_in_its_time = arrives Initialising (λ i. true) initialising w s t ok running (time_of t) refl
