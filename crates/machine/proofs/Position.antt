-- What every call keeps of the exact position: it is the sum of the history, and lies near the place where the plunger goes, or stands.
use mathlib.Core.Path.{◌≡◌, refl}
use mathlib.Core.Bool.{Bool, true, false, true≢false, false≢true}
use mathlib.Core.List.{List}
use Prim.Native.Nat.{ℕ, ◌+◌, ◌-◌}
use native.Mathlib.Omega.{arith}
use borrow.Author.Tests.{eqb-true, ltb-false}
use lib.Dec.{ltb, leb, eqb}
use lib.ListN.{length, take}
use Rattle.std.specs.Prelude.{Err, None, Ok, Option, Result, Some}
use Rattle.command.specs.declared.refusal.Refusal.{Refusal}
use Rattle.command.specs.Verdict.{Verdict}
use Rattle.command.specs.Found.{Found}
use Rattle.basics.proofs.Choice.{by}
use Rattle.settings.specs.declared.Volume.{Volume}
use Rattle.settings.specs.Units.{ticks_of, millionths_of, goal_of, Near}
use Rattle.settings.proofs.Rounding.{goal_is_within_half_an_increment}
use Rattle.command.specs.declared.Way.{Way}
use Rattle.command.specs.declared.Way.TheVariants.{To, Up, Down}
use Rattle.command.specs.declared.Command.{Command}
use Rattle.command.specs.Command.{command_at}
use Rattle.motion.specs.declared.Sense.{Sense}
use Rattle.motion.specs.declared.Body.{Body}
use Rattle.motion.specs.declared.Travel.{Travel}
use Rattle.motion.specs.declared.Activity.{Activity}
use Rattle.motion.specs.declared.Activity.TheVariants.{Initialising, Moving, Delaying, Approaching, Searching, Ejecting, Between}
use Rattle.motion.specs.declared.Effect.{Effect}
use Rattle.motion.specs.declared.Effect.TheVariants.{Goes, Ends, Fails, Asks, Opens, Closes}
use Rattle.motion.specs.Events.{Turn}
use Rattle.level.specs.declared.Finding.{Finding}
use Rattle.level.specs.Level as Level
use Rattle.level.specs.Level.{plunger_in, finding_of, sought_of}
use Rattle.motion.specs.Bodies.{later_of, plunger_of, body_at}
use Rattle.motion.specs.Detect.{felt_in, place_for, detect_of, approached_of, found_as, searched_of}
use Rattle.motion.specs.Motion.{home_of, within, target_of, set_out, event_of, aimed, move_of, delay_of, effect_of, carried, waited_of, onward_of, in_motion, between, cut_of, reset_of}
use Rattle.motion.proofs.Moves.{move_by_lem, eject_by_lem, ejected_by, detect_by_lem, approached_by, found_by}
use Rattle.buffer.specs.declared.course.State.{State}
use Rattle.buffer.specs.declared.course.State.TheVariants.{Empty, Stored, Running, Stopped, Done}
use Rattle.buffer.specs.declared.course.Loops.{Loops}
use Rattle.buffer.specs.declared.course.Course.{Course}
use Rattle.buffer.specs.declared.course.Column.TheVariants as K
use Rattle.machine.specs.declared.step.Core.{Core}
use Rattle.machine.specs.declared.step.Stepped.{Stepped}
use Rattle.machine.specs.declared.Device.{Device}
use Rattle.buffer.specs.declared.order.Action.{Action}
use Rattle.buffer.specs.declared.order.Action.TheVariants as A
use Rattle.buffer.specs.declared.order.Change.{Change}
use Rattle.buffer.specs.declared.order.Change.TheVariants as C
use Rattle.buffer.specs.declared.order.Order.{Order}
use Rattle.buffer.specs.declared.order.Order.TheVariants as O
use Rattle.buffer.specs.Course.{reached, halted, while_of}
use Rattle.buffer.specs.Order.{cell_of, order_of, verdict_of}
use Rattle.machine.specs.Step.{Around, core, went_of, applied_of, taken_of, carried_on, running_of, active_of, step_of}
use Rattle.machine.specs.Act.{halt_of, stop_of, changed_of, done_of, acted_of, act_of}
use Rattle.machine.specs.History.{Sum, counted, added_up, IsSum, moving}
use Rattle.machine.proofs.Looping.{behind_open, behind_close}

-- where a movement goes, or else where the plunger stands; a search has no goal, and asks nothing of the plunger until it ends
abbrev toward : Activity → ℕ → ℕ → ℕ
toward (Initialising t) plunger exact = t.goal
toward (Moving t) plunger exact = t.goal
toward (Delaying k) plunger exact = plunger
toward (Approaching t z) plunger exact = t.goal
toward (Searching f) plunger exact = goal_of exact
toward Ejecting plunger exact = plunger
toward Between plunger exact = plunger

abbrev heading : State → ℕ → ℕ → ℕ
heading (Running a) plunger exact = toward a plunger exact
heading Empty plunger exact = plunger
heading Stored plunger exact = plunger
heading Stopped plunger exact = plunger
heading Done plunger exact = plunger

-- what every call keeps: the exact position is the sum, and lies near the place
pub record Told (place exact : ℕ) (s : Sum) : Type 0 where
  pub sum : IsSum exact s
  pub near : Near place exact

abbrev pub CoreTold : Core → Sum → Type 0
CoreTold c s = Told (heading c.course.state c.body.plunger c.body.exact) c.body.exact s

-- an effect on a body that a loop leaves as it is
abbrev EffectTold : Body → Effect → Sum → Type 0
EffectTold b (Goes d a) s = Told (toward a d.plunger d.exact) d.exact s
EffectTold b (Ends d) s = Told d.plunger d.exact s
EffectTold b (Fails why d) s = Told d.plunger d.exact s
EffectTold b Asks s = Told b.plunger b.exact s
EffectTold b Opens s = Told b.plunger b.exact s
EffectTold b (Closes n) s = Told b.plunger b.exact s

-- where nothing moves, the place is the plunger's
still : (a : Activity) (plunger exact : ℕ) → in_motion a ≡ false → toward a plunger exact ≡ plunger
still (Initialising t) p e h = absurd (true≢false h)
still (Moving t) p e h = absurd (true≢false h)
still (Delaying k) p e h = refl
still (Approaching t z) p e h = absurd (true≢false h)
still (Searching f) p e h = absurd (true≢false h)
still Ejecting p e h = refl
still Between p e h = refl

pub at_rest : (s : State) (plunger exact : ℕ) → moving s ≡ false → heading s plunger exact ≡ plunger
at_rest (Running a) p e h = still a p e h
at_rest Empty p e h = refl
at_rest Stored p e h = refl
at_rest Stopped p e h = refl
at_rest Done p e h = refl

-- a volume and the exact position that it gives
abbrev Reaches : Way → ℕ → ℕ → ℕ → Type 0
Reaches To volume from exact = Unit {0}
Reaches Up volume from exact = exact ≡ from + volume
Reaches Down volume from exact = exact + volume ≡ from

abbrev Lands : Way → ℕ → ℕ → Option ℕ → Type 0
Lands way volume from (Some exact) = Reaches way volume from exact
Lands way volume from None = Unit {0}

target_lands : (way : Way) (volume from : ℕ) → Lands way volume from (target_of way volume from)
unfolding target_of within
target_lands To n from = by (Lands To n from) (ltb 44000000000 n) (λ h. tt) (λ h. tt)
target_lands Up n from = by (Lands Up n from) (ltb 44000000000 (from + n)) (λ h. tt) (λ h. refl)
target_lands Down n from =
    by (Lands Down n from) (ltb from n)
    (λ h. tt)
    (λ h. by (Lands Down n from) (ltb 44000000000 (from - n)) (λ k. tt) (λ k. omega (arith, ltb-false from n h)))

-- an absolute move starts anew, and a volume is counted up or down
move_counts : (way : Way) (v : Volume) (rate from exact : ℕ) (s : Sum) → IsSum from s → Reaches way (millionths_of v rate) from exact → IsSum exact (counted s (event_of way v rate exact))
unfolding IsSum
move_counts To v rate from exact s h r = refl
move_counts Up v rate from exact s h r = omega arith
move_counts Down v rate from exact s h r = omega arith

-- a command that a body takes
module _ (b : Body) (s : Sum) (told : Told b.plunger b.exact s) where
  home_tells : (n : ℕ) → EffectTold b (home_of n b).next (added_up s (home_of n b).events)
  unfolding home_of added_up IsSum
  home_tells n =
      by (λ (e : Effect). EffectTold b e (record { origin = 0; ups = 0; downs = 0 })) (eqb b.plunger 0)
      (λ h. record { sum = refl; near = omega (arith, eqb-true b.plunger 0 h) })
      (λ h. record { sum = refl; near = omega arith })

  set_out_tells : (exact : ℕ) (t : Sum) → IsSum exact t → EffectTold b (set_out exact b) t
  unfolding set_out
  set_out_tells exact t h =
      let near = goal_is_within_half_an_increment exact in
      by (λ (e : Effect). EffectTold b e t) (eqb b.plunger (goal_of exact))
      (λ q. record { sum = h; near = rw (eqb-true b.plunger (goal_of exact) q) near })
      (λ q. record { sum = h; near = near })

  aimed_tells : (t : Option ℕ) (way : Way) (v : Volume) → Lands way (millionths_of v b.settings.rate) b.exact t → EffectTold b (aimed t way v b).next (added_up s (aimed t way v b).events)
  unfolding aimed added_up
  aimed_tells (Some exact) way v h = set_out_tells exact _ (move_counts way v b.settings.rate b.exact exact s told.sum h)
  aimed_tells None way v h = told

  move_tells : (way : Way) (v : Volume) → EffectTold b (move_of way v b).next (added_up s (move_of way v b).events)
  unfolding added_up
  move_tells way v =
      let volume = millionths_of v b.settings.rate in
      move_by_lem (λ (t : Turn Effect). EffectTold b t.next (added_up s t.events)) way v b (λ why. told)
      (aimed_tells (target_of way volume b.exact) way v (target_lands way volume b.exact))

  delay_tells : (ms : ℕ) → EffectTold b (delay_of ms b) s
  unfolding delay_of
  delay_tells ms = by (λ (e : Effect). EffectTold b e s) (eqb (ticks_of ms) 0) (λ h. told) (λ h. told)

  -- B1 leaves the exact position, and B0 starts it at p2
  detect_tells : (here : Bool) (x : Sense) → EffectTold b (detect_of here x b).next (added_up s (detect_of here x b).events)
  unfolding added_up IsSum
  detect_tells =
      detect_by_lem (λ (t : Turn Effect). EffectTold b t.next (added_up s t.events)) b
      (λ why. told)
      (λ z. record { sum = told.sum; near = goal_is_within_half_an_increment b.exact })
      (λ z. record { sum = refl; near = goal_is_within_half_an_increment (place_for b) })
      (λ z. record { sum = refl; near = omega arith })

  effect_tells : (x : Sense) (k : Command) → EffectTold b (effect_of x k b).next (added_up s (effect_of x k b).events)
  unfolding effect_of added_up
  effect_tells x (Command.Initialise n) = home_tells n
  effect_tells x (Command.Move way v) = move_tells way v
  effect_tells x (Command.Speed pace n) = told
  effect_tells x (Command.Slopes up down) = told
  effect_tells x (Command.Backlash n) = told
  effect_tells x (Command.Compensate n down) = told
  effect_tells x (Command.Delay ms) = delay_tells ms
  effect_tells x (Command.Set a n) = told
  effect_tells x (Command.Detect here) = detect_tells here x
  effect_tells x (Command.Eject bare) = eject_by_lem (λ (e : Effect). EffectTold b e s) bare x b (λ why. told) told
  effect_tells x Command.Open = told
  effect_tells x (Command.Close n) = told

-- a tick of what is in progress: a movement that ends stands at its goal
carried_tells :
    (kind : Travel → Activity) (known : Bool) (t : Travel) (b : Body) (s : Sum) → ((u : Travel) (plunger exact : ℕ) → toward (kind u) plunger exact ≡ u.goal) →
    Told t.goal b.exact s → EffectTold b (carried kind known (later_of t) b) s
unfolding carried
carried_tells kind known t b s goes told =
    let u = later_of t in
    by (λ (e : Effect). EffectTold b e s) (eqb (plunger_of u) t.goal)
    (λ e. record { sum = told.sum; near = rw (eqb-true (plunger_of u) t.goal e) told.near })
    (λ e. rw (goes u (plunger_of u) b.exact) told)

waited_tells : (k : ℕ) (b : Body) (s : Sum) → Told b.plunger b.exact s → EffectTold b (waited_of k b) s
unfolding waited_of
waited_tells k b s told = by (λ (e : Effect). EffectTold b e s) (leb k 1) (λ h. told) (λ h. told)

-- B's move ends where the search begins, or at the plunger; a search ends at the plunger
approached_tells : (p : Option ℕ) (t : Travel) (z : ℕ) (b : Body) (s : Sum) → Told t.goal b.exact s →
    (let e = approached_of p (later_of t) z (body_at (plunger_of (later_of t)) b) in EffectTold b e.next (added_up s e.events))
unfolding added_up IsSum
approached_tells p t z b s told =
    approached_by (λ (e : Turn Effect). EffectTold b e.next (added_up s e.events)) p (later_of t) z (body_at (plunger_of (later_of t)) b)
    (record { sum = refl; near = omega arith })
    (record { sum = told.sum; near = goal_is_within_half_an_increment b.exact })
    told

found_tells : (f : Finding) (b : Body) (s : Sum) (d : Body) → Told (goal_of d.exact) d.exact s → EffectTold b (found_as f d).next (added_up s (found_as f d).events)
unfolding added_up IsSum
found_tells f b s d told =
    found_by (λ (e : Turn Effect). EffectTold b e.next (added_up s e.events)) d
    (record { sum = refl; near = omega arith })
    (λ why. record { sum = refl; near = omega arith })
    (λ f. told)
    f

onward_tells : (x : Sense) (a : Activity) (b : Body) (s : Sum) → Told (toward a b.plunger b.exact) b.exact s → EffectTold b (onward_of x a b).next (added_up s (onward_of x a b).events)
unfolding onward_of added_up searched_of sought_of
onward_tells x (Initialising t) b s told = carried_tells Initialising true t b s (λ u p e. refl) told
onward_tells x (Moving t) b s told = carried_tells Moving b.initialised t b s (λ u p e. refl) told
onward_tells x (Delaying k) b s told = waited_tells k b s told
onward_tells x (Approaching t z) b s told = approached_tells (felt_in x) t z b s told
onward_tells x (Searching f) b s told = found_tells (finding_of b.settings.detection (Level.later_of f) (felt_in x)) b s (body_at (plunger_in b.settings.detection (Level.later_of f)) b) told
onward_tells x Ejecting b s told = ejected_by (λ (e : Effect). EffectTold b e s) x b told told
onward_tells x Between b s told = told

-- a movement that is cut starts anew at the plunger
cut_tells : (a : Activity) (b : Body) (s : Sum) → Told (toward a b.plunger b.exact) b.exact s → Told (cut_of a b).next.plunger (cut_of a b).next.exact (added_up s (cut_of a b).events)
unfolding cut_of added_up IsSum
cut_tells a b s told =
    by (λ (t : Turn Body). Told t.next.plunger t.next.exact (added_up s t.events)) (in_motion a)
    (λ h. record { sum = refl; near = omega arith })
    (λ h. rw (still a b.plunger b.exact h) at told)

-- between two commands nothing moves
idle : (a : Activity) (plunger exact : ℕ) → between a ≡ true → toward a plunger exact ≡ plunger
idle (Initialising t) p e h = absurd (false≢true h)
idle (Moving t) p e h = absurd (false≢true h)
idle (Delaying k) p e h = absurd (false≢true h)
idle (Approaching t z) p e h = absurd (false≢true h)
idle (Searching f) p e h = absurd (false≢true h)
idle Ejecting p e h = absurd (false≢true h)
idle Between p e h = refl

-- a command that has ended leaves nothing that moves
abbrev Rests : Course → Type 0
Rests c = moving c.state ≡ false

module _ (c : Course) where
  reached_rests : (at : ℕ) (l : Loops) → Rests (reached at l c)
  unfolding reached
  reached_rests at l = by (λ (s : State). moving s ≡ false) (ltb at c.len) (λ h. refl) (λ h. refl)

  halted_rests : Rests (halted c)
  unfolding halted
  halted_rests = by Rests (ltb c.at c.len) (λ h. refl) (λ h. refl)

rests_told : (c : Course) (b : Body) (s : Sum) → Rests c → Told b.plunger b.exact s → CoreTold (core b c) s
rests_told c b s h told = rw (at_rest c.state b.plunger b.exact h) told

module _ (c : Core) where
  abbrev WentTold : Sum → Result Course Refusal → Type 0
  WentTold s g = CoreTold (went_of g c.body c.course).core s

  ended_tells : (b : Body) (at : ℕ) (l : Loops) (s : Sum) → Told b.plunger b.exact s → CoreTold (core b (reached at l c.course)) s
  ended_tells b at l s told = rests_told (reached at l c.course) b s (reached_rests c.course at l) told

  applied_tells : (e : Effect) (next : ℕ) (s : Sum) → EffectTold c.body e s → CoreTold (applied_of e next c).core s
  unfolding applied_of
  applied_tells (Goes b a) next s told = told
  applied_tells (Ends b) next s told = ended_tells b next c.course.loops s told
  applied_tells (Fails why b) next s told = told
  applied_tells Asks next s told = told
  applied_tells Opens next s told = behind_open (WentTold s) c.course (λ at l. ended_tells c.body at l s told) told next
  applied_tells (Closes n) next s told = behind_close (WentTold s) c.course (λ at l. ended_tells c.body at l s told) told n next

  taken_tells : (x : Sense) (f : Found) (s : Sum) → Told c.body.plunger c.body.exact s → CoreTold (taken_of x f c).next.core (added_up s (taken_of x f c).events)
  unfolding taken_of added_up
  taken_tells x (Ok (Some (k, next))) s told = applied_tells (effect_of x k c.body).next next _ (effect_tells c.body s told x k)
  taken_tells x (Err m) s told = told
  taken_tells x (Ok None) s told = ended_tells c.body c.course.at c.course.loops s told

  carried_on_tells : (x : Sense) (a : Activity) (s : Sum) → Told (toward a c.body.plunger c.body.exact) c.body.exact s → CoreTold (carried_on x a c).next.core (added_up s (carried_on x a c).events)
  unfolding carried_on
  carried_on_tells x a s told = applied_tells (onward_of x a c.body).next c.course.at _ (onward_tells x a c.body s told)

  running_tells : (a : Activity) (w : Around) (s : Sum) → Told (toward a c.body.plunger c.body.exact) c.body.exact s → CoreTold (running_of a w c).next.core (added_up s (running_of a w c).events)
  unfolding running_of
  running_tells a w s told =
      by (λ (t : Turn Stepped). CoreTold t.next.core (added_up s t.events)) (between a)
      (λ h. taken_tells w.sense (command_at (take c.course.len w.text) c.course.at) s (rw (idle a c.body.plunger c.body.exact h) at told))
      (λ h. carried_on_tells w.sense a s told)

module _ (c : Core) (s : Sum) (told : CoreTold c s) where
  active_tells : (st : State) (w : Around) → Told (heading st c.body.plunger c.body.exact) c.body.exact s → CoreTold (active_of st w c).next.core (added_up s (active_of st w c).events)
  unfolding active_of added_up
  active_tells (Running a) w h = running_tells c a w s h
  active_tells Empty w h = told
  active_tells Stored w h = told
  active_tells Stopped w h = told
  active_tells Done w h = told

  pub step_tells : (w : Around) → CoreTold (step_of w c).next.core (added_up s (step_of w c).events)
  unfolding step_of
  step_tells w = active_tells c.course.state w told

  halt_tells : (st : State) → Told (heading st c.body.plunger c.body.exact) c.body.exact s → CoreTold (halt_of st c).next (added_up s (halt_of st c).events)
  unfolding halt_of added_up
  halt_tells (Running a) h =
      let t = cut_of a c.body in
      rests_told (halted c.course) t.next (added_up s t.events) (halted_rests c.course) (cut_tells a c.body s h)
  halt_tells Empty h = told
  halt_tells Stored h = told
  halt_tells Stopped h = told
  halt_tells Done h = told

  pub stop_tells : CoreTold (stop_of c).next (added_up s (stop_of c).events)
  unfolding stop_of
  stop_tells = halt_tells c.course.state told

-- the orders that may come while something moves
abbrev MildChange : Change → Type 0
MildChange C.Begin = ⊥
MildChange C.Resume = ⊥
MildChange C.EndDelay = ⊥
MildChange C.Repeat = ⊥
MildChange C.Erase = ⊥
MildChange C.Halt = Unit {0}
MildChange C.Reset = Unit {0}

abbrev Mild : Order → Type 0
Mild (O.Refuse why) = Unit {0}
Mild (O.Load l run) = ⊥
Mild (O.Change k) = MildChange k

mild : (a : Action) → Mild (cell_of a K.Busy)
unfolding cell_of
mild A.Store = tt
mild A.Launch = tt
mild A.Run = tt
mild A.Again = tt
mild A.Clear = tt
mild A.Stop = tt
mild A.Reset = tt

-- a movement's column
busy_moving : (a : Activity) → in_motion a ≡ true → while_of a ≡ K.Busy
busy_moving (Initialising t) h = refl
busy_moving (Moving t) h = refl
busy_moving (Delaying k) h = absurd (false≢true h)
busy_moving (Approaching t z) h = refl
busy_moving (Searching f) h = refl
busy_moving Ejecting h = absurd (false≢true h)
busy_moving Between h = refl

while_moving : (a : Action) (s : State) → moving s ≡ true → Mild (order_of a s)
while_moving a (Running k) h = rw (busy_moving k h) (mild a)
while_moving a Empty h = absurd (false≢true h)
while_moving a Stored h = absurd (false≢true h)
while_moving a Stopped h = absurd (false≢true h)
while_moving a Done h = absurd (false≢true h)

not_moving : (t : Bool) → (t ≡ true → ⊥) → t ≡ false
not_moving true h = absurd (h refl)
not_moving false h = refl

module _ (c : Core) (s : Sum) (told : CoreTold c s) where
  -- an order that no movement allows finds the plunger at rest
  resting : (moving c.course.state ≡ true → ⊥) → Told c.body.plunger c.body.exact s
  resting h = rw (at_rest c.course.state c.body.plunger c.body.exact (not_moving (moving c.course.state) h)) at told

  changed_tells : (k : Change) → (moving c.course.state ≡ true → MildChange k) → CoreTold (changed_of k c).next (added_up s (changed_of k c).events)
  unfolding changed_of added_up reset_of IsSum
  changed_tells C.Begin h = resting h
  changed_tells C.Resume h = resting h
  changed_tells C.EndDelay h = ended_tells c c.body c.course.at c.course.loops s (resting h)
  changed_tells C.Repeat h = resting h
  changed_tells C.Erase h = resting h
  changed_tells C.Halt h = stop_tells c s told
  changed_tells C.Reset h = record { sum = refl; near = omega arith }

  done_tells : (o : Order) (n : ℕ) → (moving c.course.state ≡ true → Mild o) → CoreTold (done_of o n c).next (added_up s (done_of o n c).events)
  unfolding done_of added_up
  done_tells (O.Refuse why) n h = told
  done_tells (O.Load l true) n h = resting h
  done_tells (O.Load l false) n h = resting h
  done_tells (O.Change k) n h = changed_tells k h

  acted_tells : (o : Order) (v : Verdict) (n : ℕ) → (moving c.course.state ≡ true → Mild o) → CoreTold (acted_of o v n c).next (added_up s (acted_of o v n c).events)
  unfolding acted_of added_up
  acted_tells o (Ok tt) n h = done_tells o n h
  acted_tells o (Err why) n h = told

-- a string or a control that is accepted, and one refused, which changes only the last error
pub act_tells : (a : Action) (added : List ℕ) (d : Device) (s : Sum) → CoreTold d.core s → CoreTold (act_of a added d).next.device.core (added_up s (act_of a added d).events)
unfolding act_of
act_tells a added d s told =
    let c = d.core in
    let o = order_of a c.course.state in
    acted_tells c s told o (verdict_of o (take c.course.len d.text) added) (length added) (while_moving a c.course.state)
