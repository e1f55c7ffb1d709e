-- Theorems: the fresh device is on course, every call keeps it there, and so does any list of calls.
use mathlib.Core.Path.{◌≡◌, refl, sym, subst, ◌∙◌}
use mathlib.Core.Bool.{Bool, true, false}
use mathlib.Core.List.{List, [], ◌∷◌, ◌++◌, append-nil}
use Prim.Native.Nat.{ℕ, ◌≤◌, ◌<◌}
use native.Mathlib.Omega.{arith}
use borrow.Author.Tests.{ltb-true, ltb-false, lt-ltb, ne_eqb}
use lib.Dec.{ltb, leb, eqb}
use lib.ListN.{length, take, length-append}
use lib.Seq.{length-take-le, take-length}
use Rattle.std.specs.Prelude.{if◌then◌else◌, Err, None, Ok, Option, Result, Some}
use Rattle.command.specs.declared.refusal.Refusal.{Refusal}
use Rattle.command.specs.Verdict.{Verdict}
use Rattle.command.specs.Found.{Found}
use Rattle.basics.proofs.Choice.{by}
use Rattle.settings.specs.declared.Volume.{Volume}
use Rattle.settings.specs.Units.{millionths_of, goal_of, ticks_of}
use Rattle.motion.specs.declared.Sense.{Sense}
use Rattle.motion.specs.declared.Body.{Body}
use Rattle.motion.specs.declared.Travel.{Travel}
use Rattle.motion.specs.declared.Activity.{Activity}
use Rattle.motion.specs.declared.Activity.TheVariants.{Initialising, Moving, Delaying, Approaching, Searching, Ejecting, Between}
use Rattle.motion.specs.declared.Effect.{Effect}
use Rattle.motion.specs.declared.Effect.TheVariants.{Goes, Ends, Fails, Asks, Opens, Closes}
use Rattle.motion.specs.Events.{Turn}
use Rattle.motion.specs.Bodies.{later_of, plunger_of}
use Rattle.motion.specs.Detect.{felt_in, searched_of}
use Rattle.motion.specs.Motion.{home_of, target_of, set_out, aimed, delay_of, effect_of, carried, waited_of, onward_of, between}
use Rattle.motion.proofs.Moves.{move_by_lem, eject_by_lem, ejected_by, detect_by_lem, approached_by, found_by}
use Rattle.command.specs.declared.Way.{Way}
use Rattle.command.specs.declared.Command.{Command}
use Rattle.command.specs.declared.Command.TheVariants as C
use Rattle.command.specs.Command.{command_at}
use Rattle.text.specs.Text.{Step, reads, read_from, read_of}
use Rattle.text.specs.Loops.{Part, opens, closes, plain, part_of, loops_ok, loops_in}
use Rattle.text.specs.Inside.{MayRun}
use Rattle.buffer.specs.declared.course.State.{State}
use Rattle.buffer.specs.declared.course.State.TheVariants.{Empty, Stored, Running, Stopped, Done}
use Rattle.buffer.specs.declared.course.Loops.{Loops}
use Rattle.buffer.specs.declared.course.Course.{Course}
use Rattle.buffer.specs.declared.course.Column.{Column}
use Rattle.buffer.specs.declared.course.Column.TheVariants as Col
use Rattle.buffer.specs.Course.{mark, pushed, popped, repeated, no_loops, pass_of, reached, gone_on, opened_of, closed_by, closed_of, halted, while_of, column_of}
use Rattle.machine.specs.declared.step.Core.{Core}
use Rattle.buffer.specs.declared.order.Action.{Action}
use Rattle.buffer.specs.declared.order.Action.TheVariants as A
use Rattle.buffer.specs.declared.order.Loading.{Loading}
use Rattle.buffer.specs.declared.order.Loading.TheVariants.{Joined, Replacing}
use Rattle.buffer.specs.declared.order.Change.{Change}
use Rattle.buffer.specs.declared.order.Change.TheVariants as K
use Rattle.buffer.specs.declared.order.Order.{Order}
use Rattle.buffer.specs.declared.order.Order.TheVariants as O
use Rattle.machine.specs.declared.Device.{Device}
use Rattle.machine.specs.Step.{around, went_of, applied_of, taken_of, carried_on, running_of, active_of, step_of}
use Rattle.buffer.specs.Order.{cell_of, length_by, loops_by, laid_by, stored_by}
use Rattle.machine.specs.Act.{halt_of, stop_of, changed_of, done_of, acted_of, act_of}
use Rattle.machine.specs.Valid.{Ready}
use Rattle.text.proofs.Joins.{moved, joined_texts_read, joined_texts_loop}
use Rattle.text.proofs.Trees.{what_is_accepted_is_a_tree}
use Rattle.text.proofs.Inside.{Next, a_place_lies_inside, the_start}
use Rattle.machine.specs.Device.{fresh_of, tick_of, halted_of}
use Rattle.machine.specs.History.{Call, call_of, after_of, after}
use Rattle.machine.specs.History.Call.{tick, act, stop}
use Rattle.machine.specs.Refusals.{stored_in, verdict_for}
use Rattle.machine.proofs.Keeps.{step_keeps}
use Rattle.machine.proofs.KeepsActs.{act_keeps, stop_keeps}
use Rattle.machine.proofs.History.{every_call_leaves_the_device_ready}
use Rattle.machine.proofs.Refusals.{what_is_accepted_fits, what_is_accepted_loops}
use Rattle.machine.proofs.OnWay.{ahead_of, way_on, way_room, way_open, way_deep, way_back, way_out}
use Rattle.machine.proofs.Stored.{take_laid}
use Rattle.machine.specs.OnCourse.{OnWay, Loaded, Ahead, AheadIf, Through, StateOn, CourseOn, OnCourse, SentBy, AllSent}

-- what a command does, by what it is to the loops
abbrev pub Fits : Effect → Part → Type 0
Fits (Goes b a) p = (p ≡ plain) × (between a ≡ false)
Fits (Ends b) p = p ≡ plain
Fits (Fails why b) p = Unit {0}
Fits Asks p = p ≡ plain
Fits Opens p = p ≡ opens
Fits (Closes n) p = p ≡ closes n

aimed_fits : (g : Option ℕ) (way : Way) (v : Volume) (b : Body) → Fits (aimed g way v b).next plain
unfolding aimed set_out
aimed_fits (Some exact) way v b = by (λ (e : Effect). Fits e plain) (eqb b.plunger (goal_of exact)) (λ h. refl) (λ h. (refl, refl))
aimed_fits None way v b = tt

pub effect_fits : (x : Sense) (k : Command) (b : Body) → Fits (effect_of x k b).next (part_of k)
unfolding effect_of home_of delay_of
effect_fits x (C.Initialise n) b = by (λ (e : Effect). Fits e plain) (eqb b.plunger 0) (λ h. refl) (λ h. (refl, refl))
effect_fits x (C.Move way v) b =
    move_by_lem (λ (e : Turn Effect). Fits e.next plain) way v b (λ why. tt) (aimed_fits (target_of way (millionths_of v b.settings.rate) b.exact) way v b)
effect_fits x (C.Speed pace n) b = refl
effect_fits x (C.Slopes up down) b = refl
effect_fits x (C.Backlash n) b = refl
effect_fits x (C.Compensate n down) b = refl
effect_fits x (C.Delay ms) b = by (λ (e : Effect). Fits e plain) (eqb (ticks_of ms) 0) (λ h. refl) (λ h. (refl, refl))
effect_fits x (C.Set a n) b = refl
effect_fits x (C.Detect here) b = detect_by_lem (λ (t : Turn Effect). Fits t.next plain) b (λ why. tt) (λ z. (refl, refl)) (λ z. (refl, refl)) (λ z. (refl, refl)) here x
effect_fits x (C.Eject bare) b = eject_by_lem (λ (e : Effect). Fits e plain) bare x b (λ why. tt) refl
effect_fits x C.Open b = refl
effect_fits x (C.Close n) b = refl

-- a tick of what is in progress: it goes on, or has ended
carried_fits : (kind : Travel → Activity) (known : Bool) (t : Travel) (b : Body) → between (kind t) ≡ false → Fits (carried kind known t b) plain
unfolding carried
carried_fits kind known t b e = by (λ (x : Effect). Fits x plain) (eqb (plunger_of t) t.goal) (λ h. refl) (λ h. (refl, e))

waited_fits : (k : ℕ) (b : Body) → Fits (waited_of k b) plain
unfolding waited_of
waited_fits k b = by (λ (x : Effect). Fits x plain) (leb k 1) (λ h. refl) (λ h. (refl, refl))

pub onward_fits : (x : Sense) (a : Activity) (b : Body) → Fits (onward_of x a b).next plain
unfolding onward_of searched_of
onward_fits x (Initialising t) b = carried_fits Initialising true (later_of t) b refl
onward_fits x (Moving t) b = carried_fits Moving b.initialised (later_of t) b refl
onward_fits x (Delaying k) b = waited_fits k b
onward_fits x (Approaching t z) b = approached_by (λ (e : Turn Effect). Fits e.next plain) (felt_in x) (later_of t) z _ tt (refl, refl) (refl, refl)
onward_fits x (Searching f) b = found_by (λ (e : Turn Effect). Fits e.next plain) _ refl (λ why. tt) (λ s. (refl, refl)) _
onward_fits x Ejecting b = ejected_by (λ (e : Effect). Fits e plain) x b tt refl
onward_fits x Between b = refl

-- a tick
module _ (text : List ℕ) (c : Course) (all : length (take c.len text) ≡ c.len) where
  reached_on : (at : ℕ) (l : Loops) → OnWay (take c.len text) at l → CourseOn text (reached at l c)
  unfolding reached
  reached_on at l w =
      let t = take c.len text in
      let inside = a_place_lies_inside t w.may at w.rounds w.place in
      by (λ (s : State). StateOn s t at l) (ltb at c.len)
      (λ h. record { way = w; left = omega (arith, ltb-true at c.len h) })
      (λ h. record { way = w; through = omega (arith, ltb-false at c.len h) })

  gone_on_on : (a : Activity) (at : ℕ) → between a ≡ false → OnWay (take c.len text) at c.loops → CourseOn text (gone_on a at c)
  gone_on_on a at e w = subst (λ (x : Bool). AheadIf x (take c.len text) at c.loops) (sym e) w

  -- a course that goes on, or a run that fails and is erased
  abbrev WentOn : Result Course Refusal → Type 0
  WentOn (Ok on) = CourseOn text on
  WentOn (Err why) = Unit {0}

  module _ (w : OnWay (take c.len text) c.at c.loops) (n : Next (take c.len text) w.may c.at w.rounds) where
    opened_on : part_of n.command ≡ opens → WentOn (opened_of n.next c)
    unfolding opened_of
    opened_on o =
        rw (lt-ltb c.loops.depth 4 (way_room (take c.len text) c.at c.loops w n o))
        (reached_on n.next (pushed (mark n.next 0) c.loops) (way_open (take c.len text) c.at c.loops w n o))

    module _ (k : ℕ) (is : part_of n.command ≡ closes k) where
      closed_by_on : (p : Option ℕ) → CourseOn text (closed_by p n.next c)
      unfolding closed_by
      closed_by_on (Some p) = reached_on c.loops.first.start (repeated p c.loops) (way_back (take c.len text) c.at c.loops w n k is p)
      closed_by_on None = reached_on n.next (popped c.loops) (way_out (take c.len text) c.at c.loops w n k is)

      closed_on : WentOn (closed_of k n.next c)
      unfolding closed_of
      closed_on =
          rw (ne_eqb c.loops.depth 0 (λ h. omega (arith, way_deep (take c.len text) c.at c.loops w n k is)))
          (closed_by_on (pass_of k c.loops.first.passes))

went_on : (text : List ℕ) (g : Result Course Refusal) (b : Body) (c : Course) (all : length (take c.len text) ≡ c.len) → WentOn text c all g → CourseOn text (went_of g b c).core.course
went_on text (Ok on) b c all w = w
went_on text (Err why) b c all w = tt

module _ (text : List ℕ) (c : Core) (all : length (take c.course.len text) ≡ c.course.len) where
  -- what goes on, ends or fails, with the next command at a place of the run's way
  plain_on :
      (e : Effect) (at : ℕ) → Fits e plain → OnWay (take c.course.len text) at c.course.loops → CourseOn text (applied_of e at c).core.course
  unfolding applied_of
  plain_on (Goes b a) at p w = gone_on_on text c.course all a at p.1 w
  plain_on (Ends b) at p w = reached_on text c.course all at c.course.loops w
  plain_on (Fails why b) at p w = tt
  plain_on Asks at p w = gone_on_on text c.course all Ejecting at refl w
  plain_on Opens at p w = let z : ◌≡◌ {A = ℕ} 0 1 = cc in absurd (omega arith)
  plain_on (Closes n) at p w = let z : ◌≡◌ {A = ℕ} 0 1 = cc in absurd (omega arith)

  module _ (w : OnWay (take c.course.len text) c.course.at c.course.loops) (n : Next (take c.course.len text) w.may c.course.at w.rounds) where
    applied_on : (e : Effect) → Fits e (part_of n.command) → CourseOn text (applied_of e n.next c).core.course
    unfolding applied_of
    applied_on (Goes b a) p = plain_on (Goes b a) n.next (refl, p.1) (way_on (take c.course.len text) c.course.at c.course.loops w n p.0)
    applied_on (Ends b) p = plain_on (Ends b) n.next refl (way_on (take c.course.len text) c.course.at c.course.loops w n p)
    applied_on (Fails why b) p = tt
    applied_on Asks p = plain_on Asks n.next refl (way_on (take c.course.len text) c.course.at c.course.loops w n p)
    applied_on Opens p = went_on text (opened_of n.next c.course) c.body c.course all (opened_on text c.course all w n p)
    applied_on (Closes k) p = went_on text (closed_of k n.next c.course) c.body c.course all (closed_on text c.course all w n k p)

    taken_on : (x : Sense) (f : Found) → f ≡ Ok (Some (n.command, n.next)) → CourseOn text (taken_of x f c).next.core.course
    unfolding taken_of
    taken_on x f e = rw e (applied_on (effect_of x n.command c.body).next (effect_fits x n.command c.body))

  carried_on_lem : (x : Sense) (a : Activity) → OnWay (take c.course.len text) c.course.at c.course.loops → CourseOn text (carried_on x a c).next.core.course
  unfolding carried_on
  carried_on_lem x a w = plain_on (onward_of x a c.body).next c.course.at (onward_fits x a c.body) w

  ahead : (x : Sense) → Ahead (take c.course.len text) c.course.at c.course.loops → CourseOn text (taken_of x (command_at (take c.course.len text) c.course.at) c).next.core.course
  ahead x o =
      let t = take c.course.len text in
      let n = ahead_of t c.course.at c.course.loops o in
      taken_on o.way n x (command_at t c.course.at) n.found

  running_on : (x : Sense) (a : Activity) → AheadIf (between a) (take c.course.len text) c.course.at c.course.loops → CourseOn text (running_of a (around text x) c).next.core.course
  unfolding running_of
  running_on x a o = go (between a) o
    where
      go :
          (y : Bool) → AheadIf y (take c.course.len text) c.course.at c.course.loops →
          CourseOn text (if y then taken_of x (command_at (take c.course.len text) c.course.at) c else carried_on x a c).next.core.course
      go true o = ahead x o
      go false o = carried_on_lem x a o

  active_on : (x : Sense) (s : State) → StateOn s (take c.course.len text) c.course.at c.course.loops → CourseOn text c.course → CourseOn text (active_of s (around text x) c).next.core.course
  unfolding active_of
  active_on x (Running a) o was = running_on x a o
  active_on x Empty o was = was
  active_on x Stored o was = was
  active_on x Stopped o was = was
  active_on x Done o was = was

  pub a_tick_keeps_on_course : (x : Sense) → CourseOn text c.course → CourseOn text (step_of (around text x) c).next.core.course
  unfolding step_of
  a_tick_keeps_on_course x o = active_on x c.course.state o o

-- the start of a run
starts_on : (t : List ℕ) → MayRun t → Ahead t 0 no_loops
starts_on t may = record { way = record { may = may; rounds = []; place = the_start t may; deep = refl; marked = tt }; left = may.some }

begins : (t : List ℕ) (steps : List Step) → read_of t ≡ reads steps → loops_ok steps ≡ true → 0 < length t → Ahead t 0 no_loops
begins t steps e ok some = starts_on t (record { steps = steps; reading = e; some = some; tree = what_is_accepted_is_a_tree steps ok })

begins_alone : (t : List ℕ) → Loaded t → loops_in (read_of []) (read_of t) ≡ true → Ahead t 0 no_loops
unfolding read_of read_from
begins_alone t l ok = begins t l.steps l.reading (rw l.reading at ok) l.some

begins_stored : (t : List ℕ) → Loaded t → loops_in (read_of t) (read_of []) ≡ true → Ahead t 0 no_loops
unfolding read_of read_from
begins_stored t l ok = begins t l.steps l.reading (rw (l.reading, append-nil) at ok) l.some

-- two texts that read, one behind the other
joined_loaded : (t u : List ℕ) → Loaded t → Loaded u → Loaded (t ++ u)
joined_loaded t u l k =
    record {
      steps = l.steps ++ moved (length t) k.steps;
      reading = joined_texts_read t u l.steps k.steps l.reading k.reading;
      some = simp length-append (omega (arith, l.some));
    }

begins_joined : (t u : List ℕ) → Loaded t → Loaded u → loops_in (read_of t) (read_of u) ≡ true → Ahead (t ++ u) 0 no_loops
begins_joined t u l k ok =
    begins (t ++ u) (l.steps ++ moved (length t) k.steps)
    (joined_texts_read t u l.steps k.steps l.reading k.reading)
    (sym (joined_texts_loop t u l.steps k.steps l.reading k.reading) ∙ ok)
    (joined_loaded t u l k).some

-- what an order finds, by its cell of the table
abbrev GivenChange : Change → List ℕ → ℕ → Loops → Type 0
GivenChange K.Begin t at l = Loaded t
GivenChange K.Resume t at l = Ahead t at l
GivenChange K.EndDelay t at l = OnWay t at l
GivenChange K.Repeat t at l = Through t at l
GivenChange K.Erase t at l = Unit {0}
GivenChange K.Halt t at l = Unit {0}
GivenChange K.Reset t at l = Unit {0}

abbrev GivenFront : Loading → List ℕ → Type 0
GivenFront Joined t = Loaded t
GivenFront Replacing t = Unit {0}

abbrev Given : Order → List ℕ → ℕ → Loops → List ℕ → Type 0
Given (O.Refuse why) t at l added = Unit {0}
Given (O.Load loading runs) t at l added = GivenFront loading t × Loaded added
Given (O.Change k) t at l added = GivenChange k t at l

-- what a column tells of a run
abbrev ColumnOn : Column → List ℕ → ℕ → Loops → Type 0
ColumnOn Col.Empty t at l = Unit {0}
ColumnOn Col.Stored t at l = Loaded t
ColumnOn Col.Busy t at l = Unit {0}
ColumnOn Col.Delaying t at l = OnWay t at l
ColumnOn Col.Stopped t at l = Ahead t at l
ColumnOn Col.Done t at l = Through t at l

while_on : (a : Activity) (t : List ℕ) (at : ℕ) (l : Loops) → AheadIf (between a) t at l → ColumnOn (while_of a) t at l
while_on (Initialising m) t at l o = tt
while_on (Moving m) t at l o = tt
while_on (Delaying k) t at l o = o
while_on (Approaching m z) t at l o = tt
while_on (Searching f) t at l o = tt
while_on Ejecting t at l o = tt
while_on Between t at l o = tt

column_on : (s : State) (t : List ℕ) (at : ℕ) (l : Loops) → StateOn s t at l → ColumnOn (column_of s) t at l
column_on (Running a) t at l o = while_on a t at l o
column_on Empty t at l o = o
column_on Stored t at l o = o
column_on Stopped t at l o = o
column_on Done t at l o = o

given : (a : Action) (k : Column) (t : List ℕ) (at : ℕ) (l : Loops) (added : List ℕ) → SentBy (act a added) → ColumnOn k t at l → Given (cell_of a k) t at l added
unfolding cell_of
given A.Store Col.Empty t at l added g o = (tt, g)
given A.Store Col.Stored t at l added g o = (o, g)
given A.Store Col.Busy t at l added g o = tt
given A.Store Col.Delaying t at l added g o = tt
given A.Store Col.Stopped t at l added g o = (tt, g)
given A.Store Col.Done t at l added g o = (tt, g)
given A.Launch Col.Empty t at l added g o = (tt, g)
given A.Launch Col.Stored t at l added g o = (o, g)
given A.Launch Col.Busy t at l added g o = tt
given A.Launch Col.Delaying t at l added g o = (tt, g)
given A.Launch Col.Stopped t at l added g o = (tt, g)
given A.Launch Col.Done t at l added g o = (tt, g)
given A.Run Col.Empty t at l added g o = tt
given A.Run Col.Stored t at l added g o = o
given A.Run Col.Busy t at l added g o = tt
given A.Run Col.Delaying t at l added g o = o
given A.Run Col.Stopped t at l added g o = o
given A.Run Col.Done t at l added g o = tt
given A.Again Col.Empty t at l added g o = tt
given A.Again Col.Stored t at l added g o = tt
given A.Again Col.Busy t at l added g o = tt
given A.Again Col.Delaying t at l added g o = tt
given A.Again Col.Stopped t at l added g o = tt
given A.Again Col.Done t at l added g o = o
given A.Clear Col.Empty t at l added g o = tt
given A.Clear Col.Stored t at l added g o = tt
given A.Clear Col.Busy t at l added g o = tt
given A.Clear Col.Delaying t at l added g o = tt
given A.Clear Col.Stopped t at l added g o = tt
given A.Clear Col.Done t at l added g o = tt
given A.Stop k t at l added g o = tt
given A.Reset k t at l added g o = tt

-- the stop
on_way_in : (x : Bool) (t : List ℕ) (at : ℕ) (l : Loops) → AheadIf x t at l → OnWay t at l
on_way_in true t at l o = o.way
on_way_in false t at l o = o

module _ (text : List ℕ) (c : Core) (all : length (take c.course.len text) ≡ c.course.len) where
  halted_on : OnWay (take c.course.len text) c.course.at c.course.loops → CourseOn text (halted c.course)
  unfolding halted
  halted_on w =
      by (CourseOn text) (ltb c.course.at c.course.len)
      (λ h. record { way = w; left = omega (arith, ltb-true c.course.at c.course.len h) })
      (λ h. tt)

  halt_on : (s : State) → StateOn s (take c.course.len text) c.course.at c.course.loops → CourseOn text c.course → CourseOn text (halt_of s c).next.course
  unfolding halt_of
  halt_on (Running a) o was = halted_on (on_way_in (between a) (take c.course.len text) c.course.at c.course.loops o)
  halt_on Empty o was = was
  halt_on Stored o was = was
  halt_on Stopped o was = was
  halt_on Done o was = was

  pub a_stop_keeps_on_course : CourseOn text c.course → CourseOn text (stop_of c).next.course
  unfolding stop_of
  a_stop_keeps_on_course o = halt_on c.course.state o o

  changed_on : (k : Change) → CourseOn text c.course → GivenChange k (take c.course.len text) c.course.at c.course.loops → loops_by (O.Change k) (take c.course.len text) [] ≡ true → CourseOn text (changed_of k c).next.course
  unfolding changed_of loops_by
  changed_on K.Begin was g ok = begins_stored (take c.course.len text) g ok
  changed_on K.Resume was g ok = g
  changed_on K.EndDelay was g ok = reached_on text c.course all c.course.at c.course.loops g
  changed_on K.Repeat was g ok = starts_on (take c.course.len text) g.way.may
  changed_on K.Erase was g ok = tt
  changed_on K.Halt was g ok = a_stop_keeps_on_course was
  changed_on K.Reset was g ok = tt

  none_added : (k : Change) (added : List ℕ) → loops_by (O.Change k) (take c.course.len text) added ≡ loops_by (O.Change k) (take c.course.len text) []
  unfolding loops_by
  none_added K.Begin added = refl
  none_added K.Resume added = refl
  none_added K.EndDelay added = refl
  none_added K.Repeat added = refl
  none_added K.Erase added = refl
  none_added K.Halt added = refl
  none_added K.Reset added = refl

  -- an accepted order
  done_on :
      (o : Order) (added : List ℕ) → CourseOn text c.course → Given o (take c.course.len text) c.course.at c.course.loops added →
      length_by o c.course.len (length added) ≤ length text → loops_by o (take c.course.len text) added ≡ true →
      CourseOn (laid_by o c.course.len added text) (done_of o (length added) c).next.course
  unfolding laid_by done_of loops_by
  done_on (O.Refuse why) added was g fit ok = was
  done_on (O.Load Joined true) added was g fit ok =
      let stored = take c.course.len text in
      rw (take_laid added c.course.len text fit) (begins_joined stored added g.0 g.1 (rw (take-length stored) at ok))
  done_on (O.Load Joined false) added was g fit ok =
      rw (take_laid added c.course.len text fit) (joined_loaded (take c.course.len text) added g.0 g.1)
  done_on (O.Load Replacing true) added was g fit ok = rw (take_laid added 0 text fit) (begins_alone added g.1 ok)
  done_on (O.Load Replacing false) added was g fit ok = rw (take_laid added 0 text fit) g.1
  done_on (O.Change k) added was g fit ok = changed_on k was g (rw (none_added k added) at ok)

  acted_on :
      (o : Order) (v : Verdict) (added : List ℕ) → CourseOn text c.course →
      (v ≡ Ok tt → CourseOn (laid_by o c.course.len added text) (done_of o (length added) c).next.course) →
      CourseOn (stored_by o v c.course.len added text) (acted_of o v (length added) c).next.course
  unfolding stored_by acted_of
  acted_on o (Ok tt) added was is = is refl
  acted_on o (Err why) added was is = was

text_all : (d : Device) → Ready d.core d.text → length (take d.core.course.len d.text) ≡ d.core.course.len
text_all d r = length-take-le d.core.course.len d.text (omega (arith, r.valid.course.len, r.long))

pub an_action_keeps_on_course : (a : Action) (added : List ℕ) (d : Device) → Ready d.core d.text → SentBy (act a added) → OnCourse d → OnCourse (act_of a added d).next.device
unfolding act_of
an_action_keeps_on_course a added d r sent was =
    let c = d.core in
    let k = column_of c.course.state in
    let t = stored_in d in
    let all = text_all d r in
    acted_on d.text c all (cell_of a k) (verdict_for a added d) added was
    (λ e.
    let fit = rw all at (what_is_accepted_fits a added d e) in
    done_on d.text c all (cell_of a k) added was
    (given a k t c.course.at c.course.loops added sent (column_on c.course.state t c.course.at c.course.loops was))
    (omega (arith, r.long)) (what_is_accepted_loops a added d e))

-- any calls from the fresh device, the strings among them of texts that read
pub a_call_keeps_on_course : (k : Call) (d : Device) → Ready d.core d.text → SentBy k → OnCourse d → OnCourse (call_of k d).next
unfolding call_of tick_of halted_of
a_call_keeps_on_course (tick x) d r g o = a_tick_keeps_on_course d.text d.core (text_all d r) x o
a_call_keeps_on_course (act a added) d r g o = an_action_keeps_on_course a added d r g o
a_call_keeps_on_course stop d r g o = a_stop_keeps_on_course d.text d.core (text_all d r) o

pub the_fresh_device_is_on_course : OnCourse fresh_of.next
unfolding fresh_of
the_fresh_device_is_on_course = tt

call_keeps_ready : (k : Call) (d : Device) → Ready d.core d.text → Ready (call_of k d).next.core (call_of k d).next.text
unfolding call_of tick_of halted_of
call_keeps_ready (tick x) d r = record { valid = step_keeps d.core r.valid (around d.text x); long = r.long }
call_keeps_ready (act a added) d r = act_keeps a added d r
call_keeps_ready stop d r = record { valid = stop_keeps d.core r.valid; long = r.long }

calls_keep_on_course : (ks : List Call) (d : Device) → AllSent ks → Ready d.core d.text → OnCourse d → OnCourse (after_of ks d)
unfolding after_of
calls_keep_on_course [] d g r o = o
calls_keep_on_course (k ∷ ks) d g r o = calls_keep_on_course ks (call_of k d).next g.1 (call_keeps_ready k d r) (a_call_keeps_on_course k d r g.0 o)

pub every_device_is_on_course : (calls : List Call) → AllSent calls → OnCourse (after calls)
unfolding after after_of
every_device_is_on_course calls sent = calls_keep_on_course calls fresh_of.next sent (every_call_leaves_the_device_ready []) the_fresh_device_is_on_course
