-- `specs/Searches`, proved: a search of the controller is one of level's (`Trail`), whatever bytes come between its ticks.
use mathlib.Core.Path.{◌≡◌, refl, sym, ap, subst, ◌∙◌}
use mathlib.Core.Bool.{false, true≢false}
use mathlib.Core.List.{List}
use Prim.Native.Nat.{ℕ, ◌*◌}
use native.Mathlib.Omega.{arith}
use lib.Dec.{ltb}
use lib.ListN.{length, take}
use Rattle.std.specs.Prelude.{Err, Ok, Option}
use Rattle.command.specs.Verdict.{Verdict}
use Rattle.basics.proofs.Choice.{by}
use Rattle.settings.specs.declared.Detection.{Detection}
use Rattle.settings.specs.declared.Settings.{Settings}
use Rattle.settings.specs.Limits.{Detected}
use Rattle.command.specs.declared.refusal.Refusal.{Refusal}
use Rattle.command.specs.declared.refusal.Refusal.TheVariants as R
use Rattle.level.specs.declared.Search.{Search}
use Rattle.level.specs.declared.Finding.{Finding}
use Rattle.level.specs.declared.Finding.TheVariants.{TooMuch, Found, Missed, On}
use Rattle.level.specs.Level as Level
use Rattle.level.specs.Level.{plunger_in, finding_of, sought_of}
use Rattle.level.specs.Trail as Trail
use Rattle.level.specs.Trail.{Through, goes_on, Promises}
use Rattle.level.proofs.Trail.{a_search_keeps_its_promises}
use Rattle.line.specs.Wire.{hear_of, keep_of}
use Rattle.motion.specs.declared.Sense.{Sense}
use Rattle.motion.specs.declared.Body.{Body}
use Rattle.motion.specs.declared.Activity.TheVariants.{Searching, Between}
use Rattle.motion.specs.Events.{Turn}
use Rattle.motion.specs.Bodies.{body_at}
use Rattle.motion.specs.Detect.{felt_in, settled_at, found_as, searched_of}
use Rattle.motion.specs.Motion.{onward_of}
use Rattle.buffer.specs.declared.course.State.{State}
use Rattle.buffer.specs.declared.course.State.TheVariants.{Empty, Stored, Running, Stopped, Done}
use Rattle.buffer.specs.declared.course.Loops.{Loops}
use Rattle.buffer.specs.declared.course.Course.{Course}
use Rattle.buffer.specs.declared.order.Change.{Change}
use Rattle.buffer.specs.declared.order.Change.TheVariants as C
use Rattle.buffer.specs.declared.order.Order.{Order}
use Rattle.buffer.specs.declared.order.Order.TheVariants as O
use Rattle.buffer.specs.Course.{in_state, reached, halted}
use Rattle.buffer.specs.Order.{order_of, verdict_of}
use Rattle.machine.specs.declared.step.Core.{Core}
use Rattle.machine.specs.declared.step.Stepped.{Stepped}
use Rattle.machine.specs.declared.Device.{Device}
use Rattle.machine.specs.Step.{around, core, fine, fails, applied_of, carried_on, running_of, active_of, step_of}
use Rattle.machine.specs.Act.{halt_of, stop_of, changed_of, done_of, acted_of, act_of}
use Rattle.machine.specs.Device.{device, tick_of}
use Rattle.pipettor.specs.declared.acting.Task.{Task}
use Rattle.pipettor.specs.declared.acting.Task.TheVariants as T
use Rattle.pipettor.specs.declared.Controller.{Controller}
use Rattle.pipettor.specs.declared.Ticked.{Ticked}
use Rattle.pipettor.specs.Address.{letter_of}
use Rattle.pipettor.specs.Byte.{After, got_of, squeezed_of, task_of, size_of, performed_of, dealt_of, heard_of, byte_of}
use Rattle.pipettor.specs.Controller.{on, ticked_of}
use Rattle.pipettor.specs.Valid.{Valid}
use Rattle.pipettor.proofs.Keeps.{Sized, tick_keeps}
use Rattle.demands.specs.Calls.{lent, byte, tick, call_of}
use Rattle.demands.specs.Records.{detecting}
use Rattle.demands.specs.Searches.{Searches, ticked, told, set_for, Seeking, begins, a_tick, a_byte, Sought, EverySearch}
use Rattle.demands.proofs.Sound.{call_keeps_valid, call_keeps_sized, every_controller_is_sound}
use Rattle.demands.proofs.Beginnings.{begins_at_the_plunger}

-- a state in which a search is in progress, and one without any
abbrev Seeks : State → Search → Type 0
Seeks x f = x ≡ Running (Searching f)

abbrev Rests : State → Type 0
Rests x = (f : Search) → Seeks x f → ⊥

rests : (x : State) → detecting x ≡ false → Rests x
rests x h f e = true≢false (sym (ap detecting e) ∙ h)

-- a command that has ended is no search
reached_rests : (at : ℕ) (l : Loops) (c : Course) → Rests (reached at l c).state
unfolding reached
reached_rests at l c = by Rests (ltb at c.len) (λ _. rests (Running Between) refl) (λ _. rests Done refl)

-- what a tick of a search leaves, the plunger moved, by what it finds
module _ (c : Core) (b : Body) where
  abbrev leaves : Finding → Stepped
  leaves f = applied_of (found_as f b).next c.course.at c

  record Left (f : Finding) (t : Stepped) : Type 0 where
    plunger : t.core.body.plunger ≡ b.plunger
    settings : t.core.body.settings ≡ b.settings
    goes_on_only : (g : Search) → Seeks t.core.course.state g → f ≡ On g
    finds_only : t.news.failed ≡ Ok tt → Rests t.core.course.state → f ≡ Found
    finds : f ≡ Found → (t.news.failed ≡ Ok tt) × Rests t.core.course.state
    settles : Rests t.core.course.state → t.core.body.exact ≡ t.core.body.plunger * 1000000

  failing : (why : Refusal) (f : Finding) → (f ≡ Found → ⊥) → Left f (fails why (settled_at b) c.course)
  failing why f none =
      record {
        plunger = refl;
        settings = refl;
        goes_on_only = λ g e. absurd (rests Empty refl g e);
        finds_only = λ e r. let z : ◌≡◌ {A = ℕ} 0 1 = cc in absurd (omega arith);
        finds = λ e. absurd (none e);
        settles = λ r. refl;
      }

  left : (f : Finding) → Left f (leaves f)
  unfolding found_as applied_of
  left TooMuch = failing R.TooMuchPressure TooMuch (λ e. let z : ◌≡◌ {A = ℕ} 0 1 = cc in omega arith)
  left Missed = failing R.NoLiquid Missed (λ e. let z : ◌≡◌ {A = ℕ} 0 1 = cc in omega arith)
  left Found =
      let over = reached_rests c.course.at c.course.loops c.course in
      record { plunger = refl; settings = refl; goes_on_only = λ g e. absurd (over g e); finds_only = λ e r. refl; finds = λ e. (refl, over); settles = λ r. refl }
  left (On h) =
      record {
        plunger = refl;
        settings = refl;
        goes_on_only = λ g e. cc;
        finds_only = λ e r. absurd (r h refl);
        finds = λ e. let z : ◌≡◌ {A = ℕ} 0 1 = cc in absurd (omega arith);
        settles = λ r. absurd (r h refl);
      }

-- a tick of a search, on the controller
module _ (d : Detection) (k : Controller) (f : Search) (searches : Searches k f) (set : set_for k ≡ d) (s : Sense) where
  abbrev moved : Detection → Body
  moved e = body_at (plunger_in e (Level.later_of f)) k.device.core.body

  abbrev found : Detection → Finding
  found e = finding_of e (Level.later_of f) (felt_in s)

  abbrev turned_by : Stepped → Ticked
  turned_by t = record { controller = on (device k.device.text s.tip t.core) k; news = t.news }

  ticks_as : (ticked_of s k).next ≡ turned_by (leaves k.device.core (moved d) (found d))
  unfolding ticked_of tick_of step_of active_of running_of carried_on onward_of searched_of sought_of
  ticks_as =
      ap (λ (x : State). turned_by (active_of x (around k.device.text s) k.device.core).next) searches
      ∙ ap (λ (e : Detection). turned_by (leaves k.device.core (moved e) (found e))) set

  leaves_so : Left k.device.core (moved d) (found d) (record { core = (ticked s k).device.core; news = (ticked_of s k).next.news })
  leaves_so =
      subst (λ (t : Ticked). Left k.device.core (moved d) (found d) (record { core = t.controller.device.core; news = t.news })) (sym ticks_as)
      (left k.device.core (moved d) (found d))

  going_on : (g : Search) → found d ≡ On g → (ticked_of s k).next ≡ turned_by (fine (core (moved d) (in_state (Running (Searching g)) k.device.core.course)))
  unfolding found_as applied_of
  going_on g e = ticks_as ∙ ap (λ (x : Finding). turned_by (leaves k.device.core (moved d) x)) e

-- a byte begins no search: where one is in progress after it, it was so before, over the same body
abbrev Stays : Core → Core → Type 0
Stays c e = (f : Search) → Seeks e.course.state f → Seeks c.course.state f × (e.body ≡ c.body)

same_stays : (c : Core) → Stays c c
same_stays c f e = (e, refl)

halted_rests : (c : Course) → Rests (halted c).state
unfolding halted
halted_rests c = by (λ (x : Course). Rests x.state) (ltb c.at c.len) (λ _. rests Stopped refl) (λ _. rests Empty refl)

module _ (c : Core) where
  halt_stays : (x : State) → Stays c (halt_of x c).next
  unfolding halt_of
  halt_stays (Running a) = λ f e. absurd (halted_rests c.course f e)
  halt_stays Empty = same_stays c
  halt_stays Stored = same_stays c
  halt_stays Stopped = same_stays c
  halt_stays Done = same_stays c

  change_stays : (change : Change) → Stays c (changed_of change c).next
  unfolding changed_of stop_of
  change_stays C.Begin = λ f e. absurd (rests (Running Between) refl f e)
  change_stays C.Resume = λ f e. absurd (rests (Running Between) refl f e)
  change_stays C.EndDelay = λ f e. absurd (reached_rests c.course.at c.course.loops c.course f e)
  change_stays C.Repeat = λ f e. absurd (rests (Running Between) refl f e)
  change_stays C.Erase = λ f e. absurd (rests Empty refl f e)
  change_stays C.Halt = halt_stays c.course.state
  change_stays C.Reset = λ f e. absurd (rests Empty refl f e)

  done_stays : (order : Order) (n : ℕ) → Stays c (done_of order n c).next
  unfolding done_of
  done_stays (O.Refuse why) n = same_stays c
  done_stays (O.Load loading run) n =
      by (λ (x : Course). Stays c (core c.body x)) run
      (λ _ f e. absurd (rests (Running Between) refl f e))
      (λ _ f e. absurd (rests Stored refl f e))
  done_stays (O.Change change) n = change_stays change

  acted_stays : (order : Order) (v : Verdict) (n : ℕ) → Stays c (acted_of order v n c).next
  unfolding acted_of
  acted_stays order (Ok tt) n = done_stays order n
  acted_stays order (Err why) n = same_stays c

task_stays : (t : Task) (added : List ℕ) (d : Device) → Stays d.core (performed_of t added d).next.device.core
unfolding performed_of act_of
task_stays T.Leave added d = same_stays d.core
task_stays (T.Refuse why) added d = same_stays d.core
task_stays (T.Act action) added d =
    let order = order_of action d.core.course.state in
    acted_stays d.core order (verdict_of order (take d.core.course.len d.text) added) (length added)

byte_stays : (b : ℕ) (buf : List ℕ) (k : Controller) → Stays k.device.core (told b buf k).device.core
unfolding byte_of heard_of dealt_of
byte_stays b buf k =
    let ours = letter_of k.address in
    let deed = (hear_of k.line b).deed in
    let frame = keep_of k.frame deed b in
    let got = got_of ours deed frame in
    by (λ (t : Turn After). Stays k.device.core t.next.reply.controller.device.core) (ltb (length buf) 32)
    (λ _. same_stays k.device.core)
    (λ _. task_stays (task_of got) (take (size_of got) (squeezed_of ours deed frame)) k.device)

-- what holds of a controller that has been searching
module _ (d : Detection) (from z : ℕ) where
  record Under (ps : List (Option ℕ)) (k : Controller) : Type 0 where
    search : Search
    searches : Searches k search
    through : Through d from z ps search
    set : set_for k ≡ d
    valid : Valid k
    sized : Sized k

  under : (ps : List (Option ℕ)) (k : Controller) → Seeking d from z ps k → Under ps k
  unfolding call_of
  under x y (begins a calls e set) =
      let sound = every_controller_is_sound a calls in
      record { search = Level.begun from z; searches = e; through = Trail.begins; set = set; valid = sound.valid; sized = sound.sized }
  under x y (a_tick s ps k f seeking e) =
      let u = under ps k seeking in
      let l = leaves_so d k u.search u.searches u.set s in
      record {
        search = f;
        searches = e;
        through = goes_on (felt_in s) ps u.search f u.through (l.goes_on_only f e);
        set = ap (λ (x : Settings). x.detection) l.settings ∙ u.set;
        valid = call_keeps_valid (tick s) k u.sized u.valid;
        sized = call_keeps_sized (tick s) k u.sized u.valid;
      }
  under x y (a_byte b buf ps k f seeking e) =
      let u = under ps k seeking in
      let same = byte_stays b buf k f e in
      record {
        search = u.search;
        searches = e ∙ sym same.0 ∙ u.searches;
        through = u.through;
        set = ap (λ (x : Body). x.settings.detection) same.1 ∙ u.set;
        valid = call_keeps_valid (byte b (lent buf)) k u.sized u.valid;
        sized = call_keeps_sized (byte b (lent buf)) k u.sized u.valid;
      }

  sought : (ps : List (Option ℕ)) (k : Controller) → Under ps k → Promises d from z → Sought d from z ps k
  sought ps k u promises =
      let f = u.search in
      let l = leaves_so d k f u.searches u.set in
      let began = (promises.it_began_there ps f u.through).0 in
      record {
        search = f;
        searches = u.searches;
        a_tick_for_each_reading = promises.a_tick_for_each_reading ps f u.through;
        it_began_there = promises.it_began_there ps f u.through;
        a_find_means_that_the_last_readings_were_far =
            λ s.
            let far = promises.a_find_means_that_the_last_readings_were_far (felt_in s) ps f u.through in
            record {
              only = λ finds. far.only ((l s).finds_only finds.fine finds.over);
              always = λ h. let both = (l s).finds (far.always h) in record { fine = both.0; over = both.1 };
            };
        no_earlier_tick_had_that = promises.no_earlier_tick_had_that ps f u.through;
        every_search_ends = promises.every_search_ends ps f u.through;
        the_next_tick_puts_the_plunger = λ s. (l s).plunger;
        never_further_than_p4 = λ s. rw (l s).plunger (promises.never_further_than_p4 (Level.later_of f) began);
        nor_out_of_travel = λ s. (tick_keeps k u.valid s).core.body.plunger;
        going_on_changes_nothing_else = going_on d k f u.searches u.set;
        after_it_the_exact_position_is_the_plungers = λ s. (l s).settles;
      }

pub every_search_is_as_promised : EverySearch
every_search_is_as_promised =
    record {
      a_search_begins_at_the_plunger = begins_at_the_plunger;
      no_byte_begins_one = λ b buf k f e. (byte_stays b buf k f e).0;
      every_search = λ d from z ps k seeking.
          let u = under d from z ps k seeking in
          sought d from z ps k u (a_search_keeps_its_promises d from z (subst Detected u.set u.valid.core.body.settings.detection));
    }
