-- 02, W-206: a search of the controller, from the tick that begins it, with any bytes between its ticks.
use Rattle.std.specs.Prelude.{ℕ, ◌+◌, ◌*◌, max, ◌≤◌, ◌<◌, ◌≡◌, List, [], ◌∷◌, length, drop, Ok, Option}
use Rattle.basics.specs.Exactly.{Exactly}
use Rattle.settings.specs.declared.Detection.{Detection}
use Rattle.settings.specs.Units.{ticks_for}
use Rattle.level.specs.declared.Search.{Search}
use Rattle.level.specs.declared.Finding.TheVariants.{On}
use Rattle.level.specs.Level as Level
use Rattle.level.specs.Level.{limit_of, finding_of, plunger_in}
use Rattle.level.specs.Trail.{LastFar, asked_by}
use Rattle.motion.specs.declared.Sense.{Sense}
use Rattle.motion.specs.declared.Activity.TheVariants.{Searching}
use Rattle.motion.specs.Bodies.{body_at}
use Rattle.motion.specs.Detect.{felt_in}
use Rattle.buffer.specs.declared.course.State.TheVariants.{Running}
use Rattle.buffer.specs.Course.{in_state}
use Rattle.machine.specs.Step.{core, no_news}
use Rattle.machine.specs.Device.{device}
use Rattle.pipettor.specs.declared.Controller.{Controller}
use Rattle.pipettor.specs.Controller.{on, ticked_of}
use Rattle.pipettor.specs.Byte.{byte_of}
use Rattle.demands.specs.Calls.{Making, Call, after}

-- a search is in progress
abbrev pub Searches : Controller → Search → Type 0
Searches k f = k.device.core.course.state ≡ Running (Searching f)

abbrev pub ticked : Sense → Controller → Controller
ticked s k = (ticked_of s k).next.controller

abbrev pub told : ℕ → List ℕ → Controller → Controller
told b buf k = (byte_of k b buf).next.reply.controller

abbrev pub set_for : Controller → Detection
set_for k = k.device.core.body.settings.detection

-- a controller of making and calls that has been searching since it began at a place, with z for the zero; the readings of its ticks since, the last one first. Any bytes may have come between the ticks, as long as it went on searching
pub data Seeking (d : Detection) (from z : ℕ) : List (Option ℕ) → Controller → Type 0 where
  begins : (a : Making) (calls : List Call) → Searches (after a calls) (Level.begun from z) → set_for (after a calls) ≡ d → Seeking d from z [] (after a calls)
  a_tick : (s : Sense) (ps : List (Option ℕ)) (k : Controller) (f : Search) → Seeking d from z ps k → Searches (ticked s k) f → Seeking d from z (felt_in s ∷ ps) (ticked s k)
  a_byte : (b : ℕ) (buf : List ℕ) (ps : List (Option ℕ)) (k : Controller) (f : Search) → Seeking d from z ps k → Searches (told b buf k) f → Seeking d from z ps (told b buf k)

-- a tick of a search that ends it without an error: the liquid is found
pub record Finds (s : Sense) (k : Controller) : Type 0 where
  pub fine : (ticked_of s k).next.news.failed ≡ Ok tt
  pub over : (f : Search) → Searches (ticked s k) f → ⊥

-- named for the class
pub record Sought (d : Detection) (from z : ℕ) (ps : List (Option ℕ)) (k : Controller) : Type 0 where
  pub search : Search
  pub searches : Searches k search
  pub a_tick_for_each_reading : search.ticks ≡ length ps
  pub it_began_there : (search.from ≡ from) × (search.zero ≡ z)
  -- "Ten times the count reaching p1 ends the search as found": the last readings, as many as p1 asks for (level, `Trail`), were all further than p0 from the zero, one after the other; and no earlier tick of the search had that
  pub a_find_means_that_the_last_readings_were_far : (s : Sense) → Exactly (Finds s k) (LastFar d z (asked_by d) (felt_in s ∷ ps))
  pub no_earlier_tick_had_that : (i : ℕ) → i < length ps → LastFar d z (asked_by d) (drop i ps) → ⊥
  -- every search ends, whatever the readings: "p4 increments or the end of travel", 100 × limit / p3 ticks rounded up, and one at least
  pub every_search_ends : length ps < max 1 (ticks_for d.speed (limit_of d from))
  -- the plunger never goes further than p4 from where the search began, nor out of travel, in the tick that ends it neither
  pub the_next_tick_puts_the_plunger : (s : Sense) → (ticked s k).device.core.body.plunger ≡ plunger_in d (Level.later_of search)
  pub never_further_than_p4 : (s : Sense) → ((ticked s k).device.core.body.plunger ≤ from + d.most) × (from ≤ (ticked s k).device.core.body.plunger + d.most)
  pub nor_out_of_travel : (s : Sense) → (ticked s k).device.core.body.plunger ≤ 44000
  -- a tick that goes on changes nothing but the plunger, the search's ticks and count, and the tip that is sensed
  pub going_on_changes_nothing_else :
      (s : Sense) (f : Search) → finding_of d (Level.later_of search) (felt_in s) ≡ On f →
      (ticked_of s k).next ≡ record {
        controller = on (device k.device.text s.tip (core (body_at (plunger_in d (Level.later_of search)) k.device.core.body) (in_state (Running (Searching f)) k.device.core.course))) k;
        news = no_news;
      }
  -- after it, however it ended, the exact position is the plunger's
  pub after_it_the_exact_position_is_the_plungers :
      (s : Sense) → ((f : Search) → Searches (ticked s k) f → ⊥) → (ticked s k).device.core.body.exact ≡ (ticked s k).device.core.body.plunger * 1000000

pub record EverySearch : Type 0 where
  -- "it begins at the plunger", in a tick, and by no byte
  pub a_search_begins_at_the_plunger :
      (s : Sense) (k : Controller) (f : Search) → ((g : Search) → Searches k g → ⊥) → Searches (ticked s k) f → f ≡ Level.begun (ticked s k).device.core.body.plunger f.zero
  pub no_byte_begins_one : (b : ℕ) (buf : List ℕ) (k : Controller) (f : Search) → Searches (told b buf k) f → Searches k f
  pub every_search : (d : Detection) (from z : ℕ) (ps : List (Option ℕ)) (k : Controller) → Seeking d from z ps k → Sought d from z ps k
