-- 01, demand 3: what starts the history of the exact position, what adds to it, and what adds nothing, call by call.
use Rattle.std.specs.Prelude.{ℕ, ◌*◌, ◌≤◌, ◌≡◌, Bool, true, false, List, [], ◌∷◌, Some}
use Rattle.settings.specs.declared.Volume.{Volume}
use Rattle.settings.specs.Units.{millionths_of}
use Rattle.command.specs.declared.refusal.Refusal.{Refusal}
use Rattle.command.specs.declared.Way.{Way}
use Rattle.command.specs.declared.Way.TheVariants.{To, Up, Down}
use Rattle.command.specs.declared.Command.{Command}
use Rattle.command.specs.declared.Command.TheVariants as C
use Rattle.text.specs.declared.Control.TheVariants.{Stop, Reset}
use Rattle.text.specs.declared.Data.TheVariants as D
use Rattle.text.specs.Data.{received_of}
use Rattle.motion.specs.declared.Sense.{Sense}
use Rattle.motion.specs.declared.Activity.{Activity}
use Rattle.motion.specs.declared.Activity.TheVariants.{Initialising, Moving, Delaying, Approaching, Searching, Ejecting, Between}
use Rattle.motion.specs.Events.{start, volume}
use Rattle.motion.specs.Motion.{target_of}
use Rattle.motion.specs.Detect.{felt_in, place_for, no_way_down}
use Rattle.buffer.specs.declared.course.State.{State}
use Rattle.buffer.specs.declared.course.State.TheVariants.{Empty, Stored, Running, Stopped, Done}
use Rattle.machine.specs.History.{moving}
use Rattle.machine.specs.OnCourse.{Failing}
use Rattle.pipettor.specs.declared.Controller.{Controller}
use Rattle.pipettor.specs.Controller.{ticked_of, stopped_of, framing_is}
use Rattle.frames.specs.Frame.{exchange_of}
use Rattle.demands.specs.Calls.{Making, Call, after, history}
use Rattle.demands.specs.Demands.{Takes}

-- a volume in millionths, "at the compensation then in force"
abbrev pub asked : Controller → Volume → ℕ
asked k v = millionths_of v k.device.core.body.settings.rate

-- A, P or D that can be carried out
pub record CarriedOut (k : Controller) (way : Way) (v : Volume) : Type 0 where
  pub takes : Takes k (C.Move way v)
  pub initialised : k.device.core.body.initialised ≡ true
  pub flat : k.device.core.body.settings.start ≤ k.device.core.body.settings.top
  pub exact : ℕ
  pub within : target_of way (asked k v) k.device.core.body.exact ≡ Some exact

-- B that nothing refuses (02, W-206)
pub record Detects (s : Sense) (k : Controller) (here : Bool) : Type 0 where
  pub takes : Takes k (C.Detect here)
  pub initialised : k.device.core.body.initialised ≡ true
  pub way : no_way_down k.device.core.body.settings.detection ≡ false
  pub z : ℕ
  pub reading : felt_in s ≡ Some z

-- B's move to p2, or its search, is in progress
abbrev pub detecting_by : Activity → Bool
detecting_by (Initialising t) = false
detecting_by (Moving t) = false
detecting_by (Delaying k) = false
detecting_by (Approaching t z) = true
detecting_by (Searching f) = true
detecting_by Ejecting = false
detecting_by Between = false

abbrev pub detecting : State → Bool
detecting (Running a) = detecting_by a
detecting Empty = false
detecting Stored = false
detecting Stopped = false
detecting Done = false

abbrev pub detects : Controller → Bool
detects k = detecting k.device.core.course.state

-- neither W nor A, P, D or B
abbrev pub MovesNothing : Command → Type 0
MovesNothing (C.Initialise speed) = ⊥
MovesNothing (C.Move way v) = ⊥
MovesNothing (C.Speed pace n) = Unit {0}
MovesNothing (C.Slopes up down) = Unit {0}
MovesNothing (C.Backlash n) = Unit {0}
MovesNothing (C.Compensate n down) = Unit {0}
MovesNothing (C.Delay ms) = Unit {0}
MovesNothing (C.Set a n) = Unit {0}
MovesNothing (C.Detect here) = ⊥
MovesNothing (C.Eject bare) = Unit {0}
MovesNothing C.Open = Unit {0}
MovesNothing (C.Close n) = Unit {0}

-- the plunger's place, in millionths
abbrev pub plunger_at : Controller → ℕ
plunger_at k = k.device.core.body.plunger * 1000000

pub record Records (s : Sense) (k : Controller) : Type 0 where
  -- "A fresh controller and initialising start it at 0"
  pub W_starts_it_at_0 : (speed : ℕ) → Takes k (C.Initialise speed) → (ticked_of s k).events ≡ start 0 ∷ []
  -- "an absolute move at the exact place asked for"
  pub A_starts_it_at_the_place_asked_for : (v : Volume) → CarriedOut k To v → (ticked_of s k).events ≡ start (asked k v) ∷ []
  -- "plus all aspirations less all dispenses carried out since, each volume at the compensation then in force"
  pub P_adds_its_volume : (v : Volume) → CarriedOut k Up v → (ticked_of s k).events ≡ volume v k.device.core.body.settings.rate true ∷ []
  pub D_takes_its_volume_away : (v : Volume) → CarriedOut k Down v → (ticked_of s k).events ≡ volume v k.device.core.body.settings.rate false ∷ []
  pub a_command_that_fails_adds_nothing : (command : Command) (why : Refusal) → Takes k command → Failing s command k.device.core.body why → (ticked_of s k).events ≡ []
  pub any_other_command_adds_nothing : (command : Command) → Takes k command → MovesNothing command → (ticked_of s k).events ≡ []
  -- 02, W-206: "the move to p2 counts as an A, and the end of a search (by 5 or 6 too), or a 5 that halts that move, as a start at the plunger"
  pub B0_starts_it_at_p2 : Detects s k false → (ticked_of s k).events ≡ start (place_for k.device.core.body) ∷ []
  pub B1_adds_nothing : Detects s k true → (ticked_of s k).events ≡ []
  pub B_that_goes_on_adds_nothing : detects k ≡ true → detects (ticked_of s k).next.controller ≡ true → (ticked_of s k).events ≡ []
  pub the_end_of_B_starts_it_at_the_plunger : detects k ≡ true → detects (ticked_of s k).next.controller ≡ false → (ticked_of s k).events ≡ start (plunger_at (ticked_of s k).next.controller) ∷ []
  pub any_other_tick_that_takes_no_command_adds_nothing : (k.device.core.course.state ≡ Running Between → ⊥) → detects k ≡ false → (ticked_of s k).events ≡ []
  -- "a stop that cuts a movement or a reset at the plunger"; "T without movement doesn't touch it"
  pub a_cut_starts_it_at_the_plunger : moving k.device.core.course.state ≡ true → (stopped_of k).events ≡ start (plunger_at k) ∷ []
  pub a_stop_without_movement_adds_nothing : moving k.device.core.course.state ≡ false → (stopped_of k).events ≡ []
  -- frames: T stops as the host does, !R starts it at the plunger, and no other frame adds anything
  pub T_stops : (buf : List ℕ) → (exchange_of (framing_is k) (84 ∷ []) k.address k.device buf).events ≡ (stopped_of k).events
  pub a_reset_starts_it_at_the_plunger : (buf : List ℕ) → (exchange_of (framing_is k) (33 ∷ 82 ∷ []) k.address k.device buf).events ≡ start (plunger_at k) ∷ []
  pub every_other_frame_adds_nothing :
      (ds buf : List ℕ) → (received_of ds ≡ D.Control Stop → ⊥) → (received_of ds ≡ D.Control Reset → ⊥) → (exchange_of (framing_is k) ds k.address k.device buf).events ≡ []

pub record Recording : Type 0 where
  pub making_starts_it_at_0 : (a : Making) → history a [] ≡ start 0 ∷ []
  pub calling : (a : Making) (calls : List Call) (s : Sense) → Records s (after a calls)
