-- 02, W-201, "Loading in parts": "Long methods come as three frames without R and then R." Nothing that was accepted is lost until it runs.
-- Over any calls from making: between the parts, and between the bytes of each, there may be ticks, runs, stops, listening, reports, frames to others and noise.
use Rattle.std.specs.Prelude.{ℕ, ◌≤◌, ◌≡◌, Bool, true, false, List, [], ◌∷◌, ◌++◌, length}
use Rattle.text.specs.declared.Control.TheVariants.{Run, Stop}
use Rattle.text.specs.declared.Data.TheVariants as D
use Rattle.text.specs.Data.{spaceless, body, received_of}
use Rattle.motion.specs.declared.Activity.TheVariants.{Between}
use Rattle.buffer.specs.declared.course.State.TheVariants.{Stored, Running}
use Rattle.buffer.specs.Course.{no_loops}
use Rattle.machine.specs.declared.Device.{Device}
use Rattle.frames.specs.Refused.{refusal_of, is_report}
use Rattle.frames.specs.Limits.{front_in}
use Rattle.demands.specs.Calls.{Making, lent, Call, byte, after}
use Rattle.demands.specs.InHand.{EndsFrame}
use Rattle.demands.specs.Texts.{held}

-- a call that ends a frame to us with these data
pub record Ends (a : Making) (calls : List Call) (c : Call) (ds : List ℕ) : Type 0 where
  pub last : ℕ
  pub buffer : List ℕ
  pub is : c ≡ byte last (lent buffer)
  pub long : 32 ≤ length buffer
  pub whole : EndsFrame a calls last ds

-- the number such a frame gets then
abbrev pub number_after : Making → List Call → List ℕ → ℕ
number_after a calls ds = refusal_of ds a.address (after a calls).device

-- a string, with R or without, that is accepted
pub record Part (run : Bool) (a : Making) (calls : List Call) (c : Call) (ds : List ℕ) : Type 0 where
  pub ends : Ends a calls c ds
  pub size : ℕ
  pub string : received_of ds ≡ D.Text size run
  pub accepted : number_after a calls ds ≡ 0

-- the text that calls have loaded: of a first string without R, behind what was Stored then, and of every further one;
-- whatever ends no frame to us, a report, a refused frame, and T, leave it alone
pub data Loaded (a : Making) : List Call → List ℕ → Type 0 where
  first : (calls : List Call) (c : Call) (ds : List ℕ) → Part false a calls c ds → Loaded a (calls ++ (c ∷ [])) (front_in (after a calls).device ++ body (spaceless ds))
  part : (calls : List Call) (text : List ℕ) (c : Call) (ds : List ℕ) → Loaded a calls text → Part false a calls c ds → Loaded a (calls ++ (c ∷ [])) (text ++ body (spaceless ds))
  between : (calls : List Call) (text : List ℕ) (c : Call) → Loaded a calls text → ((ds : List ℕ) → Ends a calls c ds → ⊥) → Loaded a (calls ++ (c ∷ [])) text
  report : (calls : List Call) (text : List ℕ) (c : Call) (ds : List ℕ) → Loaded a calls text → Ends a calls c ds → is_report (received_of ds) ≡ true → Loaded a (calls ++ (c ∷ [])) text
  refused : (calls : List Call) (text : List ℕ) (c : Call) (ds : List ℕ) → Loaded a calls text → Ends a calls c ds → (number_after a calls ds ≡ 0 → ⊥) → Loaded a (calls ++ (c ∷ [])) text
  stop : (calls : List Call) (text : List ℕ) (c : Call) (ds : List ℕ) → Loaded a calls text → Ends a calls c ds → received_of ds ≡ D.Control Stop → Loaded a (calls ++ (c ∷ [])) text

-- a device that has a text Stored, and one that runs a text from its start
pub record Keeps (text : List ℕ) (d : Device) : Type 0 where
  pub stored : d.core.course.state ≡ Stored
  pub whole : held d ≡ text

pub record Runs (text : List ℕ) (d : Device) : Type 0 where
  pub running : d.core.course.state ≡ Running Between
  pub start : d.core.course.at ≡ 0
  pub loops : d.core.course.loops ≡ no_loops
  pub whole : held d ≡ text

-- What parts make.
pub record InParts (a : Making) (calls : List Call) (text : List ℕ) : Type 0 where
  -- the parts are Stored, one behind the other, every character of them
  pub parts_are_stored_whole : Loaded a calls text → Keeps text (after a calls).device
  -- and then R that is accepted runs exactly them
  pub parts_and_R_run_as_one_text :
      (c : Call) (ds : List ℕ) → Loaded a calls text → Ends a calls c ds → received_of ds ≡ D.Control Run → number_after a calls ds ≡ 0 → Runs text (after a (calls ++ (c ∷ []))).device
  -- and so does a last part with R
  pub parts_and_a_string_with_R_run_as_one_text :
      (c : Call) (ds : List ℕ) → Loaded a calls text → Part true a calls c ds → Runs (text ++ body (spaceless ds)) (after a (calls ++ (c ∷ []))).device
