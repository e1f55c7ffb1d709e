-- 02, W-203, "Tips": when the host is asked to eject, and when the tip counts.
use Rattle.std.specs.Prelude.{ℕ, ◌<◌, ◌≡◌, Bool, true, false, List, eqb, if◌then◌else◌}
use Rattle.basics.specs.Bytes.{every}
use Rattle.command.specs.declared.refusal.Refusal.{Refusal}
use Rattle.command.specs.declared.Command.TheVariants as C
use Rattle.motion.specs.declared.Sense.{Sense}
use Rattle.motion.specs.declared.Activity.TheVariants.{Ejecting}
use Rattle.buffer.specs.declared.course.State.TheVariants.{Running}
use Rattle.machine.specs.declared.step.Core.{Core}
use Rattle.machine.specs.declared.step.Stepped.{Stepped}
use Rattle.machine.specs.Step.{Around, step_of}
use Rattle.machine.specs.Run.{ticks_of}
use Rattle.machine.specs.OnCourse.{Takes, Failing}

-- a tick that takes an E, and doesn't refuse it
pub record Ejects (text : List ℕ) (s : Sense) (c : Core) : Type 0 where
  pub bare : Bool
  pub takes : Takes text c (C.Eject bare)
  pub granted : (why : Refusal) → Failing s (C.Eject bare) c.body why → ⊥

-- an E is taken in the next tick, or in progress
pub data AtEject (text : List ℕ) (c : Core) : Type 0 where
  next_is_one : (bare : Bool) → Takes text c (C.Eject bare) → AtEject text c
  in_progress : c.course.state ≡ Running Ejecting → AtEject text c

-- one of so many ticks asks
pub record AskedIn (n : ℕ) (w : Around) (s : Stepped) : Type 0 where
  pub tick : ℕ
  pub before : tick < n
  pub asks : (step_of w (ticks_of tick w s).core).next.news.eject ≡ true

-- no character of a text is an E
abbrev pub other_than_e : ℕ → Bool
other_than_e b = if eqb b 69 then false else true

abbrev pub NoE : List ℕ → Type 0
NoE t = every other_than_e t ≡ true
