-- A movement's ticks before the one in which it arrives, passed over at once. That a tick after them is so many ticks is a theorem of proofs/Skipping.
use Rattle.std.specs.Prelude.{ℕ, ◌+◌, ◌-◌, ◌≤◌, min, ◌≡◌}
use Rattle.motion.specs.declared.Travel.{Travel}
use Rattle.motion.specs.declared.Activity.{Activity}
use Rattle.motion.specs.declared.Activity.TheVariants.{Initialising, Moving, Delaying, Approaching, Searching, Ejecting, Between}
use Rattle.buffer.specs.declared.course.State.{State}
use Rattle.buffer.specs.declared.course.State.TheVariants.{Empty, Stored, Running, Stopped, Done}
use Rattle.machine.specs.declared.step.Core.{Core}
use Rattle.machine.specs.declared.step.Stepped.{Stepped}
use Rattle.machine.specs.declared.step.Ticked.{Ticked}
use Rattle.machine.specs.declared.skip.Skipped.{Skipped}
use Rattle.buffer.specs.Course.{in_state}
use Rattle.machine.specs.Step.{Around, core, stepped, next_of}
use Rattle.machine.specs.Movement.{time_of, since}

-- of so many ticks, those before the one in which a movement arrives
unfoldable pub spare_of : Travel → ℕ → ℕ
spare_of t most = min most (time_of t - (t.ticks + 1))

pub record Spare (t : Travel) (most r : ℕ) : Type 0 where
  pub spare : r ≡ spare_of t most
  pub small : t.ticks + r ≤ 44000

abbrev pub skipped : Core → ℕ → Skipped
skipped c n = record { core = c; used = n }

-- so many ticks passed over: what is in progress has counted them
abbrev pub passed_by : Activity → ℕ → Core → Skipped
passed_by a n c = skipped (core c.body (in_state (Running a) c.course)) n

unfoldable pub skipped_in : State → ℕ → Core → Skipped
skipped_in (Running (Initialising t)) most c = let n = spare_of t most in passed_by (Initialising (since t (t.ticks + n))) n c
skipped_in (Running (Moving t)) most c = let n = spare_of t most in passed_by (Moving (since t (t.ticks + n))) n c
skipped_in (Running (Delaying k)) most c = skipped c 0
skipped_in (Running (Approaching t z)) most c = skipped c 0
skipped_in (Running (Searching s)) most c = skipped c 0
skipped_in (Running Ejecting) most c = skipped c 0
skipped_in (Running Between) most c = skipped c 0
skipped_in Empty most c = skipped c 0
skipped_in Stored most c = skipped c 0
skipped_in Stopped most c = skipped c 0
skipped_in Done most c = skipped c 0

unfoldable pub skipped_of : ℕ → Core → Skipped
skipped_of most c = skipped_in c.course.state most c

-- the ticks passed over, of so many, and the next tick
unfoldable pub leapt_of : ℕ → Around → Stepped → Ticked
leapt_of most w s =
    let k = skipped_of most s.core in
    record { stepped = next_of w (stepped k.core s.news); used = k.used + 1 }
