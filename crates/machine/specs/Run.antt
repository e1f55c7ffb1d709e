-- 01, "A run of up to N ticks stops early when ready; the answer says how many ticks it used, 0 if ready at once."
use Rattle.std.specs.Prelude.{ℕ, zero, suc, Bool, true, false, if◌then◌else◌}
use Rattle.buffer.specs.declared.course.State.{State}
use Rattle.buffer.specs.declared.course.State.TheVariants.{Empty, Stored, Running, Stopped, Done}
use Rattle.machine.specs.declared.step.Core.{Core}
use Rattle.machine.specs.declared.step.Stepped.{Stepped}
use Rattle.machine.specs.declared.step.Ticked.{Ticked}
use Rattle.machine.specs.Step.{Around, fine, next_of}

-- "It is ready in all but Running."
abbrev pub ready_in : State → Bool
ready_in (Running a) = false
ready_in Empty = true
ready_in Stored = true
ready_in Stopped = true
ready_in Done = true

abbrev pub ready_of : Core → Bool
ready_of c = ready_in c.course.state

-- exactly so many ticks
unfoldable pub ticks_of : ℕ → Around → Stepped → Stepped
ticks_of zero w s = s
ticks_of (suc n) w s = ticks_of n w (next_of w s)

-- the ticks used until ready, of so many allowed
unfoldable pub used_of : ℕ → Around → Stepped → ℕ
used_of zero w s = zero
used_of (suc n) w s = if ready_of s.core then zero else suc (used_of n w (next_of w s))

unfoldable pub run_of : ℕ → Around → Core → Ticked
run_of n w c = let k = used_of n w (fine c) in record { stepped = ticks_of k w (fine c); used = k }
