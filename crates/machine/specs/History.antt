-- 01, demand 3: any calls from a fresh device, their history, and the exact position summed from it.
use Rattle.std.specs.Prelude.{ℕ, ◌+◌, ◌*◌, ◌≤◌, ◌≡◌, Bool, true, false, List, [], ◌∷◌, ◌++◌}
use Rattle.settings.specs.Units.{millionths_of}
use Rattle.motion.specs.declared.Sense.{Sense}
use Rattle.motion.specs.Motion.{in_motion}
use Rattle.motion.specs.Events.{Event, start, volume, Turn}
use Rattle.buffer.specs.declared.course.State.{State}
use Rattle.buffer.specs.declared.course.State.TheVariants.{Empty, Stored, Running, Stopped, Done}
use Rattle.buffer.specs.declared.order.Action.{Action}
use Rattle.machine.specs.declared.Device.{Device}
use Rattle.machine.specs.Act.{act_of}
use Rattle.machine.specs.Device.{fresh_of, tick_of, halted_of}

-- a call on a device: a tick with what the host senses, an action with the characters that come with it, the stop
pub data Call : Type 0 where
  tick : Sense → Call
  act : Action → List ℕ → Call
  stop : Call

unfoldable pub call_of : Call → Device → Turn Device
call_of (tick s) d = let t = tick_of s d in record { next = t.next.device; events = t.events }
call_of (act a added) d = let t = act_of a added d in record { next = t.next.device; events = t.events }
call_of stop d = halted_of d

-- the device after calls, first to last, and all that they add to the history, first to last
unfoldable pub after_of : List Call → Device → Device
after_of [] d = d
after_of (k ∷ ks) d = after_of ks (call_of k d).next

unfoldable pub events_of : List Call → Device → List Event
events_of [] d = []
events_of (k ∷ ks) d = (call_of k d).events ++ events_of ks (call_of k d).next

-- the same from the fresh device, whose own event is the first
unfoldable pub after : List Call → Device
after calls = after_of calls fresh_of.next

unfoldable pub history : List Call → List Event
history calls = fresh_of.events ++ events_of calls fresh_of.next

-- "the last starting point plus all aspirations less all dispenses carried out since", in millionths of an increment:
-- what is added and what is taken away are kept apart, so that nothing is cut off at 0
pub record Sum : Type 0 where
  pub origin : ℕ
  pub ups : ℕ
  pub downs : ℕ

abbrev pub sum : ℕ → ℕ → ℕ → Sum
sum origin ups downs = record { origin = origin; ups = ups; downs = downs }

-- "each volume at the compensation then in force"; a start leaves nothing of what was before it
abbrev pub counted : Sum → Event → Sum
counted s (start place) = sum place 0 0
counted s (volume v rate true) = sum s.origin (s.ups + millionths_of v rate) s.downs
counted s (volume v rate false) = sum s.origin s.ups (s.downs + millionths_of v rate)

unfoldable pub added_up : Sum → List Event → Sum
added_up s [] = s
added_up s (e ∷ es) = added_up (counted s e) es

-- a history begins with a start, so that it doesn't matter what it is added to
unfoldable pub sum_of : List Event → Sum
sum_of es = added_up (sum 0 0 0) es

-- an exact position is the sum: exact = origin + ups - downs
unfoldable pub IsSum : ℕ → Sum → Type 0
IsSum exact s = exact + s.downs ≡ s.origin + s.ups

-- a plunger "within half an increment of the exact position", the exact position being the sum
pub record StandsBy (plunger : ℕ) (s : Sum) : Type 0 where
  pub above : plunger * 1000000 + s.downs ≤ s.origin + s.ups + 500000
  pub below : s.origin + s.ups ≤ plunger * 1000000 + s.downs + 500000

-- whether a movement is in progress
abbrev pub moving : State → Bool
moving (Running a) = in_motion a
moving Empty = false
moving Stored = false
moving Stopped = false
moving Done = false
