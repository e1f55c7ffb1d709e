-- Making, and what the host calls beside bytes.
use Rattle.std.specs.Prelude.{ℕ, Bool, replicate}
use Rattle.line.specs.declared.Framing.{Framing}
use Rattle.line.specs.Wire.{fresh_line, framing_of}
use Rattle.motion.specs.declared.Sense.{Sense}
use Rattle.motion.specs.Events.{Turn}
use Rattle.machine.specs.declared.Device.{Device}
use Rattle.machine.specs.declared.Turned.{Turned}
use Rattle.machine.specs.Run.{ready_of}
use Rattle.machine.specs.Device.{fresh_of, tick_of, halted_of, advance_of, ran_of}
use Rattle.pipettor.specs.declared.address.Address.{Address}
use Rattle.pipettor.specs.declared.Controller.{Controller}
use Rattle.pipettor.specs.declared.Ticked.{Ticked}
use Rattle.pipettor.specs.declared.Ran.{Ran}

abbrev pub on : Device → Controller → Controller
on d k = record { address = k.address; line = k.line; frame = k.frame; device = d }

-- "chosen at making" (02, W-204): the framing, and the address
unfoldable pub made_of : Framing → Address → Turn Controller
made_of f a = record { next = record { address = a; line = fresh_line f; frame = replicate 320 0; device = fresh_of.next }; events = fresh_of.events }

-- a controller after ticks, and what they tell
abbrev pub ticked : Turned → Controller → Ticked
ticked t k = record { controller = on t.device k; news = t.news }

unfoldable pub ticked_of : Sense → Controller → Turn Ticked
ticked_of s k = let t = tick_of s k.device in record { next = ticked t.next k; events = t.events }

unfoldable pub stopped_of : Controller → Turn Controller
stopped_of k = let t = halted_of k.device in record { next = on t.next k; events = t.events }

unfoldable pub advanced_of : ℕ → Sense → Controller → Ticked
advanced_of n s k = ticked (advance_of n s k.device) k

unfoldable pub run_of : ℕ → Sense → Controller → Ran
run_of n s k = let r = ran_of n s k.device in record { ticked = ticked r.turned k; used = r.used }

abbrev pub framing_is : Controller → Framing
framing_is k = framing_of k.line

-- "It is ready in all but Running."
abbrev pub ready_is : Controller → Bool
ready_is k = ready_of k.device.core
