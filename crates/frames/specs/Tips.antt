-- 02, W-203: a controller with another tip, and the one frame that tells.
use Rattle.std.specs.Prelude.{ℕ, Bool, false, eqb, None, Option, Some}
use Rattle.text.specs.declared.Data.{Data}
use Rattle.text.specs.declared.Question.TheVariants as Q
use Rattle.text.specs.declared.Data.TheVariants as D
use Rattle.line.specs.Wire.{hear_of, keep_of}
use Rattle.motion.specs.Events.{Turn}
use Rattle.machine.specs.declared.Device.{Device}
use Rattle.machine.specs.Device.{device}
use Rattle.pipettor.specs.declared.Controller.{Controller}
use Rattle.pipettor.specs.Address.{letter_of}
use Rattle.pipettor.specs.Byte.{got_of, After, after, reply}
use Rattle.pipettor.specs.Controller.{on}

abbrev pub with_tip : Bool → Device → Device
with_tip t d = device d.text t d.core

abbrev pub tipped : Bool → Controller → Controller
tipped t k = on (with_tip t k.device) k

abbrev pub tipped_after : Bool → Turn After → Turn After
tipped_after t a = record { next = after (reply (tipped t a.next.reply.controller) a.next.reply.said) a.next.buffer; events = a.events }

-- data that ask for the tip
abbrev pub asks_tip : Option Data → Bool
asks_tip (Some (D.Report (Q.Value n))) = eqb n 31
asks_tip (Some (D.Report (Q.Query n))) = false
asks_tip (Some (D.Report Q.Address)) = false
asks_tip (Some D.WrongReport) = false
asks_tip (Some (D.Control c)) = false
asks_tip (Some (D.Text n run)) = false
asks_tip (Some (D.Wrong m)) = false
asks_tip (Some D.TooLong) = false
asks_tip None = false

-- a byte that completes a frame to us with such data
abbrev pub completes_tip : Controller → ℕ → Bool
completes_tip k b = let deed = (hear_of k.line b).deed in asks_tip (got_of (letter_of k.address) deed (keep_of k.frame deed b))
