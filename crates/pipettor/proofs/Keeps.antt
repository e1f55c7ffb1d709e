-- Theorems: `Valid` holds of a controller that is made, and is kept by bytes, one or many, ticks, runs and stops; so are the lengths of its two arrays.
use mathlib.Core.Path.{◌≡◌, ◌∙◌}
use mathlib.Core.List.{List}
use Prim.Native.Nat.{ℕ}
use native.Mathlib.Omega.{arith}
use lib.Dec.{ltb}
use lib.ListN.{length, take}
use Rattle.basics.proofs.Choice.{by}
use Rattle.line.specs.declared.Framing.{Framing}
use Rattle.line.specs.Wire.{hear_of, keep_of, before_frame}
use Rattle.line.proofs.Receiving.{feed_long}
use Rattle.motion.specs.declared.Sense.{Sense}
use Rattle.motion.specs.Events.{Turn}
use Rattle.motion.proofs.Keeps.{fresh_ok}
use Rattle.machine.specs.declared.Device.{Device}
use Rattle.machine.specs.declared.Ran as Machine
use Rattle.machine.specs.Step.{around, fine}
use Rattle.machine.specs.Run.{used_of}
use Rattle.machine.specs.Device.{fresh_of, tick_of, halted_of, advance_of, ran_of}
use Rattle.machine.specs.Valid.{Ready}
use Rattle.command.proofs.Numbers.{every_number_is_1_to_15}
use Rattle.machine.proofs.Keeps.{step_keeps}
use Rattle.machine.proofs.Leaping.{ticks_keep}
use Rattle.machine.proofs.KeepsActs.{error_ok, act_keeps, stop_keeps}
use Rattle.pipettor.specs.declared.address.Address.{Address}
use Rattle.pipettor.specs.declared.acting.Task.{Task}
use Rattle.pipettor.specs.declared.acting.Task.TheVariants as T
use Rattle.pipettor.specs.declared.Controller.{Controller}
use Rattle.pipettor.specs.Address.{letter_of}
use Rattle.pipettor.specs.Valid.{Valid}
use Rattle.pipettor.specs.Byte.{After, got_of, squeezed_of, task_of, size_of, performed_of, dealt_of, heard_of, byte_of}
use Rattle.pipettor.specs.Controller.{ticked, made_of, ticked_of, stopped_of, advanced_of, run_of}
use Rattle.pipettor.specs.Listening.{at, listened_of}
use Rattle.pipettor.proofs.Bytes.{kept_length, squeezed_length}

-- the arrays have the lengths of their types
pub record Sized (k : Controller) : Type 0 where
  pub frame : length k.frame ≡ 320
  pub text : length k.device.text ≡ 256

pub ready_of_lem : (k : Controller) → length k.device.text ≡ 256 → Valid k → Ready k.device.core k.device.text
ready_of_lem k long v = record { valid = v.core; long = long }

-- made
pub made_is_valid : (f : Framing) (a : Address) → Valid (made_of f a).next
unfolding made_of fresh_of
made_is_valid f a = record { core = record { body = fresh_ok; course = record { len = omega arith; state = tt; error = omega arith } } }

module _ (k : Controller) (v : Valid k) where
  pub tick_keeps : (s : Sense) → Valid (ticked_of s k).next.controller
  unfolding ticked_of tick_of
  tick_keeps s = record { core = step_keeps k.device.core v.core (around k.device.text s) }

  pub stop_keeps_valid : Valid (stopped_of k).next
  unfolding stopped_of halted_of
  stop_keeps_valid = record { core = stop_keeps k.device.core v.core }

  pub advance_keeps : (n : ℕ) (s : Sense) → Valid (advanced_of n s k).controller
  unfolding advanced_of advance_of
  advance_keeps n s = record { core = ticks_keep n (around k.device.text s) (fine k.device.core) v.core }

  pub run_keeps : (n : ℕ) (s : Sense) → Valid (run_of n s k).ticked.controller
  unfolding run_of ran_of advanced_of
  run_keeps n s =
      by (λ (r : Machine.Ran). Valid (ticked r.turned k).controller) (ltb 60000 n)
      (λ h. record { core = v.core })
      (λ h. advance_keeps (used_of n (around k.device.text s) (fine k.device.core)) s)

-- a byte
performed_keeps : (t : Task) (added : List ℕ) (d : Device) → Ready d.core d.text → (let e = (performed_of t added d).next.device in Ready e.core e.text)
unfolding performed_of
performed_keeps T.Leave added d r = r
performed_keeps (T.Refuse why) added d r = record { valid = error_ok _ _ d.core (every_number_is_1_to_15 why).1 r.valid; long = r.long }
performed_keeps (T.Act action) added d r = act_keeps action added d r

module _ (k : Controller) (b : ℕ) (buf : List ℕ) (long : length k.device.text ≡ 256) (v : Valid k) where
  dealt_ready : (let e = (byte_of k b buf).next.reply.controller.device in Ready e.core e.text)
  unfolding byte_of heard_of dealt_of
  dealt_ready =
      let ours = letter_of k.address in
      let deed = (hear_of k.line b).deed in
      let frame = keep_of k.frame deed b in
      let got = got_of ours deed frame in
      by (λ (t : Turn After). (let e = t.next.reply.controller.device in Ready e.core e.text)) (ltb (length buf) 32)
      (λ h. ready_of_lem k long v)
      (λ h. performed_keeps (task_of got) (take (size_of got) (squeezed_of ours deed frame)) k.device (ready_of_lem k long v))

  pub byte_keeps : Valid (byte_of k b buf).next.reply.controller
  byte_keeps = record { core = dealt_ready.valid }

  byte_keeps_text : length (byte_of k b buf).next.reply.controller.device.text ≡ 256
  byte_keeps_text = dealt_ready.long

module _ (k : Controller) (b : ℕ) (buf : List ℕ) (s : Sized k) (v : Valid k) where
  frame_keeps : length (byte_of k b buf).next.reply.controller.frame ≡ 320
  unfolding byte_of heard_of
  frame_keeps =
      let deed = (hear_of k.line b).deed in
      let frame = keep_of k.frame deed b in
      by (λ (t : Turn After). length t.next.reply.controller.frame ≡ 320) (ltb (length buf) 32)
      (λ h. s.frame)
      (λ h. squeezed_length (letter_of k.address) deed frame ∙ kept_length k.frame deed b ∙ s.frame)

  pub byte_keeps_sizes : Sized (byte_of k b buf).next.reply.controller
  byte_keeps_sizes = record { frame = frame_keeps; text = byte_keeps_text k b buf s.text v }

-- bytes listened to
module _ (k : Controller) (bytes : List ℕ) where
  pub listen_keeps_valid : Valid k → Valid (listened_of k bytes).controller
  unfolding listened_of
  listen_keeps_valid v = record { core = v.core }

  pub listen_keeps_sizes : Sized k → Sized (listened_of k bytes).controller
  unfolding listened_of
  listen_keeps_sizes s = record { frame = feed_long (at k.line k.frame) (before_frame k.line bytes) ∙ s.frame; text = s.text }
