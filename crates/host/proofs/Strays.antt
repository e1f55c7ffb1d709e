-- Theorem: memory that holds no controller is never made one by a call, making apart: what a call doesn't look at it doesn't mend.
use mathlib.Core.Path.{◌≡◌, refl, sym, subst}
use mathlib.Core.Bool.{Bool, true, false, ◌&&◌, false≢true}
use mathlib.Core.List.{List, [], ◌∷◌}
use Prim.Native.Nat.{ℕ}
use lib.Dec.{ltb, leb}
use lib.ListN.{length, get_or, set}
use Rattle.std.specs.Prelude.{Err, Ok, Result}
use Rattle.pipettor.specs.declared.address.S2.{S2}
use Rattle.pipettor.specs.declared.address.Address.{Address}
use Rattle.basics.proofs.Choice.{by}
use Rattle.line.specs.declared.Line.{Line}
use Rattle.line.specs.declared.Deed.{Deed}
use Rattle.line.specs.declared.Deed.TheVariants as W
use Rattle.line.specs.Wire.{hear_of}
use Rattle.motion.specs.declared.Sense.{Sense}
use Rattle.machine.specs.declared.Device.{Device}
use Rattle.machine.specs.declared.Turned.{Turned}
use Rattle.image.specs.Sound.{flag_of}
use Rattle.image.specs.Image.{pose_in, is_pose, idle}
use Rattle.host.specs.Host.{Receiver, Mover, Memory, memory, mover, line_held, receives, moves, address_held, Done, Spoke, turned_in, tick_in, run_in, stop_in, listen_in, ended_by, heard_by, byte_in, addressed, is_image}
use Rattle.host.specs.Session.{Sized, Call, byte, listen, tick, advance, run, stop, call_in}
use Rattle.std.proofs.lemmas.Bool.{and_parts}
use Rattle.host.proofs.Back.{flag_small}
use Rattle.host.proofs.Just.{built}

-- what is wrong elsewhere stays wrong
elsewhere_than_receiver : (a r v : Bool) → (a && (true && v)) ≡ false → (a && (r && v)) ≡ false
elsewhere_than_receiver true true v e = e
elsewhere_than_receiver true false v e = refl
elsewhere_than_receiver false r v e = refl

elsewhere_than_mover : (a r v : Bool) → (a && (r && true)) ≡ false → (a && (r && v)) ≡ false
elsewhere_than_mover true true v e = absurd (false≢true (sym e))
elsewhere_than_mover true false v e = refl
elsewhere_than_mover false r v e = refl

-- another tip, where there was one
another_tip :
    (w n : List ℕ) (a b c d t : ℕ) → leb t 1 ≡ true → leb d 1 ≡ true →
    is_pose (pose_in w n (a ∷ b ∷ c ∷ t ∷ [])) n (a ∷ b ∷ c ∷ t ∷ []) ≡ is_pose (pose_in w n (a ∷ b ∷ c ∷ d ∷ [])) n (a ∷ b ∷ c ∷ d ∷ [])
unfolding is_pose pose_in
another_tip w n a b c d t h i = rw (h, i)

tip_alone : (w n s : List ℕ) (t : ℕ) → length s ≡ 4 → leb t 1 ≡ true → leb (get_or s 3 0) 1 ≡ true → is_pose (pose_in w n (set s 3 t)) n (set s 3 t) ≡ is_pose (pose_in w n s) n s
tip_alone w n s t z h =
    subst (λ (y : List ℕ). leb (get_or y 3 0) 1 ≡ true → is_pose (pose_in w n (set y 3 t)) n (set y 3 t) ≡ is_pose (pose_in w n y) n y) (built 4 s z)
    (another_tip w n (get_or s 0 0) (get_or s 1 0) (get_or s 2 0) (get_or s 3 0) t h)

module _ (m : Memory) (z : Sized m) (e : is_image m ≡ false) where
  abbrev Stray : Memory → Type 0
  Stray x = is_image x ≡ false

  other_receiver : (r : Receiver) → receives m.receiver ≡ true → Stray (memory m.address r m.mover)
  unfolding is_image
  other_receiver r h = elsewhere_than_receiver (addressed (address_held m)) (receives r) (moves m.mover) (rw h at e)

  other_mover : (v : Mover) → moves m.mover ≡ true → Stray (memory m.address m.receiver v)
  unfolding is_image
  other_mover v h = elsewhere_than_mover (addressed (address_held m)) (receives m.receiver) (moves v) (rw h at e)

  -- a byte
  ended_stray : (b : ℕ) (buf : List ℕ) (g : Result Address S2) → address_held m ≡ g → receives m.receiver ≡ true → Stray (ended_by g b buf m).memory
  unfolding ended_by is_image addressed
  ended_stray b buf (Ok a) h r =
      by (λ (x : Spoke). Stray x.memory) (moves m.mover) (λ v. absurd (false≢true (sym (rw (h, r, v) at e)))) (λ v. e)
  ended_stray b buf (Err _) h r = e

  heard_stray : (b : ℕ) (buf : List ℕ) (d : Deed) (l : Line) → receives m.receiver ≡ true → Stray (heard_by d l b buf m).memory
  unfolding heard_by
  heard_stray b buf W.Nothing l r = other_receiver _ r
  heard_stray b buf (W.Keep at) l r = other_receiver _ r
  heard_stray b buf (W.Frame a n) l r = ended_stray b buf (address_held m) refl r

  byte_stray : (b : ℕ) (buf : List ℕ) → Stray (byte_in b buf m).memory
  unfolding byte_in
  byte_stray b buf =
      by (λ (x : Spoke). Stray x.memory) (ltb (length buf) 32)
      (λ h. e)
      (λ h. by (λ (x : Spoke). Stray x.memory) (receives m.receiver) (λ r. heard_stray b buf (hear_of (line_held m.receiver) b).deed (hear_of (line_held m.receiver) b).line r) (λ r. e))

  -- the other calls
  abbrev StrayMover : Done Mover → Type 0
  StrayMover x = Stray (memory m.address m.receiver x.left)

  turned_stray : (f : Device → Turned) → StrayMover (turned_in f m.mover)
  unfolding turned_in
  turned_stray f = by StrayMover (moves m.mover) (λ v. other_mover _ v) (λ v. e)

  idle_stray : (s : Sense) → idle m.mover.small ≡ true → Stray (memory m.address m.receiver (mover m.mover.wide m.mover.words (set m.mover.small 3 (flag_of s.tip)) m.mover.text))
  unfolding is_image idle
  idle_stray s h =
      rw (tip_alone m.mover.wide m.mover.words m.mover.small (flag_of s.tip) z.small (flag_small s.tip) (and_parts (ltb (get_or m.mover.small 1 0) 4) _ h).1) e

  call_stray : (c : Call) → Stray (call_in c m).memory
  unfolding call_in tick_in listen_in run_in stop_in
  call_stray (byte b buf) = byte_stray b buf
  call_stray (listen bytes) =
      by (λ (x : Done Receiver). Stray (memory m.address x.left m.mover)) (receives m.receiver) (λ r. other_receiver _ r) (λ r. e)
  call_stray (tick s) = by StrayMover (idle m.mover.small) (λ h. idle_stray s h) (λ h. turned_stray _)
  call_stray (advance n s) = turned_stray _
  call_stray (run n s) = by StrayMover (moves m.mover) (λ v. other_mover _ v) (λ v. e)
  call_stray stop = by StrayMover (moves m.mover) (λ v. other_mover _ v) (λ v. e)

pub what_is_no_image_stays_none : (c : Call) (m : Memory) → Sized m → is_image m ≡ false → is_image (call_in c m).memory ≡ false
what_is_no_image_stays_none c m z e = call_stray m z e c
