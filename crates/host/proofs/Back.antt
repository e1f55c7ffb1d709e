-- What is written of a controller is read back as that controller, and is taken.
use mathlib.Core.Path.{◌≡◌, refl}
use mathlib.Core.Bool.{Bool, true, false}
use native.Mathlib.Omega.{arith}
use lib.Dec.{ltb, leb}
use Rattle.std.specs.Prelude.{Ok}
use Rattle.line.specs.declared.Line.{Line}
use Rattle.line.specs.declared.Line.TheVariants.{Dt, Oem}
use Rattle.line.specs.declared.dt.Dt.TheVariants as D
use Rattle.line.specs.declared.oem.Oem.TheVariants as O
use Rattle.motion.specs.declared.Activity.TheVariants.{Initialising, Moving, Delaying, Approaching, Searching, Ejecting, Between}
use Rattle.buffer.specs.declared.course.State.{State}
use Rattle.buffer.specs.declared.course.State.TheVariants.{Empty, Stored, Running, Stopped, Done}
use Rattle.machine.specs.Valid as Machine
use Rattle.pipettor.specs.declared.address.Address.{Address}
use Rattle.pipettor.specs.declared.address.Address.TheVariants.{One, Two, Three, Four, Five, Six, Seven, Eight, Nine}
use Rattle.pipettor.specs.declared.Controller.{Controller}
use Rattle.pipettor.specs.Address.{address_of}
use Rattle.pipettor.specs.Valid.{Valid}
use Rattle.image.specs.declared.receiver.Held.{Held}
use Rattle.image.specs.declared.progress.Progress.{Progress}
use Rattle.image.specs.declared.Pose.{Pose}
use Rattle.image.specs.Receiver.{held_of, line_at, line_by, same_held}
use Rattle.image.specs.Progress.{progress_of, state_at, state_by, same_progress}
use Rattle.image.specs.Sound.{flag_of}
use Rattle.image.specs.Image.{line_of, count_of, line_in, is_line, wide_of, words_of, small_of, pose_in, is_pose}
use Rattle.host.specs.Host.{address_number, address_in, address_held, pose_of, received, moved, encode_of, line_held, receives, device_held, moves, controller_held, addressed, is_image}
use Rattle.image.proofs.Sounding.{valid_sound}

-- numbers are themselves
same_held_lem : (h : Held) → same_held h h ≡ true
unfolding same_held
same_held_lem h = grind arith

same_progress_lem : (p : Progress) → same_progress p p ≡ true
unfolding same_progress
same_progress_lem p = grind arith

-- tags
line_by_tag : (l : Line) → line_by (held_of l) ≡ l
unfolding line_at
line_by_tag (Dt D.Outside) = refl
line_by_tag (Dt D.Started) = refl
line_by_tag (Dt (D.Collecting a n)) = refl
line_by_tag (Oem O.Outside) = refl
line_by_tag (Oem O.Started) = refl
line_by_tag (Oem (O.Addressed a)) = refl
line_by_tag (Oem (O.Collecting h n)) = refl
line_by_tag (Oem (O.Ended h n)) = refl

state_by_tag : (s : State) → state_by (progress_of s) ≡ s
unfolding state_at
state_by_tag Empty = refl
state_by_tag Stored = refl
state_by_tag Stopped = refl
state_by_tag Done = refl
state_by_tag (Running Between) = refl
state_by_tag (Running (Delaying k)) = refl
state_by_tag (Running (Initialising t)) = refl
state_by_tag (Running (Moving t)) = refl
state_by_tag (Running (Approaching t z)) = refl
state_by_tag (Running (Searching s)) = refl
state_by_tag (Running Ejecting) = refl

flag_back : (b : Bool) → ltb 0 (flag_of b) ≡ b
flag_back true = refl
flag_back false = refl

pub flag_small : (b : Bool) → leb (flag_of b) 1 ≡ true
flag_small true = refl
flag_small false = refl

address_back : (a : Address) → address_of (address_number a) ≡ Ok a
unfolding address_of
address_back One = refl
address_back Two = refl
address_back Three = refl
address_back Four = refl
address_back Five = refl
address_back Six = refl
address_back Seven = refl
address_back Eight = refl
address_back Nine = refl

-- the parts
module _ (l : Line) where
  pub line_back : line_in (line_of l) (count_of l) ≡ l
  unfolding line_in
  line_back = line_by_tag l

  pub line_taken : is_line (line_of l) (count_of l) ≡ true
  unfolding is_line
  line_taken = rw line_back (same_held_lem (held_of l))

module _ (p : Pose) where
  pub pose_back : pose_in (wide_of p) (words_of p) (small_of p) ≡ p
  unfolding pose_in
  pose_back = rw (state_by_tag p.core.course.state, flag_back p.core.body.initialised, flag_back p.tip)

  pub pose_taken : Machine.Valid p.core → is_pose (pose_in (wide_of p) (words_of p) (small_of p)) (words_of p) (small_of p) ≡ true
  unfolding is_pose
  pose_taken v =
      rw (
        pose_back,
        same_progress_lem (progress_of p.core.course.state),
        flag_small p.core.body.initialised,
        flag_small p.tip,
        valid_sound p.core v,
      )

-- the whole
module _ (k : Controller) where
  pub address_held_lem : address_held (encode_of k) ≡ Ok k.address
  unfolding encode_of address_in
  address_held_lem = address_back k.address

  pub line_held_lem : line_held (encode_of k).receiver ≡ k.line
  unfolding encode_of received
  line_held_lem = line_back k.line

  pub receiver_taken : receives (encode_of k).receiver ≡ true
  unfolding encode_of received
  receiver_taken = line_taken k.line

  pub device_held_lem : device_held (encode_of k).mover ≡ k.device
  unfolding encode_of moved
  device_held_lem = rw (pose_back (pose_of k.device))

  pub mover_taken : Valid k → moves (encode_of k).mover ≡ true
  unfolding encode_of moved
  mover_taken v = pose_taken (pose_of k.device) v.core

  -- reading is the inverse of writing
  pub controller_held_lem : controller_held k.address (encode_of k) ≡ k
  unfolding encode_of received moved
  controller_held_lem = rw (line_back k.line, pose_back (pose_of k.device))

  pub image_taken : Valid k → is_image (encode_of k) ≡ true
  unfolding is_image addressed
  image_taken v = rw (address_held_lem, receiver_taken, mover_taken v)
