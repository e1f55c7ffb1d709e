-- 02, W-209, "After noise": what a customer whose DT line is noisy may rely on. Of the receiver first, and then of the controller. (OEM framing: `specs/Oem`.)
use Rattle.std.specs.Prelude.{ℕ, min, ◌≤◌, ◌≡◌, List, [], ◌∷◌, ◌++◌, map, length, take, replicate}
use Rattle.line.specs.declared.Framing.{Framing}
use Rattle.line.specs.declared.Framing.TheVariants.{Dt}
use Rattle.line.specs.declared.Deed.{Deed}
use Rattle.line.specs.declared.Deed.TheVariants.{Frame}
use Rattle.line.specs.Dt.{slash}
use Rattle.line.specs.Wire.{fresh_line, framing_of, hear_of, Received, feed, frames_of, Form, dt, front, last_byte, framed, Sendable}
use Rattle.pipettor.specs.declared.address.Address.{Address}
use Rattle.pipettor.specs.declared.Controller.{Controller}
use Rattle.demands.specs.InHand.{Receives}
use Rattle.demands.specs.Calls.{Making, Lent, Call, byte, listen, tick, stop, advance, run, after_of, events_of, answers_of, after}

-- a frame: an address and data
pub record Sent : Type 0 where
  pub address : ℕ
  pub bytes : List ℕ

abbrev pub bytes_of : Form → Sent → List ℕ
bytes_of form f = framed form f.address f.bytes

-- frames one after the other, whole and undamaged: of bytes that a frame may hold
abbrev pub Undamaged : List Sent → Type 0
Undamaged [] = Unit {0}
Undamaged (f ∷ fs) = Sendable dt f.address f.bytes × Undamaged fs

abbrev pub on_the_line : List Sent → List ℕ
on_the_line [] = []
on_the_line (f ∷ fs) = bytes_of dt f ++ on_the_line fs

-- what a receiver reads of a frame: what its last byte completes, and the data that are then kept
pub record Read : Type 0 where
  pub completed : Deed
  pub kept : List ℕ

unfoldable pub read_of : Form → Received → Sent → Read
read_of form r f =
    record {
      completed = (hear_of (feed r (front form f.address f.bytes)).line (last_byte form f.address f.bytes)).deed;
      kept = take (min 320 (length f.bytes)) (feed r (bytes_of form f)).frame;
    }

unfoldable pub reads_of : Received → List Sent → List Read
reads_of r [] = []
reads_of r (f ∷ fs) = read_of dt r f ∷ reads_of (feed r (bytes_of dt f)) fs

-- a frame read as it was sent: its address, how many data bytes it has (321 stands for more than 320), and the first 320 of them
abbrev pub as_sent : Sent → Read
as_sent f = record { completed = Frame f.address (min 321 (length f.bytes)); kept = take 320 f.bytes }

abbrev pub fresh_receiver : Framing → Received
fresh_receiver f = record { line = fresh_line f; frame = replicate 320 0 }

-- damage inside a frame: a byte changed, lost or put in
pub data Damaged : List ℕ → List ℕ → Type 0 where
  changed : (before : List ℕ) (b c : ℕ) (after : List ℕ) → Damaged (before ++ (b ∷ after)) (before ++ (c ∷ after))
  lost : (before : List ℕ) (b : ℕ) (after : List ℕ) → Damaged (before ++ (b ∷ after)) (before ++ after)
  put_in : (before : List ℕ) (b : ℕ) (after : List ℕ) → Damaged (before ++ after) (before ++ (b ∷ after))

-- a receiver of DT in any state, of 320 places, as every receiver has
pub record ReceiverAfterNoise (r : Received) : Type 0 where
  -- after any bytes at all, ending inside a frame or not, every whole frame is read as it was sent, one after the other, ours and others' mixed
  pub frames_are_read_as_they_were_sent : (noise : List ℕ) (fs : List Sent) → Undamaged fs → reads_of (feed r noise) fs ≡ map as_sent fs
  -- "exactly as a fresh receiver would read it"
  pub as_by_a_fresh_receiver : (noise : List ℕ) (fs : List Sent) → Undamaged fs → reads_of (feed r noise) fs ≡ reads_of (fresh_receiver Dt) fs
  -- and their bytes complete these frames, and no other
  pub no_other_frame_is_completed : (noise : List ℕ) (fs : List Sent) → Undamaged fs → frames_of (feed r noise).line (on_the_line fs) ≡ map (λ (f : Sent). (as_sent f).completed) fs
  -- damage inside a frame never makes the next whole frames read otherwise
  pub damage_ends_with_the_frame : (f : Sent) (damaged : List ℕ) (fs : List Sent) → Damaged (bytes_of dt f) damaged → Undamaged fs → reads_of (feed r damaged) fs ≡ reads_of (feed r (bytes_of dt f)) fs

-- a controller with the same device and a fresh receiver
abbrev pub cleared : Controller → Controller
cleared k = let r = fresh_receiver (framing_of k.line) in record { address = k.address; line = r.line; frame = r.frame; device = k.device }

abbrev pub in_dt : Address → Making
in_dt a = record { framing = Dt; address = a }

-- calls that two controllers answer alike, every byte of the buffers lent included, with the same device and the same history
pub record Alike (k l : Controller) (cs : List Call) : Type 0 where
  pub answers : answers_of cs k ≡ answers_of cs l
  pub device : (after_of cs k).device ≡ (after_of cs l).device
  pub events : events_of cs k ≡ events_of cs l

-- a call that gives no byte
abbrev pub Byteless : Call → Type 0
Byteless (byte b l) = ⊥
Byteless (listen bytes) = ⊥
Byteless (tick s) = Unit {0}
Byteless stop = Unit {0}
Byteless (advance n s) = Unit {0}
Byteless (run n s) = Unit {0}

-- calls that give bytes one by one, each with a buffer of its own of 32 bytes at least; ticks, runs and stops may come between
pub data Giving : List ℕ → List Call → Type 0 where
  none_left : Giving [] []
  a_byte : (b : ℕ) (l : Lent) (bs : List ℕ) (cs : List Call) → 32 ≤ length l.buffer → Giving bs cs → Giving (b ∷ bs) (byte b l ∷ cs)
  between : (c : Call) (bs : List ℕ) (cs : List Call) → Byteless c → Giving bs cs → Giving bs (c ∷ cs)

pub record ControllerAfterNoise : Type 0 where
  -- noise is over with the next `/` that is heard: two controllers with one address and one device, whatever each has in hand, do and answer the same for any calls from it on
  pub from_a_slash_on :
      (k l : Controller) → framing_of k.line ≡ Dt → framing_of l.line ≡ Dt → length k.frame ≡ 320 → length l.frame ≡ 320 → k.address ≡ l.address → k.device ≡ l.device →
      (lent : Lent) → 32 ≤ length lent.buffer → (cs : List Call) → Alike k l (byte slash lent ∷ cs)
  -- so whole frames after any calls, noise of any kind among them, act and are answered as by a controller with that device and a fresh receiver; and so do any calls after them
  pub whole_frames_after_any_calls :
      (a : Address) (calls : List Call) (f : Sent) (fs : List Sent) (cs more : List Call) → Undamaged (f ∷ fs) → Giving (on_the_line (f ∷ fs)) cs →
      Alike (after (in_dt a) calls) (cleared (after (in_dt a) calls)) (cs ++ more)
  -- and what noise does that itself holds whole frames: where the bytes so far end in a frame to us, its CR acts as that frame, and every other byte is silent and leaves the device alone
  pub noise_acts_as_the_frames_that_it_holds : (a : Address) (calls : List Call) → Receives (in_dt a) calls
