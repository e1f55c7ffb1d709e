-- 02, W-204: what a rack may rely on whose OEM line is noisy, and what it may not. Of the receiver first, and then of the controller.
use Rattle.std.specs.Prelude.{ℕ, ◌≤◌, ◌≡◌, true, false, List, [], ◌∷◌, ◌++◌, map, length, take, drop, replicate, Err, None, Ok, Some}
use Prim.Native.String.{String}
use Rattle.pipettor.specs.Said.{Said}
use Rattle.basics.specs.Bytes.{chars}
use Rattle.line.specs.declared.Framing.TheVariants.{Oem}
use Rattle.line.specs.Bytes.{printable}
use Rattle.line.specs.Oem.{stx, etx}
use Rattle.line.specs.Wire.{fresh_line, hear_of, Received, feed, frames_of, oem, front, last_byte, framed, sum_due, begun, Sendable}
use Rattle.pipettor.specs.declared.address.Address.{Address}
use Rattle.pipettor.specs.declared.address.Address.TheVariants.{One}
use Rattle.pipettor.specs.declared.Controller.{Controller}
use Rattle.demands.specs.Calls.{Making, Lent, lent, Call, byte, listen, tick, stop, advance, run, Answered, said, taken, told, used, nothing, call_of, after_of, after, answers}
use Rattle.demands.specs.InHand.{awaits_sum, in_hand, byte_seen, unheeded}
use Rattle.demands.specs.Noise.{Sent, bytes_of, read_of, fresh_receiver, cleared, Alike, Giving}

-- a whole frame, of bytes that it may hold and with a sequence of 30h to 37h
abbrev pub Whole : ℕ → Sent → Type 0
Whole s f = Sendable (oem s) f.address f.bytes

-- its bytes, one of them changed: an address, sequence or data byte into another of 20h to 7Eh, or the sum into any other
pub data Damaged (s : ℕ) (f : Sent) : List ℕ → Type 0 where
  in_address : (b : ℕ) → printable b ≡ true → (b ≡ f.address → ⊥) → Damaged s f (front (oem s) b f.bytes ++ (last_byte (oem s) f.address f.bytes ∷ []))
  in_sequence : (b : ℕ) → printable b ≡ true → (b ≡ s → ⊥) → Damaged s f (front (oem b) f.address f.bytes ++ (last_byte (oem s) f.address f.bytes ∷ []))
  in_data :
      (before : List ℕ) (c b : ℕ) (after : List ℕ) → f.bytes ≡ before ++ (c ∷ after) → printable b ≡ true → (b ≡ c → ⊥) →
      Damaged s f (front (oem s) f.address (before ++ (b ∷ after)) ++ (last_byte (oem s) f.address f.bytes ∷ []))
  in_sum : (b : ℕ) → (b ≡ last_byte (oem s) f.address f.bytes → ⊥) → Damaged s f (front (oem s) f.address f.bytes ++ (b ∷ []))

-- a whole frame but for its 02h
abbrev pub behind_stx : ℕ → Sent → List ℕ
behind_stx s f = f.address ∷ s ∷ (f.bytes ++ (etx ∷ [])) ++ (last_byte (oem s) f.address f.bytes ∷ [])

-- a receiver of OEM in any state, of 320 places, as every receiver has
pub record OemReceiver (r : Received) : Type 0 where
  -- one that is not waiting for a sum completes nothing in a damaged frame, and is then outside a frame
  pub a_damaged_frame_completes_none :
      sum_due r.line ≡ false → (s : ℕ) (f : Sent) (damaged : List ℕ) → Whole s f → Damaged s f damaged → (frames_of r.line damaged ≡ []) × ((feed r damaged).line ≡ fresh_line Oem)
  -- of two whole frames in a row the second is read as by a fresh receiver
  pub the_second_is_read_as_by_a_fresh_one :
      (s t : ℕ) (f g : Sent) → Whole s f → Whole t g → read_of (oem t) (feed r (bytes_of (oem s) f)) g ≡ read_of (oem t) (fresh_receiver Oem) g
  -- and the first too, where no sum is due
  pub the_first_where_no_sum_is_due : sum_due r.line ≡ false → (s : ℕ) (f : Sent) → Whole s f → read_of (oem s) r f ≡ read_of (oem s) (fresh_receiver Oem) f
  -- where one is due, the first frame's 02h is taken as that sum, and the rest completes no frame; its own sum, if it is 02h, starts one
  pub the_first_where_a_sum_is_due :
      sum_due r.line ≡ true → (s : ℕ) (f : Sent) → Whole s f → (frames_of (hear_of r.line stx).line (behind_stx s f) ≡ []) × ((feed r (bytes_of (oem s) f)).line ≡ begun (last_byte (oem s) f.address f.bytes))

-- a call that gives no byte, or one that is silent: nothing is said, written, done or added to the history by it
abbrev pub IsSilent : Controller → Call → Type 0
IsSilent k (byte b l) = byte_seen k b l.buffer ≡ unheeded k l.buffer
IsSilent k (listen bytes) = Unit {0}
IsSilent k (tick s) = Unit {0}
IsSilent k stop = Unit {0}
IsSilent k (advance n s) = Unit {0}
IsSilent k (run n s) = Unit {0}

-- all of them
abbrev pub Ignores : Controller → List Call → Type 0
Ignores k [] = Unit {0}
Ignores k (c ∷ cs) = IsSilent k c × Ignores (call_of c k).next cs

abbrev pub in_oem : Address → Making
in_oem a = record { framing = Oem; address = a }

-- After any calls, whatever ticks, runs, stops and buffers come between the bytes of a frame:
pub record OemController (a : Address) (calls : List Call) : Type 0 where
  pub a_damaged_frame_is_silent :
      awaits_sum (in_hand Oem calls) ≡ false → (s : ℕ) (f : Sent) (damaged : List ℕ) (cs : List Call) → Whole s f → Damaged s f damaged → Giving damaged cs → Ignores (after (in_oem a) calls) cs
  -- a whole frame, and any calls after it, act and are answered as by a controller with that device and a fresh receiver: the second of two always
  pub the_second_frame_acts_as_by_a_fresh_one :
      (s t : ℕ) (f g : Sent) (first second more : List Call) → Whole s f → Whole t g → Giving (bytes_of (oem s) f) first → Giving (bytes_of (oem t) g) second →
      (let k = after_of first (after (in_oem a) calls) in Alike k (cleared k) (second ++ more))
  -- the first where the bytes before it don't end behind a frame's 03h
  pub the_first_where_no_sum_is_awaited :
      awaits_sum (in_hand Oem calls) ≡ false → (s : ℕ) (f : Sent) (cs more : List Call) → Whole s f → Giving (bytes_of (oem s) f) cs → (let k = after (in_oem a) calls in Alike k (cleared k) (cs ++ more))
  -- and where they do it is lost: its 02h is judged as that sum, and all behind it is silent
  pub the_first_where_a_sum_is_awaited :
      awaits_sum (in_hand Oem calls) ≡ true → (s : ℕ) (f : Sent) (l : Lent) (cs : List Call) → Whole s f → 32 ≤ length l.buffer → Giving (behind_stx s f) cs →
      Ignores (call_of (byte stx l) (after (in_oem a) calls)).next cs

-- Computed from a fresh controller at address 1: the answers to bytes, each in full
abbrev pub given : List ℕ → List Call
given bytes = map (λ (b : ℕ). byte b (lent (replicate 32 0))) bytes

abbrev pub told_by : Said → Lent → List (List ℕ) → List (List ℕ)
told_by (Ok None) l later = later
told_by (Ok (Some n)) l later = take n l.buffer ∷ later
told_by (Err _) l later = later

abbrev pub told_by_all : List Answered → List (List ℕ)
told_by_all [] = []
told_by_all (said s l ∷ later) = told_by s l (told_by_all later)
told_by_all (taken n ∷ later) = told_by_all later
told_by_all (told v ∷ later) = told_by_all later
told_by_all (used v u ∷ later) = told_by_all later
told_by_all (nothing ∷ later) = told_by_all later

abbrev pub answers_to : List ℕ → List (List ℕ)
answers_to bytes = told_by_all (answers (in_oem One) (given bytes))

-- a frame to address 1 with sequence 30h; one whose own sum is 02h; and a frame of no data but for its sum
abbrev pub to_one : String → List ℕ
to_one text = framed (oem 48) 49 (chars text)

abbrev pub unsummed : List ℕ
unsummed = 2 ∷ 49 ∷ 48 ∷ 3 ∷ []

pub record OemExamples : Type 0 where
  -- "Source 002's `02 30 40 03 51` is a misprint: the sum is 71h."
  pub busy_is_71h : answers_to (to_one "A5R") ≡ (2 ∷ 48 ∷ 64 ∷ 3 ∷ 113 ∷ []) ∷ []
  pub ready_is_51h : answers_to (to_one "Q") ≡ (2 ∷ 48 ∷ 96 ∷ 3 ∷ 81 ∷ []) ∷ []
  -- data in the answer, and an error: both are in the sum
  pub data_are_summed : answers_to (to_one "?17") ≡ (2 ∷ 48 ∷ 96 ∷ 49 ∷ 49 ∷ 48 ∷ 48 ∷ 3 ∷ 81 ∷ []) ∷ []
  -- "The checksum may be any byte, 02h included"
  pub a_sum_of_02h_is_a_sum : (last_byte (oem 48) 49 (chars "13") ≡ 2) × (answers_to (to_one "13") ≡ (2 ∷ 48 ∷ 98 ∷ 3 ∷ 83 ∷ []) ∷ [])
  -- "sequence 30h to 37h"
  pub sequence_37h : answers_to (framed (oem 55) 49 (chars "Q")) ≡ (2 ∷ 48 ∷ 96 ∷ 3 ∷ 81 ∷ []) ∷ []
  pub sequence_38h_is_silent : answers_to (framed (oem 56) 49 (chars "Q")) ≡ []
  pub sequence_2Fh_is_silent : answers_to (framed (oem 47) 49 (chars "Q")) ≡ []
  pub another_address_is_silent : answers_to (framed (oem 48) 50 (chars "Q")) ≡ []
  -- `/` is a data byte like others, and CR drops the frame
  pub a_slash_is_data : answers_to (to_one "/") ≡ (2 ∷ 48 ∷ 98 ∷ 3 ∷ 83 ∷ []) ∷ []
  pub a_CR_drops_the_frame : answers_to (2 ∷ 49 ∷ 48 ∷ 13 ∷ 81 ∷ 3 ∷ 92 ∷ []) ≡ []
  -- the shortest frame whose sum is missing: the next frame is lost, and the one behind it is read
  pub the_next_frame_is_lost : answers_to (unsummed ++ to_one "Q") ≡ []
  pub the_one_behind_it_is_read : answers_to (unsummed ++ to_one "Q" ++ to_one "Q") ≡ (2 ∷ 48 ∷ 96 ∷ 3 ∷ 81 ∷ []) ∷ []
  -- a lost frame's own sum of 02h has begun a frame: one without its 02h is then answered
  pub its_own_02h_begins_a_frame : answers_to (unsummed ++ to_one "13" ++ drop 1 (to_one "Q")) ≡ (2 ∷ 48 ∷ 96 ∷ 3 ∷ 81 ∷ []) ∷ []
