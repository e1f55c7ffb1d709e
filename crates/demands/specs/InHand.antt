-- What has been received of a frame after any calls, by the words of 01 and 02 alone: without the receiver, its limit of 320 data bytes, or the frame it keeps.
-- And what one more byte then does, whatever ticks, runs, stops and buffers came between the bytes of a frame.
use Rattle.std.specs.Prelude.{ℕ, ◌≤◌, ◌≡◌, Bool, true, false, ◌&&◌, List, [], ◌∷◌, ◌++◌, ltb, eqb, length, if◌then◌else◌, None, Ok}
use Rattle.basics.specs.Exactly.{Exactly}
use Rattle.line.specs.declared.Framing.{Framing}
use Rattle.line.specs.declared.Framing.TheVariants as F
use Rattle.line.specs.Bytes.{printable}
use Rattle.line.specs.Dt.{slash, cr}
use Rattle.line.specs.Oem.{stx, etx, sequenced}
use Rattle.line.specs.Wire.{Form, oem, formed, front, last_byte, Sendable}
use Rattle.motion.specs.Events.{Turn, quiet}
use Rattle.pipettor.specs.declared.Controller.{Controller}
use Rattle.pipettor.specs.Address.{letter_of}
use Rattle.pipettor.specs.Byte.{Exchange, byte_of}
use Rattle.frames.specs.Frame.{exchange_of}
use Rattle.demands.specs.Calls.{Making, lent, Call, byte, listen, tick, stop, advance, run, said, call_of, after, history, answers}
use Rattle.demands.specs.Promises.{Program, TakesAll, left_by, answered_by}
use Rattle.demands.specs.Frames.{Treated}

-- DT: nothing; a `/`; an address, with all data bytes since
pub data DtHand : Type 0 where
  none : DtHand
  begun : DtHand
  to : ℕ → List ℕ → DtHand

-- a byte of 20h to 7Eh: "Outside a frame everything but `/` is ignored"; "Frame: `/` (2Fh), address, data, CR (0Dh)"
abbrev pub longer : DtHand → ℕ → DtHand
longer none b = none
longer begun b = to b []
longer (to a ds) b = to a (ds ++ (b ∷ []))

-- "`/` always starts a new frame and drops the one in hand."
-- CR ends a frame, and "CR straight after `/` drops the frame": either way nothing is left in hand.
-- "A byte other than CR and 20h to 7Eh drops the frame; the receiver waits for `/`."
unfoldable pub dt_of : DtHand → ℕ → DtHand
dt_of h b =
    if eqb b slash then begun
    else if eqb b cr then none
    else if printable b then longer h b
    else none

-- OEM: nothing; a 02h; an address behind it; an address and a sequence, with all data bytes since; the same, and the 03h behind them
pub data OemHand : Type 0 where
  idle : OemHand
  started : OemHand
  addressed : ℕ → OemHand
  collecting : ℕ → ℕ → List ℕ → OemHand
  closed : ℕ → ℕ → List ℕ → OemHand

-- "until 03h, 02h starts afresh, and 03h in place of address or sequence, or another byte outside 20h to 7Eh, drops the frame"
unfoldable pub headed : ℕ → OemHand → OemHand
headed b next = if eqb b stx then started else if printable b then next else idle

-- behind the 03h: "The checksum may be any byte, 02h included"
unfoldable pub oem_of : OemHand → ℕ → OemHand
oem_of idle b = if eqb b stx then started else idle
oem_of started b = headed b (addressed b)
oem_of (addressed a) b = headed b (collecting a b [])
oem_of (collecting a s ds) b = if eqb b stx then started else if eqb b etx then closed a s ds else if printable b then collecting a s (ds ++ (b ∷ [])) else idle
oem_of (closed a s ds) b = idle

-- in either framing
pub data Hand : Type 0 where
  dt_hand : DtHand → Hand
  oem_hand : OemHand → Hand

abbrev pub empty_hand : Framing → Hand
empty_hand F.Dt = dt_hand none
empty_hand F.Oem = oem_hand idle

abbrev pub hand_of : Hand → ℕ → Hand
hand_of (dt_hand h) b = dt_hand (dt_of h b)
hand_of (oem_hand h) b = oem_hand (oem_of h b)

-- "Bytes come one at a time."
unfoldable pub hands_of : Hand → List ℕ → Hand
hands_of h [] = h
hands_of h (b ∷ bs) = hands_of (hand_of h b) bs

-- what a byte ends: no frame, or one to an address with these data
pub data Ending : Type 0 where
  no_frame : Ending
  frame : ℕ → List ℕ → Ending

-- in DT a CR; in OEM the right sum, of a frame with a sequence of 30h to 37h: "a bad sum, sequence .., judged once the sum is in, is silent"
unfoldable pub ended_by : Hand → ℕ → Ending
ended_by (dt_hand none) b = no_frame
ended_by (dt_hand begun) b = no_frame
ended_by (dt_hand (to a ds)) b = if eqb b cr then frame a ds else no_frame
ended_by (oem_hand idle) b = no_frame
ended_by (oem_hand started) b = no_frame
ended_by (oem_hand (addressed a)) b = no_frame
ended_by (oem_hand (collecting a s ds)) b = no_frame
ended_by (oem_hand (closed a s ds)) b = if eqb b (last_byte (oem s) a ds) && sequenced s then frame a ds else no_frame

abbrev pub ends : Ending → Bool
ends no_frame = false
ends (frame a ds) = true

-- the bytes that a call brings: "S1: answer buffer lent is shorter than 32 bytes: controller and buffer unchanged"; listening takes those before one that ends a frame
unfoldable pub unended : Hand → List ℕ → List ℕ
unended h [] = []
unended h (b ∷ bs) = if ends (ended_by h b) then [] else b ∷ unended (hand_of h b) bs

abbrev pub brought_by : Hand → Call → List ℕ
brought_by h (byte b l) = if ltb (length l.buffer) 32 then [] else b ∷ []
brought_by h (listen bytes) = unended h bytes
brought_by h (tick s) = []
brought_by h stop = []
brought_by h (advance n s) = []
brought_by h (run n s) = []

-- all that calls bring, first to last, and what they leave in hand from making on
unfoldable pub brought_from : Hand → List Call → List ℕ
brought_from h [] = []
brought_from h (c ∷ cs) = brought_by h c ++ brought_from (hands_of h (brought_by h c)) cs

abbrev pub brought : Framing → List Call → List ℕ
brought f calls = brought_from (empty_hand f) calls

unfoldable pub in_hand : Framing → List Call → Hand
in_hand f calls = hands_of (empty_hand f) (brought f calls)

-- OEM: a frame's 03h is in, and its sum isn't
abbrev pub awaits_sum : Hand → Bool
awaits_sum (dt_hand h) = false
awaits_sum (oem_hand idle) = false
awaits_sum (oem_hand started) = false
awaits_sum (oem_hand (addressed a)) = false
awaits_sum (oem_hand (collecting a s ds)) = false
awaits_sum (oem_hand (closed a s ds)) = true

-- bytes that end with a whole frame, the last of them apart; whatever came before it, but for bytes that end behind a 03h: there its first byte would be a sum
pub record EndIn (f : Framing) (to-whom : ℕ) (ds bs : List ℕ) (b : ℕ) : Type 0 where
  pub form : Form
  pub framing : formed form ≡ f
  pub good : Sendable form to-whom ds
  pub noise : List ℕ
  pub heard : awaits_sum (hands_of (empty_hand f) noise) ≡ false
  pub whole : bs ≡ noise ++ front form to-whom ds
  pub last : b ≡ last_byte form to-whom ds

-- what is seen of one byte: the device, what is said, and the buffer; with what it adds to the history
abbrev pub byte_seen : Controller → ℕ → List ℕ → Turn Exchange
byte_seen k b buf =
    let t = byte_of k b buf in
    record { next = record { device = t.next.reply.controller.device; said = t.next.reply.said; buffer = t.next.buffer }; events = t.events }

-- "All of these are silent": nothing is said, written, done or added to the history
abbrev pub unheeded : Controller → List ℕ → Turn Exchange
unheeded k buf = quiet (record { device = k.device; said = Ok None; buffer = buf })

-- a byte that ends a frame to us with these data; and one that ends none, of noise or of a frame to another address ("Any other address: silent")
abbrev pub EndsFrame : Making → List Call → ℕ → List ℕ → Type 0
EndsFrame a calls b ds = ended_by (in_hand a.framing calls) b ≡ frame (letter_of a.address) ds

abbrev pub EndsNone : Making → List Call → ℕ → Type 0
EndsNone a calls b = (ds : List ℕ) → EndsFrame a calls b ds → ⊥

-- After any calls, in either framing:
pub record Receives (a : Making) (calls : List Call) : Type 0 where
  -- a byte ends a frame exactly where the bytes so far, with it, end with that frame
  pub a_frame_ends_exactly_where_the_bytes_end_with_it :
      (to-whom : ℕ) (ds : List ℕ) (b : ℕ) → Exactly (ended_by (in_hand a.framing calls) b ≡ frame to-whom ds) (EndIn a.framing to-whom ds (brought a.framing calls) b)
  -- a frame to us: answer, buffer, device and history are those of the exchange of its data, the address and the device
  pub a_frame_that_ends_is_an_exchange :
      (b : ℕ) (ds buf : List ℕ) → EndsFrame a calls b ds → 32 ≤ length buf → byte_seen (after a calls) b buf ≡ exchange_of a.framing ds a.address (after a calls).device buf
  -- it gets each number exactly where 01's table gives it, and leaves what the table says
  pub a_frame_that_ends_is_treated_by_the_table :
      (b : ℕ) (ds buf : List ℕ) → EndsFrame a calls b ds → 32 ≤ length buf → Treated a.framing ds a.address (after a calls).device buf (byte_seen (after a calls) b buf)
  -- any other byte, and all that are listened to
  pub every_other_byte_is_silent : (b : ℕ) (buf : List ℕ) → EndsNone a calls b → 32 ≤ length buf → byte_seen (after a calls) b buf ≡ unheeded (after a calls) buf
  pub listening_does_nothing : (bytes : List ℕ) → (let t = call_of (listen bytes) (after a calls) in (t.next.device ≡ (after a calls).device) × (t.events ≡ []))

-- calls, and then one byte
abbrev pub one_byte : List Call → ℕ → List ℕ → List Call
one_byte calls b buf = calls ++ (byte b (lent buf) ∷ [])

-- what a program makes of them: the device it leaves, what it hands back, and the history
pub record HandsBack (p : Program) (a : Making) (calls : List Call) (b : ℕ) (buf : List ℕ) (e : Turn Exchange) : Type 0 where
  pub device : (left_by p (one_byte calls b buf) (p.fresh a)).device ≡ e.next.device
  pub answered : answered_by p (one_byte calls b buf) (p.fresh a) ≡ answers a calls ++ (said e.next.said (lent e.next.buffer) ∷ [])
  pub events : history a (one_byte calls b buf) ≡ history a calls ++ e.events

-- the same of a program, as far as it takes the calls
pub record ReceivesBy (p : Program) (a : Making) (calls : List Call) : Type 0 where
  pub a_frame_that_ends_is_an_exchange :
      (b : ℕ) (ds buf : List ℕ) → EndsFrame a calls b ds → 32 ≤ length buf → TakesAll p (one_byte calls b buf) →
      HandsBack p a calls b buf (exchange_of a.framing ds a.address (after a calls).device buf)
  pub every_other_byte_is_silent :
      (b : ℕ) (buf : List ℕ) → EndsNone a calls b → 32 ≤ length buf → TakesAll p (one_byte calls b buf) →
      HandsBack p a calls b buf (unheeded (after a calls) buf)
