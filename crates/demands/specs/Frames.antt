-- Frames as bytes given one after the other: what is seen of one, the number it gets and what it leaves; and the calls that give bytes.
use Rattle.std.specs.Prelude.{ℕ, ◌≡◌, true, false, List, [], ◌∷◌, ◌++◌, length, replicate, None, Ok}
use Rattle.pipettor.specs.Said.{Said}
use Rattle.basics.specs.Exactly.{Exactly}
use Rattle.text.specs.Data.{received_of}
use Rattle.line.specs.declared.Framing.{Framing}
use Rattle.line.specs.Wire.{frames_of, Form, front, framed, Sendable, Hears as ReceiverHears}
use Rattle.motion.specs.Events.{Turn}
use Rattle.machine.specs.declared.Device.{Device}
use Rattle.pipettor.specs.declared.address.Address.{Address}
use Rattle.pipettor.specs.declared.Controller.{Controller}
use Rattle.pipettor.specs.Address.{letter_of}
use Rattle.pipettor.specs.Byte.{Exchange, byte_of}
use Rattle.frames.specs.Frame.{added_of, exchange_of, Dialogue, given_of, ToUs, Unheeded, Others}
use Rattle.frames.specs.Refused.{refusal_of, is_report, Replied, Refused, Unchanged, Known, WrongLetter, WrongNumber, NothingNow, TooMuchNow, Columned}
use Rattle.frames.specs.Listening.{ByteByByte}
use Rattle.demands.specs.Calls.{Making, lent, Call, byte, Answered, said, taken, told, used, nothing, after_of, events_of, answers_of, after, history, answers}
use Rattle.demands.specs.Promises.{Program, left_by, answered_by}

-- what is seen of bytes once all are given: the device, what the last one says, and the buffer; with what they add to the history
abbrev pub last : Said → List Said → Said
last s [] = s
last s (t ∷ l) = last t l

abbrev pub seen_of : Dialogue → Turn Exchange
seen_of g = record { next = record { device = g.controller.device; said = last (Ok None) g.said; buffer = g.buffer }; events = g.events }

-- of a frame to us with these data, sent so
abbrev pub frame_seen : Form → Controller → List ℕ → List ℕ → Turn Exchange
frame_seen form k ds buf = seen_of (given_of k (framed form (letter_of k.address) ds) buf)

-- 01's table, "Numbers that come back": a frame to us gets each exactly where the table gives it
pub record Numbered (ds : List ℕ) (a : Address) (d : Device) : Type 0 where
  -- "command letter not allowed here"
  pub a_wrong_letter_is_2 : Exactly (refusal_of ds a d ≡ 2) (WrongLetter ds)
  -- "operand, report number or loops wrong"
  pub a_wrong_number_is_3 : Exactly (refusal_of ds a d ≡ 3) (WrongNumber a d ds)
  -- "R or X with nothing to run"
  pub nothing_to_run_is_14 : Exactly (refusal_of ds a d ≡ 14) (NothingNow d.core.course.state (received_of ds))
  -- "data or text too long, or busy"
  pub too_much_is_15 : Exactly (refusal_of ds a d ≡ 15) (TooMuchNow a d (added_of ds) (received_of ds))
  -- "A, P or D taken while not initialised": in a run
  pub never_7_at_load : refusal_of ds a d ≡ 7 → ⊥
  -- 0, where it is accepted, or one of these
  pub no_other_number : Known (refusal_of ds a d)

-- what is seen of a frame with this number, in either framing: the answer's bytes alone know which
pub record Treated (f : Framing) (ds : List ℕ) (a : Address) (d : Device) (buf : List ℕ) (e : Turn Exchange) : Type 0 where
  pub number : Numbered ds a d
  -- the status byte says it, or the last error where a report is accepted
  pub answered : Replied f (received_of ds) (refusal_of ds a d) a d buf e
  -- "Left behind: last error only"; "a refused report .. changes nothing"
  pub a_refused_frame_leaves_the_error_only : (refusal_of ds a d ≡ 0 → ⊥) → Refused (received_of ds) (refusal_of ds a d) d e
  -- "An accepted frame that isn't a report sets it to 0"
  pub an_accepted_frame_clears_the_error : is_report (received_of ds) ≡ false → refusal_of ds a d ≡ 0 → e.next.device.core.course.error ≡ 0
  -- 02, W-202: what Q2 tells after it
  pub column : Columned ds a d e
  -- "Reports never change it"
  pub a_report_leaves_everything : is_report (received_of ds) ≡ true → Unchanged d e

-- The receiver no longer visible: what a controller makes of bytes, with a buffer lent that is long enough.
pub record Hears (k : Controller) (buf : List ℕ) : Type 0 where
  -- a whole frame to us: answer, buffer, device and history are those of the exchange of its data, the address and the device
  pub a_whole_frame_is_an_exchange : (form : Form) (ds : List ℕ) → ReceiverHears form k.line → Sendable form (letter_of k.address) ds → ToUs form k ds buf
  -- "Any other address: silent", and noise
  pub other_bytes_do_nothing : (bs : List ℕ) → Others (letter_of k.address) (frames_of k.line bs) → Unheeded k bs buf (given_of k bs buf)
  -- bytes handed over at once are heard up to one that ends a frame, as if one by one
  pub listening_is_hearing_byte_by_byte : (bytes : List ℕ) → ByteByByte k bytes buf

-- the calls that give bytes, the buffer lent for each as the one before left it
unfoldable pub giving : Controller → List ℕ → List ℕ → List Call
giving k [] buf = []
giving k (b ∷ bs) buf = let r = (byte_of k b buf).next in byte b (lent buf) ∷ giving r.reply.controller bs r.buffer

-- what was said among what calls handed back, and how a buffer is left
abbrev pub spoken : List Answered → List Said
spoken [] = []
spoken (said s buf ∷ l) = s ∷ spoken l
spoken (taken n ∷ l) = spoken l
spoken (told v ∷ l) = spoken l
spoken (used v u ∷ l) = spoken l
spoken (nothing ∷ l) = spoken l

abbrev pub lent_last : List ℕ → List Answered → List ℕ
lent_last buf [] = buf
lent_last buf (said s left ∷ l) = lent_last left.buffer l
lent_last buf (taken n ∷ l) = lent_last buf l
lent_last buf (told v ∷ l) = lent_last buf l
lent_last buf (used v u ∷ l) = lent_last buf l
lent_last buf (nothing ∷ l) = lent_last buf l

-- these calls are the dialogue of the bytes given
pub record Gives (k : Controller) (bs buf : List ℕ) (g : Dialogue) : Type 0 where
  pub controller : after_of (giving k bs buf) k ≡ g.controller
  pub said : spoken (answers_of (giving k bs buf) k) ≡ g.said
  pub buffer : lent_last buf (answers_of (giving k bs buf) k) ≡ g.buffer
  pub events : events_of (giving k bs buf) k ≡ g.events

-- the calls that give a frame to us after others
abbrev pub frame_after : Form → Making → List Call → List ℕ → List ℕ → List Call
frame_after form a calls ds buf = giving (after a calls) (framed form (letter_of a.address) ds) buf

-- what a program makes of them: silence before the last byte, then what the exchange says, with its buffer, its device and its history
pub record Exchanges (form : Form) (p : Program) (a : Making) (calls frame : List Call) (ds buf : List ℕ) (e : Turn Exchange) : Type 0 where
  pub device : (left_by p (calls ++ frame) (p.fresh a)).device ≡ e.next.device
  pub events : history a (calls ++ frame) ≡ history a calls ++ e.events
  pub back : List Answered
  pub answered : answered_by p (calls ++ frame) (p.fresh a) ≡ answers a calls ++ back
  pub said : spoken back ≡ replicate (length (front form (letter_of a.address) ds)) (Ok None) ++ (e.next.said ∷ [])
  pub buffer : lent_last buf back ≡ e.next.buffer

abbrev pub ExchangesFrame : Form → Program → Making → List Call → List ℕ → List ℕ → Type 0
ExchangesFrame form p a calls ds buf = Exchanges form p a calls (frame_after form a calls ds buf) ds buf (exchange_of a.framing ds a.address (after a calls).device buf)
