-- Theorems: after any bytes a receiver reads whole frames as they were sent; and two controllers of one address and one device, whatever each has in hand, go on alike from a `/` that is heard.
use mathlib.Core.Path.{◌≡◌, refl, sym, ap, subst, ◌∙◌}
use mathlib.Core.Bool.{Bool, true, false≢true}
use mathlib.Core.List.{List, [], ◌∷◌, ◌++◌, map}
use Prim.Native.Nat.{ℕ, ◌≤◌}
use native.Mathlib.Omega.{arith}
use borrow.Author.Tests.{eqb-true, eqb-false}
use lib.Dec.{eqb}
use lib.ListN.{length, length-replicate}
use Rattle.std.specs.Prelude.{None, Ok}
use Rattle.basics.proofs.Choice.{by}
use Rattle.line.specs.declared.Framing.TheVariants.{Dt}
use Rattle.line.specs.declared.Line.{Line}
use Rattle.line.specs.declared.Line.TheVariants as L
use Rattle.line.specs.declared.Deed.TheVariants as W
use Rattle.line.specs.Dt.{slash}
use Rattle.line.specs.Oem.{stx}
use Rattle.line.specs.Wire.{framing_of, hear_of, keep_of, Received, hears, feed, frames_of, before_frame, Form, dt, oem, Sendable, Hears}
use Rattle.line.proofs.Receiving.{less, feed_long, feed_keeps_framing, frames_append, at}
use Rattle.line.proofs.Framed.{dt_starts, oem_starts, never_both, whole_frame, one_frame, dt_hears}
use Rattle.motion.specs.Events.{Turn, quiet}
use Rattle.machine.specs.declared.Device.{Device}
use Rattle.pipettor.specs.declared.address.Address.{Address}
use Rattle.pipettor.specs.declared.Controller.{Controller}
use Rattle.pipettor.specs.Address.{letter_of}
use Rattle.pipettor.specs.Byte.{After, after, reply, Exchange, byte_of}
use Rattle.pipettor.specs.Listening.{listened_of}
use Rattle.pipettor.specs.Controller.{ticked_of, stopped_of, advanced_of, run_of}
use Rattle.frames.specs.Frame.{exchange_of}
use Rattle.frames.proofs.Bytes.{receiver, hearing, byte_frame, byte_other}
use Rattle.frames.proofs.Calls.{s1_changes_nothing}
use Rattle.demands.specs.Calls as Calls
use Rattle.demands.specs.Calls.{Lent, lent, Call, byte, listen, tick, stop, advance, run, said, taken, call_of, answer_of, after_of, events_of, answers_of}
use Rattle.demands.specs.InHand.{begun, started, Hand, dt_hand, oem_hand, hands_of, Ending, no_frame, frame, ended_by, ends, brought_by, byte_seen}
use Rattle.demands.specs.Noise.{Sent, bytes_of, Undamaged, on_the_line, read_of, reads_of, as_sent, fresh_receiver, ReceiverAfterNoise, cleared, in_dt, Alike, Byteless, Giving, none_left, a_byte, between, ControllerAfterNoise}
use Rattle.demands.proofs.Sound.{every_controller_is_sound}
use Rattle.demands.proofs.Exchanges.{after_two, answers_two, events_two, call_keeps_address, the_framing_stays, fresh_framing}
use Rattle.demands.proofs.Holding.{line_of, no_data, Shows, In, called}
use Rattle.demands.proofs.InHand.{ending, silent, every_controller_receives}

-- whole frames, one after the other
pub one_as_sent : (form : Form) (r : Received) (f : Sent) → Hears form r.line → Sendable form f.address f.bytes → length r.frame ≡ 320 → read_of form r f ≡ as_sent f
unfolding read_of
one_as_sent form r f h g n = let w = whole_frame form f.address f.bytes g r h n in rw (w.last, w.kept)

heard : (r : Received) → framing_of r.line ≡ Dt → Hears dt r.line
unfolding feed
heard r e = dt_hears r [] e

read_as_sent : (r : Received) (fs : List Sent) → framing_of r.line ≡ Dt → length r.frame ≡ 320 → Undamaged fs → reads_of r fs ≡ map as_sent fs
unfolding reads_of
read_as_sent r [] e n u = refl
read_as_sent r (f ∷ fs) e n u =
    let bytes = bytes_of dt f in
    rw (one_as_sent dt r f (heard r e) u.0 n, read_as_sent (feed r bytes) fs (feed_keeps_framing r bytes ∙ e) (feed_long r bytes ∙ n) u.1)

completed_alone : (r : Received) (fs : List Sent) → framing_of r.line ≡ Dt → Undamaged fs → frames_of r.line (on_the_line fs) ≡ map (λ (f : Sent). (as_sent f).completed) fs
unfolding frames_of
completed_alone r [] e u = refl
completed_alone r (f ∷ fs) e u =
    let bytes = bytes_of dt f in
    rw (frames_append r bytes (on_the_line fs), one_frame dt f.address f.bytes u.0 r (heard r e), completed_alone (feed r bytes) fs (feed_keeps_framing r bytes ∙ e) u.1)

module _ (r : Received) (e : framing_of r.line ≡ Dt) (n : length r.frame ≡ 320) where
  after_any : (noise : List ℕ) (fs : List Sent) → Undamaged fs → reads_of (feed r noise) fs ≡ map as_sent fs
  after_any noise fs u = read_as_sent (feed r noise) fs (feed_keeps_framing r noise ∙ e) (feed_long r noise ∙ n) u

  pub every_receiver_is_over_noise : ReceiverAfterNoise r
  every_receiver_is_over_noise =
      record {
        frames_are_read_as_they_were_sent = after_any;
        as_by_a_fresh_receiver = λ noise fs u. after_any noise fs u ∙ sym (read_as_sent (fresh_receiver Dt) fs refl (length-replicate {A = ℕ} 320 0) u);
        no_other_frame_is_completed = λ noise fs u. completed_alone (feed r noise) fs (feed_keeps_framing r noise ∙ e) u;
        damage_ends_with_the_frame = λ f damaged fs d u. after_any damaged fs u ∙ sym (after_any (bytes_of dt f) fs u);
      }

-- calls that are alike, and then others
module _ (xs ys : List Call) (k l : Controller) (first : Alike k l xs) (later : Alike (after_of xs k) (after_of xs l) ys) where
  joined : Alike k l (xs ++ ys)
  joined =
      record {
        answers = rw (answers_two xs ys k, answers_two xs ys l, first.answers, later.answers);
        device = rw (after_two xs ys k, after_two xs ys l) later.device;
        events = rw (events_two xs ys k, events_two xs ys l, first.events, later.events);
      }

-- one address, one device, and frames of 320 places; the rest may differ
pub record Twins (k l : Controller) : Type 0 where
  pub address : k.address ≡ l.address
  pub device : k.device ≡ l.device
  pub long : length k.frame ≡ 320
  pub as_long : length l.frame ≡ 320

frame_stays : (c : Call) (k : Controller) → length (call_of c k).next.frame ≡ length k.frame
unfolding call_of listened_of ticked_of stopped_of advanced_of run_of
frame_stays (byte b l) k =
    less (length l.buffer) 32
    (λ h. ap (λ (t : Turn After). length t.next.reply.controller.frame) (s1_changes_nothing k b l.buffer h))
    (λ h. byte_frame k b l.buffer h)
frame_stays (listen bytes) k = feed_long (receiver k) (before_frame k.line bytes)
frame_stays (tick s) k = refl
frame_stays stop k = refl
frame_stays (advance n s) k = refl
frame_stays (run n s) k = refl

pub frames_stay : (cs : List Call) (k : Controller) → length (after_of cs k).frame ≡ length k.frame
unfolding after_of
frames_stay [] k = refl
frames_stay (c ∷ cs) k = frames_stay cs (call_of c k).next ∙ frame_stays c k

still_twins : (c : Call) (k l : Controller) → Twins k l → Alike k l (c ∷ []) → Twins (call_of c k).next (call_of c l).next
unfolding after_of
still_twins c k l t same =
    record {
      address = call_keeps_address c k ∙ t.address ∙ sym (call_keeps_address c l);
      device = same.device;
      long = frame_stays c k ∙ t.long;
      as_long = frame_stays c l ∙ t.as_long;
    }

-- the other is the one with another receiver
other_receiver : (k l : Controller) → Twins k l → hearing k (receiver l) ≡ l
other_receiver k l t =
    ap (λ (a : Address). record { address = a; line = l.line; frame = l.frame; device = k.device }) t.address
    ∙ ap (λ (d : Device). record { address = l.address; line = l.line; frame = l.frame; device = d }) t.device

-- a call that a controller with another receiver answers alike, and then others
module _ (c : Call) (cs : List Call) (k l : Controller) (t : Twins k l) where
  abbrev next : Controller
  next = (call_of c k).next

  abbrev twin : Controller
  twin = (call_of c l).next

  and_then : Alike k (hearing k (receiver l)) (c ∷ []) → (Twins next twin → Alike next twin cs) → Alike k l (c ∷ cs)
  unfolding after_of
  and_then first others =
      let one = subst (λ (x : Controller). Alike k x (c ∷ [])) (other_receiver k l t) first in
      joined (c ∷ []) cs k l one (others (still_twins c k l t one))

-- a call that gives no byte does without the receiver
byteless : (c : Call) (k : Controller) (r : Received) → Byteless c → Alike k (hearing k r) (c ∷ [])
unfolding after_of events_of answers_of call_of answer_of ticked_of stopped_of advanced_of run_of
byteless (byte b l) k r no_byte = absurd no_byte
byteless (listen bytes) k r no_byte = absurd no_byte
byteless (tick s) k r no_byte = record { answers = refl; device = refl; events = refl }
byteless stop k r no_byte = record { answers = refl; device = refl; events = refl }
byteless (advance n s) k r no_byte = record { answers = refl; device = refl; events = refl }
byteless (run n s) k r no_byte = record { answers = refl; device = refl; events = refl }

-- what is seen of a byte is all that a call of it tells
seen_alike : (k l : Controller) (b : ℕ) (x : Lent) → byte_seen k b x.buffer ≡ byte_seen l b x.buffer → Alike k l (byte b x ∷ [])
unfolding after_of events_of answers_of call_of answer_of
seen_alike k l b x e =
    record {
      answers = ap (λ (t : Turn Exchange). said t.next.said (lent t.next.buffer) ∷ []) e;
      device = ap (λ (t : Turn Exchange). t.next.device) e;
      events = ap (λ (t : Turn Exchange). t.events ++ []) e;
    }

-- what a byte ends is a frame to us, or not
ends_or_not : {G : Type 0} (ours : ℕ) (x : Ending) → ((ds : List ℕ) → x ≡ frame ours ds → G) → (((ds : List ℕ) → x ≡ frame ours ds → ⊥) → G) → G
ends_or_not ours no_frame f g = g (λ ds q. false≢true (ap ends q))
ends_or_not {G} ours (frame a ds) f g =
    by (λ (t : Bool). G) (eqb a ours) {a = true} {b = true}
    (λ e. f ds (ap (λ (y : ℕ). frame y ds) (eqb-true a ours e)))
    (λ e. g (λ x q. eqb-false a ours e cc))

-- two receivers with the same in hand
module _ (h : Hand) (k : Controller) (r : Received) (here : In h k) (there : Shows h r) where
  same_line : k.line ≡ r.line
  same_line = here.line ∙ sym there.line

  long_alike : (b : ℕ) (buf : List ℕ) → 32 ≤ length buf → byte_seen k b buf ≡ byte_seen (hearing k r) b buf
  long_alike b buf long =
      ends_or_not (letter_of k.address) (ended_by h b)
      (λ ds hand.
      ending h k here b ds buf hand long
      ∙ ap (λ (l : Line). exchange_of (framing_of l) ds k.address k.device buf) same_line
      ∙ sym (ending h (hearing k r) there b ds buf hand long))
      (λ but. silent h k here b buf but long ∙ sym (silent h (hearing k r) there b buf but long))

  byte_alike : (b : ℕ) (buf : List ℕ) → byte_seen k b buf ≡ byte_seen (hearing k r) b buf
  byte_alike b buf = less (length buf) 32 (λ short. rw (s1_changes_nothing k b buf short, s1_changes_nothing (hearing k r) b buf short)) (long_alike b buf)

  call_alike : (c : Call) → Alike k (hearing k r) (c ∷ [])
  unfolding after_of events_of answers_of call_of answer_of listened_of
  call_alike (byte b x) = seen_alike k (hearing k r) b x (byte_alike b x.buffer)
  call_alike (listen bytes) = record { answers = ap (λ (l : Line). taken (length (before_frame l bytes)) ∷ []) same_line; device = refl; events = refl }
  call_alike (tick s) = byteless (tick s) k r tt
  call_alike stop = byteless stop k r tt
  call_alike (advance n s) = byteless (advance n s) k r tt
  call_alike (run n s) = byteless (run n s) k r tt

pub calls_alike : (cs : List Call) (h : Hand) (k l : Controller) → Twins k l → In h k → In h l → Alike k l cs
unfolding after_of events_of answers_of
calls_alike [] h k l t here there = record { answers = refl; device = t.device; events = refl }
calls_alike (c ∷ cs) h k l t here there =
    and_then c cs k l t (call_alike h k (receiver l) here there c)
    (λ still. calls_alike cs (hands_of h (brought_by h c)) _ _ still (called c h k t.long here) (called c h l t.as_long there))

-- the byte that starts a frame, where it is heard as that: whatever was in hand, a frame has begun
abbrev started_by : Form → Hand
started_by dt = dt_hand begun
started_by (oem s) = oem_hand started

abbrev start_byte : Form → ℕ
start_byte dt = slash
start_byte (oem s) = stx

starts : (form : Form) (l : Line) → Hears form l → hear_of l (start_byte form) ≡ record { line = line_of (started_by form); deed = W.Nothing }
starts dt (L.Dt d) h = dt_starts d
starts dt (L.Oem o) h = let z : ◌≡◌ {A = ℕ} 0 1 = never_both h.framing in absurd (omega arith)
starts (oem s) (L.Dt d) h = let z : ◌≡◌ {A = ℕ} 0 1 = never_both (sym h.framing) in absurd (omega arith)
starts (oem s) (L.Oem o) h = oem_starts o h.no_sum

shows_started : (form : Form) (held : List ℕ) → Shows (started_by form) (at (line_of (started_by form)) held)
shows_started dt held = record { line = refl; kept = no_data held }
shows_started (oem s) held = record { line = refl; kept = no_data held }

start_does : (form : Form) (k : Controller) (buf : List ℕ) → Hears form k.line → 32 ≤ length buf → byte_of k (start_byte form) buf ≡ quiet (after (reply (hearing k (at (line_of (started_by form)) k.frame)) (Ok None)) buf)
unfolding keep_of hears
start_does form k buf h long =
    let e = starts form k.line h in
    byte_other k (start_byte form) buf long (rw e tt) ∙ rw e

start_begins : (form : Form) (k : Controller) (x : Lent) → Hears form k.line → 32 ≤ length x.buffer → In (started_by form) (call_of (byte (start_byte form) x) k).next
unfolding call_of
start_begins form k x h long =
    subst (λ (t : Turn After). In (started_by form) t.next.reply.controller) (sym (start_does form k x.buffer h long)) (shows_started form k.frame)

pub from_the_start : (form : Form) (k l : Controller) → Hears form k.line → Hears form l.line → Twins k l → (x : Lent) → 32 ≤ length x.buffer → (cs : List Call) → Alike k l (byte (start_byte form) x ∷ cs)
from_the_start form k l hk hl t x long cs =
    let twin = hearing k (receiver l) in
    and_then (byte (start_byte form) x) cs k l t (seen_alike k twin (start_byte form) x (rw (start_does form k x.buffer hk long, start_does form twin x.buffer hl long)))
    (λ still. calls_alike cs (started_by form) _ _ still (start_begins form k x hk long) (start_begins form l x hl long))

-- no call but a byte changes the receiver
pub byteless_receiver : (c : Call) (k : Controller) → Byteless c → receiver (call_of c k).next ≡ receiver k
unfolding call_of ticked_of stopped_of advanced_of run_of
byteless_receiver (byte b l) k no_byte = absurd no_byte
byteless_receiver (listen bytes) k no_byte = absurd no_byte
byteless_receiver (tick s) k no_byte = refl
byteless_receiver stop k no_byte = refl
byteless_receiver (advance n s) k no_byte = refl
byteless_receiver (run n s) k no_byte = refl

-- calls that give the start of a frame first, and then any bytes
pub giving_alike :
    (form : Form) (bs rest : List ℕ) (cs more : List Call) (k l : Controller) → Giving bs cs → bs ≡ start_byte form ∷ rest →
    Hears form k.line → Hears form l.line → Twins k l → Alike k l (cs ++ more)
giving_alike form bs rest cs more k l none_left e hk hl t = let z : ◌≡◌ {A = ℕ} 0 1 = cc in absurd (omega arith)
giving_alike form bs rest cs more k l (a_byte b x bs' cs' long g) e hk hl t =
    let is : b ≡ start_byte form = cc in
    rw is (from_the_start form k l hk hl t x long (cs' ++ more))
giving_alike form bs rest cs more k l (between c bs' cs' no_byte g) e hk hl t =
    and_then c (cs' ++ more) k l t (byteless c k (receiver l) no_byte)
    (λ still.
    giving_alike form bs' rest cs' more _ _ g e
    (subst (λ (r : Received). Hears form r.line) (sym (byteless_receiver c k no_byte)) hk) (subst (λ (r : Received). Hears form r.line) (sym (byteless_receiver c l no_byte)) hl) still)

-- a controller, and the same with a fresh receiver
pub clears : (k : Controller) → length k.frame ≡ 320 → Twins k (cleared k)
clears k n = record { address = refl; device = refl; long = n; as_long = length-replicate {A = ℕ} 320 0 }

pub every_controller_is_over_noise : ControllerAfterNoise
every_controller_is_over_noise =
    record {
      from_a_slash_on = λ k l dt-k dt-l long as_long address device.
          from_the_start dt k l (heard (receiver k) dt-k) (heard (receiver l) dt-l) (record { address = address; device = device; long = long; as_long = as_long });
      whole_frames_after_any_calls =
          λ a calls f fs cs more u g.
          let k = Calls.after (in_dt a) calls in
          let e = the_framing_stays (in_dt a) calls in
          giving_alike dt (on_the_line (f ∷ fs)) _ cs more k (cleared k) g refl
          (heard (receiver k) e) (heard (receiver (cleared k)) (fresh_framing (framing_of k.line) ∙ e)) (clears k (every_controller_is_sound (in_dt a) calls).sized.frame);
      noise_acts_as_the_frames_that_it_holds = λ a. every_controller_receives (in_dt a);
    }
