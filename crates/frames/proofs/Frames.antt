-- Theorems: the bytes of a whole frame to us do what its data do, whatever the receiver had in hand; all other bytes do nothing.
use mathlib.Core.Path.{◌≡◌, refl, sym, ap, ◌∙◌}
use mathlib.Core.Bool.{Bool, true}
use mathlib.Core.List.{List, [], ◌∷◌, ◌++◌}
use Prim.Native.Nat.{ℕ, ◌≤◌, ◌<◌, min}
use native.Mathlib.Omega.{arith}
use borrow.Author.Tests.{lt-ltb, le-ltb, ltb-true, ltb-false, eq-eqb}
use lib.Dec.{ltb}
use lib.ListN.{length, take, replicate}
use lib.Seq.{take_all, take-append-le}
use Rattle.std.specs.Prelude.{None, Ok, Some}
use Rattle.pipettor.specs.Said.{Said}
use Rattle.basics.specs.Bytes.{every}
use Rattle.basics.specs.Lay.{over}
use Rattle.basics.proofs.Choice.{by}
use Rattle.basics.proofs.Digits.{and_both}
use Rattle.text.specs.declared.Data.{Data}
use Rattle.text.specs.declared.Data.TheVariants as D
use Rattle.text.specs.Data.{spaceless, data_of, received_of}
use Rattle.text.proofs.Strings.{a_text_stands_in_front}
use Rattle.line.specs.declared.Deed.TheVariants as W
use Rattle.line.specs.declared.Framing.{Framing}
use Rattle.line.specs.declared.Framing.TheVariants.{Dt, Oem}
use Rattle.line.specs.Bytes.{printable}
use Rattle.line.specs.Wire.{framing_of, hear_of, keep_of, Received, hears, feed, frames_of, Form, formed, good_form, data_byte, front, last_byte, framed, Sendable, Hears}
use Rattle.line.proofs.Receiving.{feed_append, feed_long, feed_keeps_framing, frame_kept}
use Rattle.line.proofs.Framed.{whole_frame, one_frame}
use Rattle.motion.specs.Events.{Turn}
use Rattle.pipettor.specs.declared.address.Address.{Address}
use Rattle.pipettor.specs.declared.address.Address.TheVariants.{One, Two, Three, Four, Five, Six, Seven, Eight, Nine}
use Rattle.pipettor.specs.declared.Controller.{Controller}
use Rattle.pipettor.specs.Address.{letter_of}
use Rattle.pipettor.specs.Byte.{After, fetched_of, squeezed_in, got_of, squeezed_of, size_of, Exchange, byte_of}
use Rattle.frames.specs.Frame.{added_of, exchange_of, given_of, ToUs, Unheeded, Others}
use Rattle.frames.proofs.Bytes.{receiver, hearing, given_last, byte_does, byte_frame, given_others}

-- a text is no longer than the data that hold it
text_fits : (t : List ℕ) (d : Data) → data_of t ≡ d → size_of (Some d) ≤ length t
text_fits t (D.Report q) e = omega arith
text_fits t D.WrongReport e = omega arith
text_fits t (D.Control c) e = omega arith
text_fits t (D.Text n run) e = (a_text_stands_in_front n run t e).short
text_fits t (D.Wrong r) e = omega arith
text_fits t D.TooLong e = omega arith

-- what the frame in hand brings at the CR, and the characters that come with it
module _ (ds f : List ℕ) (kept : take (min 320 (length ds)) f ≡ take 320 ds) where
  abbrev Brings : ℕ → Type 0
  Brings n = (fetched_of n f ≡ Some (received_of ds)) × (take (size_of (fetched_of n f)) (squeezed_in n f) ≡ added_of ds)

  too_many : 320 < length ds → Brings (min 321 (length ds))
  unfolding fetched_of squeezed_in received_of added_of
  too_many h =
      let n : min 321 (length ds) ≡ 321 = omega arith in
      rw (n, lt-ltb 320 (length ds) h) (refl, refl)

  all_kept : length ds ≤ 320 → Brings (min 321 (length ds))
  unfolding fetched_of squeezed_in received_of added_of over
  all_kept h =
      let n : min 321 (length ds) ≡ min 320 (length ds) = omega arith in
      let m : min 320 (length ds) ≤ 320 = omega arith in
      let whole : take (min 320 (length ds)) f ≡ ds = kept ∙ take_all 320 ds h in
      rw (n, le-ltb 320 (min 320 (length ds)) m, le-ltb 320 (length ds) h, whole)
      (refl, take-append-le _ (spaceless ds) _ (text_fits (spaceless ds) _ refl))

  brings : Brings (min 321 (length ds))
  brings = by (λ (t : Bool). Brings (min 321 (length ds))) (ltb 320 (length ds)) {a = true} {b = true} (λ e. too_many (ltb-true 320 (length ds) e)) (λ e. all_kept (ltb-false 320 (length ds) e))

-- our letter may stand in a frame
in_DT : (a : Address) → data_byte Dt (letter_of a) ≡ true
unfolding data_byte printable
in_DT One = refl
in_DT Two = refl
in_DT Three = refl
in_DT Four = refl
in_DT Five = refl
in_DT Six = refl
in_DT Seven = refl
in_DT Eight = refl
in_DT Nine = refl

our_letter : (f : Framing) (a : Address) → data_byte f (letter_of a) ≡ true
unfolding data_byte
our_letter Dt a = in_DT a
our_letter Oem a = (and_both (printable (letter_of a)) _ (in_DT a)).0

-- a frame to us: of bytes that it may hold
pub to_us : (form : Form) (a : Address) (ds : List ℕ) → good_form form ≡ true → every (data_byte (formed form)) ds ≡ true → Sendable form (letter_of a) ds
to_us form a ds g q = record { sequence = g; address = our_letter (formed form) a; bytes = q }

-- the last byte of a frame to us
module _ (k : Controller) (ds buf : List ℕ) (long : 32 ≤ length buf) (last : ℕ) where
  abbrev pub ours : ℕ
  ours = letter_of k.address

  -- what the exchange leaves
  abbrev pub done : Turn Exchange
  done = exchange_of (framing_of k.line) ds k.address k.device buf

  pub record Ended (t : Turn After) : Type 0 where
    pub said : t.next.reply.said ≡ done.next.said
    pub buffer : t.next.buffer ≡ done.next.buffer
    pub device : t.next.reply.controller.device ≡ done.next.device
    pub events : t.events ≡ done.events
    pub address : t.next.reply.controller.address ≡ k.address
    pub line : t.next.reply.controller.line ≡ (hear_of k.line last).line

  pub ends : (hear_of k.line last).deed ≡ W.Frame ours (min 321 (length ds)) → take (min 320 (length ds)) k.frame ≡ take 320 ds → Ended (byte_of k last buf)
  unfolding keep_of got_of squeezed_of exchange_of
  ends deed kept =
      let b = brings ds k.frame kept in
      let same = eq-eqb ours ours refl in
      rw (byte_does k last buf long, deed, same, b.1, b.0) (record { said = refl; buffer = refl; device = refl; events = refl; address = refl; line = refl })

-- For a frame of 320 places, as every controller has that was made: a frame of either framing, whatever stood in it and wherever the receiver was, but where a sum is due.
module _ (form : Form) (k : Controller) (ds buf : List ℕ) (heard : Hears form k.line) (sized : length k.frame ≡ 320) (good : Sendable form (letter_of k.address) ds) (long : 32 ≤ length buf) where
  before : Received
  before = feed (receiver k) (front form (letter_of k.address) ds)

  pub a_whole_frame_is_an_exchange : ToUs form k ds buf
  unfolding feed hears before
  a_whole_frame_is_an_exchange =
      let us = letter_of k.address in
      let bytes = front form us ds in
      let last = last_byte form us ds in
      let w = whole_frame form us ds good (receiver k) heard sized in
      let parts = feed_append (receiver k) bytes (last ∷ []) in
      let same = frame_kept before last us (min 321 (length ds)) w.last in
      let kept = ap (λ (f : List ℕ). take (min 320 (length ds)) f) (sym same) ∙ ap (λ (r : Received). take (min 320 (length ds)) r.frame) (sym parts) ∙ w.kept in
      let e = ends (hearing k before) ds buf long last w.last kept in
      let framing : framing_of before.line ≡ formed form = feed_keeps_framing (receiver k) bytes ∙ heard.framing in
      let done = ap (λ (f : Framing). exchange_of f ds k.address k.device buf) framing in
      let silence = given_others k bytes buf long (rw w.silent tt) in
      rw (given_last k (hearing k before) bytes last (length bytes) buf silence)
      (record {
        said = ap (λ (s : Said). replicate (length bytes) (Ok None) ++ (s ∷ [])) (e.said ∙ ap (λ (t : Turn Exchange). t.next.said) done);
        buffer = e.buffer ∙ ap (λ (t : Turn Exchange). t.next.buffer) done;
        device = e.device ∙ ap (λ (t : Turn Exchange). t.next.device) done;
        events = e.events ∙ ap (λ (t : Turn Exchange). t.events) done;
        address = e.address;
        line = e.line ∙ ap (λ (r : Received). r.line) (sym parts) ∙ w.outside;
        frame = byte_frame (hearing k before) last buf long ∙ feed_long (receiver k) bytes;
      })

-- "Any other address: silent." And all bytes that complete no frame to us, noise among them.
module _ (k : Controller) (buf : List ℕ) (long : 32 ≤ length buf) where
  pub other_bytes_do_nothing : (bs : List ℕ) → Others (letter_of k.address) (frames_of k.line bs) → Unheeded k bs buf (given_of k bs buf)
  other_bytes_do_nothing bs h =
      rw (given_others k bs buf long h)
      (record { said = refl; buffer = refl; device = refl; events = refl; address = refl; frame = feed_long (receiver k) bs })

  pub noise_does_nothing : (bs : List ℕ) → frames_of k.line bs ≡ [] → Unheeded k bs buf (given_of k bs buf)
  noise_does_nothing bs h = other_bytes_do_nothing bs (rw h tt)

  pub another_address_is_silent :
      (form : Form) (a : ℕ) (ds : List ℕ) → Hears form k.line → Sendable form a ds → (a ≡ letter_of k.address → ⊥) → Unheeded k (framed form a ds) buf (given_of k (framed form a ds) buf)
  another_address_is_silent form a ds heard good h = other_bytes_do_nothing (framed form a ds) (rw (one_frame form a ds good (receiver k) heard) (h, tt))
