-- Laws of bytes given: in two parts; and of those that complete no frame to us.
use mathlib.Core.Path.{◌≡◌, refl, ◌∙◌}
use mathlib.Core.List.{List, [], ◌∷◌, ◌++◌, append_assoc, append-nil}
use Prim.Native.Nat.{ℕ, ◌≤◌}
use borrow.Author.Tests.{le-ltb, ne_eqb}
use lib.ListN.{length, take, replicate}
use Rattle.std.specs.Prelude.{None, Ok}
use Rattle.line.specs.declared.Deed.{Deed}
use Rattle.line.specs.declared.Deed.TheVariants as W
use Rattle.line.specs.Wire.{framing_of, hear_of, keep_of, Received, hears, feed, completes, frames_of}
use Rattle.motion.specs.Events.{quiet}
use Rattle.pipettor.specs.declared.Controller.{Controller}
use Rattle.pipettor.specs.Address.{letter_of}
use Rattle.pipettor.specs.Byte.{after, reply, got_of, squeezed_of, task_of, size_of, performed_of, outcome_of, said_of, written_of, dealt_of, heard_of, byte_of}
use Rattle.pipettor.proofs.Bytes.{kept_length, squeezed_length}
use Rattle.frames.specs.Frame.{Dialogue, given_of, Other, Others}

-- the receiver of a controller, and a controller with another
abbrev pub receiver : Controller → Received
receiver k = record { line = k.line; frame = k.frame }

abbrev pub hearing : Controller → Received → Controller
hearing k r = record { address = k.address; line = r.line; frame = r.frame; device = k.device }

-- one dialogue, and then another
abbrev pub joined : Dialogue → Dialogue → Dialogue
joined g h = record { controller = h.controller; said = g.said ++ h.said; buffer = h.buffer; events = g.events ++ h.events }

-- nothing said, so many times
abbrev pub silence : Controller → ℕ → List ℕ → Dialogue
silence k n buf = record { controller = k; said = replicate n (Ok None); buffer = buf; events = [] }

given_append : (k : Controller) (xs ys buf : List ℕ) → given_of k (xs ++ ys) buf ≡ (let g = given_of k xs buf in joined g (given_of g.controller ys g.buffer))
unfolding given_of
given_append k [] ys buf = refl
given_append k (x ∷ xs) ys buf =
    let t = byte_of k x buf in
    let g = given_of t.next.reply.controller xs t.next.buffer in
    let h = given_of g.controller ys g.buffer in
    rw (given_append t.next.reply.controller xs ys t.next.buffer, append_assoc t.events g.events h.events)

-- silence, and then one byte
pub given_last :
    (k m : Controller) (xs : List ℕ) (b n : ℕ) (buf : List ℕ) → given_of k xs buf ≡ silence m n buf →
    given_of k (xs ++ (b ∷ [])) buf
    ≡ (let t = byte_of m b buf in
    record { controller = t.next.reply.controller; said = replicate n (Ok None) ++ (t.next.reply.said ∷ []); buffer = t.next.buffer; events = t.events })
unfolding given_of
given_last k m xs b n buf e = given_append k xs (b ∷ []) buf ∙ rw (e, append-nil)

got_none : (ours : ℕ) (d : Deed) (f : List ℕ) → Other ours d → got_of ours d f ≡ None
unfolding got_of
got_none ours W.Nothing f h = refl
got_none ours (W.Keep at) f h = refl
got_none ours (W.Frame a n) f h = rw (ne_eqb a ours h)

squeezed_none : (ours : ℕ) (d : Deed) (f : List ℕ) → Other ours d → squeezed_of ours d f ≡ f
unfolding squeezed_of
squeezed_none ours W.Nothing f h = refl
squeezed_none ours (W.Keep at) f h = refl
squeezed_none ours (W.Frame a n) f h = rw (ne_eqb a ours h)

module _ (k : Controller) (b : ℕ) (buf : List ℕ) (long : 32 ≤ length buf) where
  -- a byte that is heard, by what it brings
  pub byte_does : byte_of k b buf ≡
      (let h = hear_of k.line b in
      let ours = letter_of k.address in
      let frame = keep_of k.frame h.deed b in
      let got = got_of ours h.deed frame in
      let squeezed = squeezed_of ours h.deed frame in
      let e = dealt_of (framing_of k.line) got (take (size_of got) squeezed) k.address k.device buf in
      record {
        next = after (reply (record { address = k.address; line = h.line; frame = squeezed; device = e.next.device }) e.next.said) e.next.buffer;
        events = e.events;
      })
  unfolding byte_of heard_of
  byte_does = rw (le-ltb (length buf) 32 long)

  pub byte_frame : length (byte_of k b buf).next.reply.controller.frame ≡ length k.frame
  byte_frame = rw byte_does (squeezed_length _ _ _ ∙ kept_length k.frame _ b)

  pub byte_other : Other (letter_of k.address) (hear_of k.line b).deed → byte_of k b buf ≡ quiet (after (reply (hearing k (hears (receiver k) b)) (Ok None)) buf)
  unfolding dealt_of hears task_of performed_of outcome_of said_of written_of
  byte_other h =
      let f = keep_of k.frame (hear_of k.line b).deed b in
      byte_does ∙ rw (got_none (letter_of k.address) (hear_of k.line b).deed f h, squeezed_none (letter_of k.address) (hear_of k.line b).deed f h)

-- the deeds of bytes, of which those that complete frames are told
others_head : (ours : ℕ) (d : Deed) (ds : List Deed) → Others ours (completes d ds) → Other ours d × Others ours ds
unfolding completes
others_head ours W.Nothing ds h = (tt, h)
others_head ours (W.Keep at) ds h = (tt, h)
others_head ours (W.Frame a n) ds h = h

pub given_others :
    (k : Controller) (bs buf : List ℕ) → 32 ≤ length buf → Others (letter_of k.address) (frames_of k.line bs) →
    given_of k bs buf ≡ silence (hearing k (feed (receiver k) bs)) (length bs) buf
unfolding given_of frames_of feed hears
given_others k [] buf long h = refl
given_others k (b ∷ bs) buf long h =
    let o = others_head (letter_of k.address) (hear_of k.line b).deed (frames_of (hear_of k.line b).line bs) h in
    rw (byte_other k b buf long o.0, given_others (hearing k (hears (receiver k) b)) bs buf long o.1)
