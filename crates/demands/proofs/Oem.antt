-- `specs/Oem`, proved: damaged frames are silent, and one whole frame at most is lost, where an earlier frame's sum is due.
use mathlib.Core.Path.{◌≡◌, refl, sym, ap, subst, ◌∙◌}
use mathlib.Core.Bool.{Bool, true, false, false≢true}
use mathlib.Core.List.{List, [], ◌∷◌, ◌++◌, append_assoc}
use Prim.Native.Nat.{ℕ}
use native.Mathlib.Omega.{arith}
use lib.Dec.{eqb}
use lib.ListN.{length, length-replicate}
use Rattle.basics.specs.Bytes.{every}
use Rattle.basics.proofs.Choice.{by}
use Rattle.basics.proofs.Digits.{and_both, every_append}
use Rattle.line.specs.declared.Framing.TheVariants as F
use Rattle.line.specs.declared.Line.{Line}
use Rattle.line.specs.declared.Line.TheVariants.{Dt, Oem}
use Rattle.line.specs.declared.Deed.{Deed}
use Rattle.line.specs.declared.Deed.TheVariants as W
use Rattle.line.specs.declared.oem.Oem.TheVariants as O
use Rattle.line.specs.Bytes.{printable}
use Rattle.line.specs.Oem.{stx, etx}
use Rattle.line.specs.Wire.{fresh_line, framing_of, hear_of, Received, hears, feed, completes, frames_of, oem, data_byte, front, last_byte, sum_due, begun, Hears}
use Rattle.line.proofs.Receiving.{feed_long, feed_keeps_framing}
use Rattle.line.proofs.Framed.{whole_frame, never_both, a_sequence_is_printable}
use Rattle.line.proofs.Sums.{one_byte_changed_changes_the_sum}
use Rattle.line.proofs.OemFrames.{another_sum_is_silent, the_rest_is_lost, after_a_sum}
use Rattle.motion.specs.Events.{Turn}
use Rattle.pipettor.specs.declared.address.Address.{Address}
use Rattle.pipettor.specs.declared.Controller.{Controller}
use Rattle.pipettor.specs.Address.{letter_of}
use Rattle.pipettor.specs.Byte.{After, byte_of}
use Rattle.frames.specs.Frame.{Other}
use Rattle.frames.proofs.Bytes.{receiver, byte_does, byte_other}
use Rattle.demands.specs.Calls.{Call, byte, listen, tick, stop, advance, run, call_of, after_of, after}
use Rattle.demands.specs.InHand.{idle, started, addressed, collecting, closed, Hand, dt_hand, oem_hand, awaits_sum, in_hand}
use Rattle.demands.specs.Noise.{Sent, bytes_of, read_of, fresh_receiver, cleared, Alike, Byteless, Giving, none_left, a_byte, between}
use Rattle.demands.specs.Oem.{Whole, Damaged, in_address, in_sequence, in_data, in_sum, behind_stx, OemReceiver, IsSilent, Ignores, in_oem, OemController}
use Rattle.demands.proofs.Exchanges.{the_framing_stays}
use Rattle.demands.proofs.Holding.{line_of, the_receiver_holds_what_is_in_hand}
use Rattle.demands.proofs.Sound.{every_controller_is_sound}
use Rattle.demands.proofs.Noise.{one_as_sent, byteless_receiver, giving_alike, frames_stay, clears}

-- what holds of all bytes holds of those in front, and of those behind
every_parts : (p : ℕ → Bool) (xs ys : List ℕ) → every p (xs ++ ys) ≡ true → (every p xs ≡ true) × (every p ys ≡ true)
unfolding every
every_parts p [] ys e = (refl, e)
every_parts p (x ∷ xs) ys e =
    let h = and_both (p x) (every p (xs ++ ys)) e in
    let later = every_parts p xs ys h.1 in
    (rw h.0 later.0, later.1)

-- a frame's bytes with a last one that isn't its sum
module _ (r : Received) (e : framing_of r.line ≡ F.Oem) (w : sum_due r.line ≡ false) where
  abbrev Nothing : List ℕ → Type 0
  Nothing bytes = (frames_of r.line bytes ≡ []) × ((feed r bytes).line ≡ fresh_line F.Oem)

  other_sum : (a s : ℕ) (ds : List ℕ) (b : ℕ) → printable s ≡ true → printable a ≡ true → every printable ds ≡ true → (b ≡ last_byte (oem s) a ds → ⊥) → Nothing (front (oem s) a ds ++ (b ∷ []))
  other_sum a s ds b g p q wrong = go r.line e w
    where
      go : (l : Line) → framing_of l ≡ F.Oem → sum_due l ≡ false →
          (let bytes = front (oem s) a ds ++ (b ∷ []) in (frames_of l bytes ≡ []) × ((feed (record { line = l; frame = r.frame }) bytes).line ≡ fresh_line F.Oem))
      go (Dt d) e w = let z : ◌≡◌ {A = ℕ} 0 1 = never_both (sym e) in absurd (omega arith)
      go (Oem o) e w = let t = another_sum_is_silent a s ds o r.frame b w g p q wrong in (t.1.frames, ap (λ (x : Received). x.line) t.1.left)

  module _ (s : ℕ) (f : Sent) (whole : Whole s f) where
    damaged_frame : (damaged : List ℕ) → Damaged s f damaged → Nothing damaged
    unfolding data_byte every
    damaged_frame damaged (in_address b p but) =
        other_sum b s f.bytes (last_byte (oem s) f.address f.bytes) (a_sequence_is_printable s whole.sequence) p whole.bytes
        (λ same. but (sym (one_byte_changed_changes_the_sum 0 f.address b (stx ∷ []) (s ∷ (f.bytes ++ (etx ∷ []))) same)))
    damaged_frame damaged (in_sequence b p but) =
        other_sum f.address b f.bytes (last_byte (oem s) f.address f.bytes) p whole.address whole.bytes
        (λ same. but (sym (one_byte_changed_changes_the_sum 0 s b (stx ∷ f.address ∷ []) (f.bytes ++ (etx ∷ [])) same)))
    damaged_frame damaged (in_data before c b after is p but) =
        let all = every_parts printable before (c ∷ after) (subst (λ (xs : List ℕ). every printable xs ≡ true) is whole.bytes) in
        let later = and_both (printable c) (every printable after) all.1 in
        other_sum f.address s (before ++ (b ∷ after)) (last_byte (oem s) f.address f.bytes) (a_sequence_is_printable s whole.sequence) whole.address
        (every_append printable before (b ∷ after) all.0 (rw p later.1))
        (λ same.
        but (sym (one_byte_changed_changes_the_sum 0 c b (stx ∷ f.address ∷ s ∷ before) (after ++ (etx ∷ []))
        (rw (← append_assoc before (c ∷ after) (etx ∷ []), ← append_assoc before (b ∷ after) (etx ∷ []), ← is) same))))
    damaged_frame damaged (in_sum b but) =
        other_sum f.address s f.bytes b (a_sequence_is_printable s whole.sequence) whole.address whole.bytes but

-- a whole frame leaves no sum due, whatever the receiver
begun_is_no_sum : (b : ℕ) → sum_due (begun b) ≡ false
begun_is_no_sum b = by (λ (l : Line). sum_due l ≡ false) (eqb b stx) (λ e. refl) (λ e. refl)

lost : (l : Line) (held : List ℕ) (s : ℕ) (f : Sent) → sum_due l ≡ true → Whole s f →
    (let last = last_byte (oem s) f.address f.bytes in
    (frames_of (hear_of l stx).line (behind_stx s f) ≡ []) × ((feed (record { line = l; frame = held }) (bytes_of (oem s) f)).line ≡ begun last))
unfolding feed hears data_byte
lost (Dt d) held s f due whole = absurd (false≢true due)
lost (Oem O.Outside) held s f due whole = absurd (false≢true due)
lost (Oem O.Started) held s f due whole = absurd (false≢true due)
lost (Oem (O.Addressed a)) held s f due whole = absurd (false≢true due)
lost (Oem (O.Collecting h n)) held s f due whole = absurd (false≢true due)
lost (Oem (O.Ended h n)) held s f due whole =
    let kept = (hears (record { line = Oem (O.Ended h n); frame = held }) stx).frame in
    let t = the_rest_is_lost f.address s f.bytes kept whole.address (a_sequence_is_printable s whole.sequence) whole.bytes in (
      ap (λ (l : Line). frames_of l (behind_stx s f)) (after_a_sum h n stx) ∙ t.frames,
      ap (λ (l : Line). (feed (record { line = l; frame = kept }) (behind_stx s f)).line) (after_a_sum h n stx) ∙ ap (λ (x : Received). x.line) t.left,
    )

module _ (r : Received) (e : framing_of r.line ≡ F.Oem) (n : length r.frame ≡ 320) where
  hears_it : (s : ℕ) → sum_due r.line ≡ false → Hears (oem s) r.line
  hears_it s w = record { framing = e; no_sum = w }

  no_sum_after : (s : ℕ) (f : Sent) → Whole s f → sum_due (feed r (bytes_of (oem s) f)).line ≡ false
  no_sum_after s f whole = go (sum_due r.line) refl
    where
      go : (x : Bool) → sum_due r.line ≡ x → sum_due (feed r (bytes_of (oem s) f)).line ≡ false
      go true due = rw (lost r.line r.frame s f due whole).1 (begun_is_no_sum (last_byte (oem s) f.address f.bytes))
      go false w = rw (whole_frame (oem s) f.address f.bytes whole r (hears_it s w) n).outside

  hears_after : (s t : ℕ) (f : Sent) → Whole s f → Hears (oem t) (feed r (bytes_of (oem s) f)).line
  hears_after s t f whole = record { framing = feed_keeps_framing r (bytes_of (oem s) f) ∙ e; no_sum = no_sum_after s f whole }

  as_by_fresh : (t : ℕ) (x : Received) (g : Sent) → length x.frame ≡ 320 → Hears (oem t) x.line → Whole t g → read_of (oem t) x g ≡ read_of (oem t) (fresh_receiver F.Oem) g
  as_by_fresh t x g m h whole =
      one_as_sent (oem t) x g h whole m ∙ sym (one_as_sent (oem t) (fresh_receiver F.Oem) g (record { framing = refl; no_sum = refl }) whole (length-replicate {A = ℕ} 320 0))

  pub every_OEM_receiver_is_so : OemReceiver r
  every_OEM_receiver_is_so =
      record {
        a_damaged_frame_completes_none = λ w s f damaged whole d. damaged_frame r e w s f whole damaged d;
        the_second_is_read_as_by_a_fresh_one =
            λ s t f g whole next. as_by_fresh t (feed r (bytes_of (oem s) f)) g (feed_long r (bytes_of (oem s) f) ∙ n) (hears_after s t f whole) next;
        the_first_where_no_sum_is_due = λ w s f whole. as_by_fresh s r f n (hears_it s w) whole;
        the_first_where_a_sum_is_due = λ due s f whole. lost r.line r.frame s f due whole;
      }

-- bytes that complete no frame are ignored, whatever comes between them
none_completed : (d : Deed) (ds : List Deed) (ours : ℕ) → completes d ds ≡ [] → Other ours d × (ds ≡ [])
unfolding completes
none_completed W.Nothing ds ours e = (tt, e)
none_completed (W.Keep at) ds ours e = (tt, e)
none_completed (W.Frame a n) ds ours e = let z : ◌≡◌ {A = ℕ} 0 1 = cc in absurd (omega arith)

byteless_is_silent : (c : Call) (k : Controller) → Byteless c → IsSilent k c
byteless_is_silent (byte b l) k no_byte = absurd no_byte
byteless_is_silent (listen bytes) k no_byte = absurd no_byte
byteless_is_silent (tick s) k no_byte = tt
byteless_is_silent stop k no_byte = tt
byteless_is_silent (advance n s) k no_byte = tt
byteless_is_silent (run n s) k no_byte = tt

ignored : (bs : List ℕ) (cs : List Call) (k : Controller) → Giving bs cs → frames_of k.line bs ≡ [] → Ignores k cs
unfolding frames_of hears call_of
ignored bs cs k none_left e = tt
ignored bs cs k (a_byte b l bs' cs' long g) e =
    let none = none_completed (hear_of k.line b).deed (frames_of (hear_of k.line b).line bs') (letter_of k.address) e in
    let is = byte_other k b l.buffer long none.0 in
    (rw is, subst (λ (t : Turn After). Ignores t.next.reply.controller cs') (sym is) (ignored bs' cs' _ g none.1))
ignored bs cs k (between c bs' cs' no_byte g) e =
    (byteless_is_silent c k no_byte, ignored bs' cs' _ g (ap (λ (r : Received). frames_of r.line bs') (byteless_receiver c k no_byte) ∙ e))

-- the line that given bytes leave is the receiver's
line_alone : (r x : Received) (bs : List ℕ) → r.line ≡ x.line → (feed r bs).line ≡ (feed x bs).line
unfolding feed hears
line_alone r x [] e = e
line_alone r x (b ∷ bs) e = line_alone (hears r b) (hears x b) bs (ap (λ (l : Line). (hear_of l b).line) e)

given_line : (bs : List ℕ) (cs : List Call) (k : Controller) → Giving bs cs → (after_of cs k).line ≡ (feed (receiver k) bs).line
unfolding after_of feed hears call_of
given_line bs cs k none_left = refl
given_line bs cs k (a_byte b l bs' cs' long g) =
    let next = (byte_of k b l.buffer).next.reply.controller in
    given_line bs' cs' next g ∙
    line_alone (receiver next) (hears (receiver k) b) bs' (ap (λ (t : Turn After). t.next.reply.controller.line) (byte_does k b l.buffer long))
given_line bs cs k (between c bs' cs' no_byte g) = given_line bs' cs' (call_of c k).next g ∙ ap (λ (r : Received). (feed r bs').line) (byteless_receiver c k no_byte)

-- what is in hand awaits a sum where one is due
due_in_hand : (h : Hand) → sum_due (line_of h) ≡ awaits_sum h
due_in_hand (dt_hand h) = refl
due_in_hand (oem_hand idle) = refl
due_in_hand (oem_hand started) = refl
due_in_hand (oem_hand (addressed a)) = refl
due_in_hand (oem_hand (collecting a s ds)) = refl
due_in_hand (oem_hand (closed a s ds)) = refl

-- a frame whose start is heard, after a controller and after one with a fresh receiver
fresh_hears : (s : ℕ) (l : Line) → Hears (oem s) l → Hears (oem s) (fresh_line (framing_of l))
fresh_hears s (Dt d) h = let z : ◌≡◌ {A = ℕ} 0 1 = never_both (sym h.framing) in absurd (omega arith)
fresh_hears s (Oem o) h = record { framing = refl; no_sum = refl }

module _ (a : Address) (calls : List Call) where
  abbrev here : Controller
  here = after (in_oem a) calls

  long : length here.frame ≡ 320
  long = (every_controller_is_sound (in_oem a) calls).sized.frame

  framing : framing_of here.line ≡ F.Oem
  framing = the_framing_stays (in_oem a) calls

  due : sum_due here.line ≡ awaits_sum (in_hand F.Oem calls)
  due = ap sum_due (the_receiver_holds_what_is_in_hand (in_oem a) calls).line ∙ due_in_hand (in_hand F.Oem calls)

  starts_afresh : (k : Controller) (s : ℕ) (f : Sent) (cs more : List Call) → length k.frame ≡ 320 → Hears (oem s) k.line → Giving (bytes_of (oem s) f) cs → Alike k (cleared k) (cs ++ more)
  starts_afresh k s f cs more n h g = giving_alike (oem s) (bytes_of (oem s) f) (behind_stx s f) cs more k (cleared k) g refl h (fresh_hears s k.line h) (clears k n)

  pub every_OEM_controller_is_so : OemController a calls
  unfolding call_of
  every_OEM_controller_is_so =
      record {
        a_damaged_frame_is_silent = λ w s f damaged cs whole d g. ignored damaged cs here g (damaged_frame (receiver here) framing (due ∙ w) s f whole damaged d).0;
        the_second_frame_acts_as_by_a_fresh_one =
            λ s t f g first second more whole next gives later.
            let heard = subst (Hears (oem t)) (sym (given_line (bytes_of (oem s) f) first here gives)) (hears_after (receiver here) framing long s t f whole) in
            starts_afresh (after_of first here) t g second more (frames_stay first here ∙ long) heard later;
        the_first_where_no_sum_is_awaited = λ w s f cs more whole g. starts_afresh here s f cs more long (record { framing = framing; no_sum = due ∙ w }) g;
        the_first_where_a_sum_is_awaited =
            λ w s f l cs whole enough g.
            let left = ap (λ (t : Turn After). t.next.reply.controller.line) (byte_does here stx l.buffer enough) in
            ignored (behind_stx s f) cs _ g (ap (λ (x : Line). frames_of x (behind_stx s f)) left ∙ (lost here.line here.frame s f (due ∙ w) whole).0);
      }
