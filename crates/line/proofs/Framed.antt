-- Theorems: a whole frame, of either framing, is received the same way whatever bytes came before it, but where OEM's sum of an earlier one is still to come.
use mathlib.Core.Path.{◌≡◌, refl, sym, ap, ◌∙◌}
use mathlib.Core.Bool.{true, false, false≢true, not}
use mathlib.Core.List.{List, [], ◌∷◌, ◌++◌}
use Prim.Native.Nat.{ℕ, ◌+◌, ◌≤◌, min}
use native.Mathlib.Nat.{zero-add}
use native.Mathlib.Omega.{arith}
use borrow.Author.Tests.{leb-true, eq-eqb, ne_eqb, not-true}
use lib.Dec.{leb, eqb}
use lib.ListN.{length, take, drop, length-take}
use lib.Seq.{sets, sets-eq, take_at}
use Rattle.basics.specs.Bytes.{every}
use Rattle.basics.proofs.Digits.{and_both}
use Rattle.basics.proofs.Rules.{tests}
use Rattle.line.specs.declared.Framing.{Framing}
use Rattle.line.specs.declared.Framing.TheVariants as F
use Rattle.line.specs.declared.Line.{Line}
use Rattle.line.specs.declared.Line.TheVariants.{Dt, Oem}
use Rattle.line.specs.declared.Deed.{Deed}
use Rattle.line.specs.declared.Deed.TheVariants.{Nothing, Frame}
use Rattle.line.specs.declared.dt.Dt.{Dt as DtState}
use Rattle.line.specs.declared.dt.Dt.TheVariants as D
use Rattle.line.specs.declared.oem.Head.{Head}
use Rattle.line.specs.declared.oem.Oem.{Oem as OemState}
use Rattle.line.specs.declared.oem.Oem.TheVariants as O
use Rattle.line.specs.Bytes.{printable, sum_from}
use Rattle.line.specs.Dt as Dt
use Rattle.line.specs.Dt.{slash, cr}
use Rattle.line.specs.Heard.{waits}
use Rattle.line.specs.Oem as Oem
use Rattle.line.specs.Oem.{stx, etx, sequenced, head_of, with_byte}
use Rattle.line.specs.Wire.{fresh_line, framing_of, hear_of, keep_of, Received, hears, feed, completes, frames_of, Form, dt, oem, formed, data_byte, front, last_byte, framed, sum_due, Sendable, Hears}
use Rattle.line.proofs.Lines.{sum_append}
use Rattle.line.proofs.Receiving.{from_20h_to_7Eh_is_printable, no_low, at, Collects, along, collected, quiet, feed_append, feed_long, frames_append, feed_keeps_framing, no_sum_in_DT}

-- DT: a data byte is taken, whatever the receiver
dt_data : (d : DtState) (b : ℕ) → data_byte F.Dt b ≡ true → Dt.hear_of d b ≡ Dt.take_of d b
unfolding Dt.hear_of data_byte
dt_data d b g =
    let p = and_both (printable b) (not (eqb b slash)) g in
    rw (not-true (eqb b slash) p.1, ne_eqb b cr (no_low b cr p.0 (omega arith)), p.0)

pub dt_starts : (d : DtState) → hear_of (Dt d) slash ≡ record { line = Dt D.Started; deed = Nothing }
unfolding hear_of Dt.hear_of
dt_starts d = refl

dt_addressed : (a : ℕ) → data_byte F.Dt a ≡ true → hear_of (Dt D.Started) a ≡ record { line = Dt (D.Collecting a 0); deed = Nothing }
unfolding hear_of Dt.take_of
dt_addressed a p = rw (dt_data D.Started a p)

dt_ends : (a n : ℕ) → hear_of (Dt (D.Collecting a n)) cr ≡ record { line = Dt D.Outside; deed = Frame a n }
unfolding hear_of Dt.hear_of Dt.end_of
dt_ends a n = refl

abbrev pub inside_dt : ℕ → ℕ → Line
inside_dt a n = Dt (D.Collecting a n)

-- its address stays
abbrev pub stays : ℕ → ℕ → ℕ
stays a b = a

pub dt_collects : Collects inside_dt stays (data_byte F.Dt)
unfolding hear_of Dt.take_of
dt_collects = record {
  kept = λ a n b g h. rw (dt_data (D.Collecting a n) b g) (simp tests);
  full = λ a n b g h. rw (dt_data (D.Collecting a n) b g) (simp tests);
}

dt_along : (a : ℕ) (ds : List ℕ) → along inside_dt stays (data_byte F.Dt) dt_collects a ds ≡ a
dt_along a [] = refl
dt_along a (b ∷ bs) = dt_along a bs

-- OEM: 02h starts a frame, where no sum is due; an address, a sequence and data are of 20h to 7Eh
oem_start : (o : OemState) → sum_due (Oem o) ≡ false → Oem.hear_of o stx ≡ waits O.Started
unfolding Oem.hear_of Oem.header_of Oem.collect_of
oem_start O.Outside e = refl
oem_start O.Started e = refl
oem_start (O.Addressed a) e = refl
oem_start (O.Collecting h n) e = refl
oem_start (O.Ended h n) e = absurd (false≢true (sym e))

pub no_stx : (b : ℕ) → printable b ≡ true → eqb b stx ≡ false
no_stx b p = ne_eqb b stx (no_low b stx p (omega arith))

oem_header : (b : ℕ) (next : OemState) → printable b ≡ true → Oem.header_of b next ≡ waits next
unfolding Oem.header_of
oem_header b next p = rw (no_stx b p, p)

pub oem_starts : (o : OemState) → sum_due (Oem o) ≡ false → hear_of (Oem o) stx ≡ record { line = Oem O.Started; deed = Nothing }
unfolding hear_of
oem_starts o w = rw (oem_start o w)

oem_addressed : (a : ℕ) → printable a ≡ true → hear_of (Oem O.Started) a ≡ record { line = Oem (O.Addressed a); deed = Nothing }
unfolding hear_of Oem.hear_of
oem_addressed a p = rw (oem_header a (O.Addressed a) p)

oem_sequenced : (a s : ℕ) → printable s ≡ true → hear_of (Oem (O.Addressed a)) s ≡ record { line = Oem (O.Collecting (head_of a s) 0); deed = Nothing }
unfolding hear_of Oem.hear_of
oem_sequenced a s p = rw (oem_header s (O.Collecting (head_of a s) 0) p)

oem_closes : (h : Head) (n : ℕ) → hear_of (Oem (O.Collecting h n)) etx ≡ record { line = Oem (O.Ended (with_byte h etx) n); deed = Nothing }
unfolding hear_of Oem.hear_of Oem.collect_of
oem_closes h n = refl

-- "a bad sum, sequence or address, judged once the sum is in": the sum and the sequence here
oem_ends : (h : Head) (n b : ℕ) → b ≡ h.sum → sequenced h.sequence ≡ true → hear_of (Oem (O.Ended h n)) b ≡ record { line = Oem O.Outside; deed = Frame h.address n }
unfolding hear_of Oem.hear_of Oem.judged_of
oem_ends h n b e g = simp (g, eq-eqb b h.sum e)

oem_data : (h : Head) (n b : ℕ) → printable b ≡ true → Oem.collect_of h n b ≡ Oem.take_of h n b
unfolding Oem.collect_of
oem_data h n b p = rw (no_stx b p, ne_eqb b etx (no_low b etx p (omega arith)), p)

abbrev inside_oem : Head → ℕ → Line
inside_oem h n = Oem (O.Collecting h n)

oem_collects : Collects inside_oem with_byte (data_byte F.Oem)
unfolding hear_of data_byte Oem.hear_of Oem.take_of
oem_collects = record {
  kept = λ h n b g l. rw (oem_data h n b g) (simp tests);
  full = λ h n b g l. rw (oem_data h n b g) (simp tests);
}

abbrev pub summed : Head → List ℕ → Head
summed h ds = record { address = h.address; sequence = h.sequence; sum = sum_from h.sum ds }

oem_along : (h : Head) (ds : List ℕ) → along inside_oem with_byte (data_byte F.Oem) oem_collects h ds ≡ summed h ds
unfolding sum_from
oem_along h [] = refl
oem_along h (b ∷ bs) = oem_along (with_byte h b) bs

-- the line when all but the last byte of a frame is in
abbrev pub counted : List ℕ → ℕ
counted ds = min 321 (length ds)

abbrev pub ended : ℕ → ℕ → List ℕ → Head
ended a s ds = with_byte (summed (head_of a s) ds) etx

abbrev pub held : Form → ℕ → List ℕ → Line
held dt a ds = Dt (D.Collecting a (counted ds))
held (oem s) a ds = Oem (O.Ended (ended a s ds) (counted ds))

-- bytes that complete no frame, and what they leave
pub record Silent (r m : Received) (bs : List ℕ) : Type 0 where
  pub left : feed r bs ≡ m
  pub frames : frames_of r.line bs ≡ []

pub none_yet : (r : Received) → Silent r r []
unfolding feed frames_of
none_yet r = record { left = refl; frames = refl }

pub one_more : (r m : Received) (l : Line) (b : ℕ) (bs : List ℕ) → hear_of r.line b ≡ record { line = l; deed = Nothing } → Silent (at l r.frame) m bs → Silent r m (b ∷ bs)
unfolding feed frames_of hears keep_of completes
one_more r m l b bs e s = record { left = rw e s.left; frames = rw e s.frames }

pub and_then : (r m k : Received) (xs ys : List ℕ) → Silent r m xs → Silent m k ys → Silent r k (xs ++ ys)
and_then r m k xs ys s t = record { left = feed_append r xs ys ∙ rw s.left t.left; frames = frames_append r xs ys ∙ rw (s.frames, s.left) t.frames }

module _ (a : ℕ) (ds : List ℕ) where
  abbrev Holds : Form → Received → Type 0
  Holds form r = Silent r (at (held form a ds) (sets r.frame 0 (take 320 ds))) (front form a ds)

  dt_holds : (d : DtState) (f : List ℕ) → data_byte F.Dt a ≡ true → every (data_byte F.Dt) ds ≡ true → Holds dt (at (Dt d) f)
  dt_holds d f p q =
      one_more _ _ (Dt D.Started) slash (a ∷ ds) (dt_starts d)
      (one_more _ _ (inside_dt a 0) a ds (dt_addressed a p)
      (record {
        left = collected inside_dt stays (data_byte F.Dt) dt_collects a 0 f ds (omega arith) q ∙ rw (dt_along a ds, zero-add);
        frames = quiet inside_dt stays (data_byte F.Dt) dt_collects a 0 ds q;
      }))

  pub oem_holds : (s : ℕ) (o : OemState) (f : List ℕ) → sum_due (Oem o) ≡ false → printable s ≡ true → printable a ≡ true → every (data_byte F.Oem) ds ≡ true → Holds (oem s) (at (Oem o) f)
  oem_holds s o f w g p q =
      one_more _ _ (Oem O.Started) stx _ (oem_starts o w)
      (one_more _ _ (Oem (O.Addressed a)) a _ (oem_addressed a p)
      (one_more _ _ (inside_oem (head_of a s) 0) s _ (oem_sequenced a s g)
      (and_then _ (at (inside_oem (summed (head_of a s) ds) (counted ds)) (sets f 0 (take 320 ds))) _ ds (etx ∷ [])
      (record {
        left = collected inside_oem with_byte (data_byte F.Oem) oem_collects (head_of a s) 0 f ds (omega arith) q ∙ rw (oem_along (head_of a s) ds, zero-add);
        frames = quiet inside_oem with_byte (data_byte F.Oem) oem_collects (head_of a s) 0 ds q;
      })
      (one_more _ _ (held (oem s) a ds) etx [] (oem_closes (summed (head_of a s) ds) (counted ds)) (none_yet _)))))

-- its last byte
pub sum_is : (a s : ℕ) (ds : List ℕ) → last_byte (oem s) a ds ≡ (ended a s ds).sum
unfolding sum_from
sum_is a s ds = sum_append (head_of a s).sum ds (etx ∷ [])

pub never_both : (◌≡◌ {A = Framing} F.Oem F.Dt) → ◌≡◌ {A = ℕ} 0 1
never_both e = cc

pub a_sequence_is_printable : (s : ℕ) → sequenced s ≡ true → printable s ≡ true
unfolding sequenced
a_sequence_is_printable s g =
    let both = and_both (leb 48 s) (leb s 55) g in
    from_20h_to_7Eh_is_printable s (omega (arith, leb-true 48 s both.0)) (omega (arith, leb-true s 55 both.1))

holds : (form : Form) (a : ℕ) (ds : List ℕ) (r : Received) → Sendable form a ds → Hears form r.line → Holds a ds form r
unfolding data_byte
holds form a ds r = go form r.line
  where
    go : (form : Form) (l : Line) → Sendable form a ds → Hears form l → Holds a ds form (at l r.frame)
    go dt (Dt d) x h = dt_holds a ds d r.frame x.address x.bytes
    go dt (Oem o) x h = let z : ◌≡◌ {A = ℕ} 0 1 = never_both h.framing in absurd (omega arith)
    go (oem s) (Dt d) x h = let z : ◌≡◌ {A = ℕ} 0 1 = never_both (sym h.framing) in absurd (omega arith)
    go (oem s) (Oem o) x h = oem_holds a ds s o r.frame h.no_sum (a_sequence_is_printable s x.sequence) x.address x.bytes

ends : (form : Form) (a : ℕ) (ds : List ℕ) → Sendable form a ds → hear_of (held form a ds) (last_byte form a ds) ≡ record { line = fresh_line (formed form); deed = Frame a (counted ds) }
ends dt a ds x = dt_ends a (counted ds)
ends (oem s) a ds x = oem_ends (ended a s ds) (counted ds) (last_byte (oem s) a ds) (sum_is a s ds) x.sequence

take_sets : (f xs : List ℕ) → length xs ≤ length f → take (length xs) (sets f 0 xs) ≡ xs
take_sets f xs h = rw (sets-eq xs f 0 (omega arith)) (take_at xs (drop (0 + length xs) f) (length xs) refl)

-- A frame to an address, completed by its last byte and by none before it: so many data bytes, 321 for more than 320, of which the first 320 are kept.
pub record Whole (form : Form) (a : ℕ) (ds : List ℕ) (r : Received) : Type 0 where
  pub silent : frames_of r.line (front form a ds) ≡ []
  pub last : (hear_of (feed r (front form a ds)).line (last_byte form a ds)).deed ≡ Frame a (min 321 (length ds))
  pub outside : (feed r (framed form a ds)).line ≡ fresh_line (formed form)
  pub kept : take (min 320 (length ds)) (feed r (framed form a ds)).frame ≡ take 320 ds

-- Two receivers that hear the same frame, and then the same bytes.
pub record Alike (form : Form) (a : ℕ) (ds : List ℕ) (r s : Received) : Type 0 where
  pub frames : (later : List ℕ) → frames_of r.line (framed form a ds ++ later) ≡ frames_of s.line (framed form a ds ++ later)
  pub line : (feed r (framed form a ds)).line ≡ (feed s (framed form a ds)).line
  pub kept : take (min 320 (length ds)) (feed r (framed form a ds)).frame ≡ take (min 320 (length ds)) (feed s (framed form a ds)).frame

module _ (form : Form) (a : ℕ) (ds : List ℕ) (x : Sendable form a ds) where
  after_last : (r : Received) → Hears form r.line → feed r (framed form a ds) ≡ at (fresh_line (formed form)) (sets r.frame 0 (take 320 ds))
  unfolding feed hears keep_of
  after_last r h = feed_append r (front form a ds) (last_byte form a ds ∷ []) ∙ rw ((holds form a ds r x h).left, ends form a ds x)

  pub one_frame : (r : Received) → Hears form r.line → frames_of r.line (framed form a ds) ≡ Frame a (min 321 (length ds)) ∷ []
  unfolding frames_of completes
  one_frame r h = frames_append r (front form a ds) (last_byte form a ds ∷ []) ∙ rw ((holds form a ds r x h).frames, (holds form a ds r x h).left, ends form a ds x)

  and_later : (r : Received) → Hears form r.line → (later : List ℕ) → frames_of r.line (framed form a ds ++ later) ≡ Frame a (min 321 (length ds)) ∷ frames_of (fresh_line (formed form)) later
  and_later r h later = frames_append r (framed form a ds) later ∙ rw (one_frame r h, after_last r h)

  -- The frame is received whole, whatever the frame in hand.
  pub whole_frame : (r : Received) → Hears form r.line → length r.frame ≡ 320 → Whole form a ds r
  whole_frame r h n = record {
    silent = (holds form a ds r x h).frames;
    last = rw ((holds form a ds r x h).left, ends form a ds x);
    outside = ap (λ (m : Received). m.line) (after_last r h);
    kept = ap (λ (m : Received). take (min 320 (length ds)) m.frame) (after_last r h)
        ∙ rw (← length-take 320 ds) (take_sets r.frame (take 320 ds) (omega (arith, n, length-take 320 ds)));
  }

  -- So it is received whole after any bytes, and is the next frame completed.
  pub whole_after : (r : Received) (noise : List ℕ) → Hears form (feed r noise).line → length r.frame ≡ 320 → Whole form a ds (feed r noise)
  whole_after r noise h n = whole_frame (feed r noise) h (feed_long r noise ∙ n)

  pub after_noise :
      (r : Received) (noise : List ℕ) → Hears form (feed r noise).line →
      frames_of r.line (noise ++ framed form a ds) ≡ frames_of r.line noise ++ (Frame a (min 321 (length ds)) ∷ [])
  after_noise r noise h = frames_append r noise (framed form a ds) ∙ ap (λ (fs : List Deed). frames_of r.line noise ++ fs) (one_frame (feed r noise) h)

  -- Two receivers, one of them fresh perhaps, receive it alike, and alike what follows it.
  pub alike : (r s : Received) → Hears form r.line → Hears form s.line → length r.frame ≡ 320 → length s.frame ≡ 320 → Alike form a ds r s
  alike r s h g m n =
      let y = whole_frame r h m in
      let z = whole_frame s g n in
      record {
        frames = λ later. and_later r h later ∙ sym (and_later s g later);
        line = y.outside ∙ sym z.outside;
        kept = y.kept ∙ sym z.kept;
      }

-- DT hears every frame, after any noise
pub dt_hears : (r : Received) (noise : List ℕ) → framing_of r.line ≡ F.Dt → Hears dt (feed r noise).line
dt_hears r noise e =
    let stays = feed_keeps_framing r noise ∙ e in
    record { framing = stays; no_sum = no_sum_in_DT (feed r noise).line stays }
