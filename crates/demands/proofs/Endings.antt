-- Theorems: a byte ends a frame exactly where the bytes so far, with it, end with that frame.
use mathlib.Core.Path.{◌≡◌, refl, sym, ap, subst, ◌∙◌}
use mathlib.Core.Bool.{true, false, false≢true, ◌&&◌, not}
use mathlib.Core.List.{List, [], ◌∷◌, ◌++◌, append_assoc, append-nil}
use Prim.Native.Nat.{ℕ}
use native.Mathlib.Omega.{arith}
use borrow.Author.Tests.{eqb-true, eq-eqb, ne_eqb, not-true}
use lib.Dec.{eqb}
use Rattle.basics.specs.Bytes.{every}
use Rattle.basics.specs.Exactly.{Exactly}
use Rattle.basics.proofs.Choice.{by}
use Rattle.basics.proofs.Digits.{and_both, every_append}
use Rattle.line.specs.declared.Framing.{Framing}
use Rattle.line.specs.declared.Framing.TheVariants as F
use Rattle.line.specs.Bytes.{printable}
use Rattle.line.specs.Dt.{slash, cr}
use Rattle.line.specs.Oem.{stx, etx, sequenced}
use Rattle.line.specs.Wire.{Form, dt, oem, formed, data_byte, front, last_byte, Sendable}
use Rattle.line.proofs.Receiving.{no_low}
use Rattle.line.proofs.Framed.{no_stx, a_sequence_is_printable}
use Rattle.demands.specs.Calls.{Call}
use Rattle.demands.specs.InHand.{DtHand, none, begun, to, longer, dt_of, OemHand, idle, started, addressed, collecting, closed, headed, oem_of, Hand, dt_hand, oem_hand, empty_hand, hand_of, hands_of, frame, ended_by, ends, brought, in_hand, awaits_sum, EndIn}
use Rattle.demands.proofs.Holding.{hands_append, chosen}

-- a hand keeps its framing
abbrev framing_in : Hand → Framing
framing_in (dt_hand h) = F.Dt
framing_in (oem_hand h) = F.Oem

hand_keeps_framing : (h : Hand) (b : ℕ) → framing_in (hand_of h b) ≡ framing_in h
hand_keeps_framing (dt_hand h) b = refl
hand_keeps_framing (oem_hand h) b = refl

hands_keep_framing : (h : Hand) (bs : List ℕ) → framing_in (hands_of h bs) ≡ framing_in h
unfolding hands_of
hands_keep_framing h [] = refl
hands_keep_framing h (b ∷ bs) = hands_keep_framing (hand_of h b) bs ∙ hand_keeps_framing h b

empty_framing : (f : Framing) → framing_in (empty_hand f) ≡ f
empty_framing F.Dt = refl
empty_framing F.Oem = refl

hands_from : (f : Framing) (bs : List ℕ) → framing_in (hands_of (empty_hand f) bs) ≡ f
hands_from f bs = hands_keep_framing (empty_hand f) bs ∙ empty_framing f

-- a frame but for its last byte, after bytes that await no sum
dt_data : (h : DtHand) (b : ℕ) → data_byte F.Dt b ≡ true → dt_of h b ≡ longer h b
unfolding dt_of data_byte
dt_data h b d =
    let p = and_both (printable b) (not (eqb b slash)) d in
    rw (not-true (eqb b slash) p.1, ne_eqb b cr (no_low b cr p.0 (omega arith)), p.0)

dt_collected : (a : ℕ) (xs ds : List ℕ) → every (data_byte F.Dt) ds ≡ true → hands_of (dt_hand (to a xs)) ds ≡ dt_hand (to a (xs ++ ds))
unfolding hands_of every
dt_collected a xs [] q = rw append-nil
dt_collected a xs (b ∷ bs) q =
    let d = and_both (data_byte F.Dt b) (every (data_byte F.Dt) bs) q in
    rw (dt_data (to a xs) b d.0, dt_collected a (xs ++ (b ∷ [])) bs d.1, append_assoc xs (b ∷ []) bs)

dt_slash : (h : DtHand) → dt_of h slash ≡ begun
unfolding dt_of
dt_slash h = refl

header : (b : ℕ) (next : OemHand) → printable b ≡ true → headed b next ≡ next
unfolding headed
header b next p = rw (no_stx b p, p)

oem_stx : (h : OemHand) → awaits_sum (oem_hand h) ≡ false → oem_of h stx ≡ started
unfolding oem_of headed
oem_stx idle e = refl
oem_stx started e = refl
oem_stx (addressed a) e = refl
oem_stx (collecting a s ds) e = refl
oem_stx (closed a s ds) e = absurd (false≢true (sym e))

oem_addressed : (a : ℕ) → printable a ≡ true → oem_of started a ≡ addressed a
unfolding oem_of
oem_addressed a p = header a (addressed a) p

oem_sequenced : (a s : ℕ) → printable s ≡ true → oem_of (addressed a) s ≡ collecting a s []
unfolding oem_of
oem_sequenced a s p = header s (collecting a s []) p

oem_etx : (a s : ℕ) (ds : List ℕ) → oem_of (collecting a s ds) etx ≡ closed a s ds
unfolding oem_of
oem_etx a s ds = refl

oem_data : (a s : ℕ) (xs : List ℕ) (b : ℕ) → printable b ≡ true → oem_of (collecting a s xs) b ≡ collecting a s (xs ++ (b ∷ []))
unfolding oem_of
oem_data a s xs b p = rw (no_stx b p, ne_eqb b etx (no_low b etx p (omega arith)), p)

oem_closed : (a s : ℕ) (xs ds : List ℕ) → every printable ds ≡ true → hands_of (oem_hand (collecting a s xs)) (ds ++ (etx ∷ [])) ≡ oem_hand (closed a s (xs ++ ds))
unfolding hands_of every
oem_closed a s xs [] q = rw (oem_etx a s xs, append-nil)
oem_closed a s xs (b ∷ bs) q =
    let d = and_both (printable b) (every printable bs) q in
    ap (λ (h : OemHand). hands_of (oem_hand h) (bs ++ (etx ∷ []))) (oem_data a s xs b d.0) ∙ oem_closed a s (xs ++ (b ∷ [])) bs d.1 ∙
    ap (λ (ys : List ℕ). oem_hand (closed a s ys)) (append_assoc xs (b ∷ []) bs)

abbrev held : Form → ℕ → List ℕ → Hand
held dt a ds = dt_hand (to a ds)
held (oem s) a ds = oem_hand (closed a s ds)

begins : (form : Form) (a : ℕ) (ds : List ℕ) (h : Hand) → Sendable form a ds → framing_in h ≡ formed form → awaits_sum h ≡ false → hands_of h (front form a ds) ≡ held form a ds
unfolding hands_of data_byte
begins dt a ds (dt_hand h) g e w = ap (λ (x : DtHand). hands_of (dt_hand (dt_of x a)) ds) (dt_slash h) ∙ ap (λ (x : DtHand). hands_of (dt_hand x) ds) (dt_data begun a g.address) ∙ (dt_collected a [] ds g.bytes)
begins dt a ds (oem_hand h) g e w = let z : ◌≡◌ {A = ℕ} 0 1 = cc in absurd (omega arith)
begins (oem s) a ds (dt_hand h) g e w = let z : ◌≡◌ {A = ℕ} 0 1 = cc in absurd (omega arith)
begins (oem s) a ds (oem_hand h) g e w =
    ap (λ (x : OemHand). hands_of (oem_hand (oem_of (oem_of x a) s)) (ds ++ (etx ∷ []))) (oem_stx h w) ∙
    ap (λ (x : OemHand). hands_of (oem_hand (oem_of x s)) (ds ++ (etx ∷ []))) (oem_addressed a g.address) ∙
    ap (λ (x : OemHand). hands_of (oem_hand x) (ds ++ (etx ∷ []))) (oem_sequenced a s (a_sequence_is_printable s g.sequence)) ∙ (oem_closed a s [] ds g.bytes)

ends_it : (form : Form) (a : ℕ) (ds : List ℕ) → Sendable form a ds → ended_by (held form a ds) (last_byte form a ds) ≡ frame a ds
unfolding ended_by
ends_it dt a ds g = refl
ends_it (oem s) a ds g = rw (eq-eqb (last_byte (oem s) a ds) (last_byte (oem s) a ds) refl, g.sequence)

-- what is in hand comes from bytes that end with it
record Stem (f : Framing) (past tail : List ℕ) : Type 0 where
  noise : List ℕ
  heard : awaits_sum (hands_of (empty_hand f) noise) ≡ false
  whole : past ≡ noise ++ tail

abbrev OemGood : ℕ → ℕ → List ℕ → Type 0
OemGood a s ds = (printable a ≡ true) × (printable s ≡ true) × (every printable ds ≡ true)

abbrev Stems : Framing → Hand → List ℕ → Type 0
Stems f (dt_hand none) past = Unit {0}
Stems f (dt_hand begun) past = Stem f past (slash ∷ [])
Stems f (dt_hand (to a ds)) past = (data_byte F.Dt a ≡ true) × (every (data_byte F.Dt) ds ≡ true) × Stem f past (front dt a ds)
Stems f (oem_hand idle) past = Unit {0}
Stems f (oem_hand started) past = Stem f past (stx ∷ [])
Stems f (oem_hand (addressed a)) past = (printable a ≡ true) × Stem f past (stx ∷ a ∷ [])
Stems f (oem_hand (collecting a s ds)) past = OemGood a s ds × Stem f past (stx ∷ a ∷ s ∷ ds)
Stems f (oem_hand (closed a s ds)) past = OemGood a s ds × Stem f past (front (oem s) a ds)

-- a byte that starts a frame, and one behind
starts : (f : Framing) (past : List ℕ) (b first : ℕ) → awaits_sum (hands_of (empty_hand f) past) ≡ false → eqb b first ≡ true → Stem f (past ++ (b ∷ [])) (first ∷ [])
starts f past b first w e = record { noise = past; heard = w; whole = ap (λ (x : ℕ). past ++ (x ∷ [])) (eqb-true b first e) }

grows : (f : Framing) (past tail : List ℕ) (b : ℕ) → Stem f past tail → Stem f (past ++ (b ∷ [])) (tail ++ (b ∷ []))
grows f past tail b s = record { noise = s.noise; heard = s.heard; whole = rw s.whole (append_assoc s.noise tail (b ∷ [])) }

module _ (f : Framing) (past : List ℕ) (b : ℕ) where
  abbrev StemsAfter : Hand → Type 0
  StemsAfter h = Stems f h (past ++ (b ∷ []))

  dt_grows : (h : DtHand) → data_byte F.Dt b ≡ true → Stems f (dt_hand h) past → StemsAfter (dt_hand (longer h b))
  unfolding every
  dt_grows none d s = tt
  dt_grows begun d s = (d, refl, grows f past (slash ∷ []) b s)
  dt_grows (to a ds) d s = (s.0, every_append (data_byte F.Dt) ds (b ∷ []) s.1 (rw d refl), grows f past (front dt a ds) b s.2)

  dt_stems : (h : DtHand) → awaits_sum (hands_of (empty_hand f) past) ≡ false → Stems f (dt_hand h) past → StemsAfter (dt_hand (dt_of h b))
  unfolding dt_of data_byte
  dt_stems h w s =
      by (λ (x : DtHand). StemsAfter (dt_hand x)) (eqb b slash) (λ e. starts f past b slash w e) (λ e.
      by (λ (x : DtHand). StemsAfter (dt_hand x)) (eqb b cr) (λ c. tt) (λ c.
      by (λ (x : DtHand). StemsAfter (dt_hand x)) (printable b) (λ p. dt_grows h (rw (p, e) refl) s) (λ p. tt)))

  oem_heads : (next : OemHand) → awaits_sum (hands_of (empty_hand f) past) ≡ false → (printable b ≡ true → StemsAfter (oem_hand next)) → StemsAfter (oem_hand (headed b next))
  unfolding headed
  oem_heads next w s =
      by (λ (x : OemHand). StemsAfter (oem_hand x)) (eqb b stx) (λ e. starts f past b stx w e) (λ e.
      by (λ (x : OemHand). StemsAfter (oem_hand x)) (printable b) s (λ p. tt))

  oem_stems : (h : OemHand) → awaits_sum (hands_of (empty_hand f) past) ≡ awaits_sum (oem_hand h) → Stems f (oem_hand h) past → StemsAfter (oem_hand (oem_of h b))
  unfolding oem_of every
  oem_stems idle w s = by (λ (x : OemHand). StemsAfter (oem_hand x)) (eqb b stx) (λ e. starts f past b stx w e) (λ e. tt)
  oem_stems started w s = oem_heads (addressed b) w (λ p. (p, grows f past (stx ∷ []) b s))
  oem_stems (addressed a) w s = oem_heads (collecting a b []) w (λ p. ((s.0, p, refl), grows f past (stx ∷ a ∷ []) b s.1))
  oem_stems (collecting a q ds) w s =
      by (λ (x : OemHand). StemsAfter (oem_hand x)) (eqb b stx) (λ e. starts f past b stx w e) (λ e.
      by (λ (x : OemHand). StemsAfter (oem_hand x)) (eqb b etx)
      (λ c. (s.0, subst (λ (x : ℕ). Stem f (past ++ (b ∷ [])) (stx ∷ a ∷ q ∷ (ds ++ (x ∷ [])))) (eqb-true b etx c) (grows f past (stx ∷ a ∷ q ∷ ds) b s.1))) (λ c.
      by (λ (x : OemHand). StemsAfter (oem_hand x)) (printable b)
      (λ p. ((s.0.0, s.0.1, every_append printable ds (b ∷ []) s.0.2 (rw p refl)), grows f past (stx ∷ a ∷ q ∷ ds) b s.1)) (λ p. tt)))
  oem_stems (closed a q ds) w s = tt

  stems_byte : (h : Hand) → hands_of (empty_hand f) past ≡ h → Stems f h past → StemsAfter (hand_of h b)
  stems_byte (dt_hand h) e s = dt_stems h (ap awaits_sum e) s
  stems_byte (oem_hand h) e s = oem_stems h (ap awaits_sum e) s

stems : (f : Framing) (h : Hand) (past bs : List ℕ) → hands_of (empty_hand f) past ≡ h → Stems f h past → Stems f (hands_of h bs) (past ++ bs)
unfolding hands_of
stems f h past [] e s = rw append-nil s
stems f h past (b ∷ bs) e s =
    rw (append_assoc past (b ∷ []) bs) at
    (stems f (hand_of h b) (past ++ (b ∷ [])) bs (hands_append (empty_hand f) past (b ∷ []) ∙ ap (λ (x : Hand). hand_of x b) e) (stems_byte f past b h e s))

all_stems : (f : Framing) (bs : List ℕ) → Stems f (hands_of (empty_hand f) bs) bs
unfolding hands_of
all_stems F.Dt bs = stems F.Dt (dt_hand none) [] bs refl tt
all_stems F.Oem bs = stems F.Oem (oem_hand idle) [] bs refl tt

-- the frame that a byte ends
end_in : (f : Framing) (h : Hand) (past : List ℕ) (b a : ℕ) (ds : List ℕ) → framing_in h ≡ f → Stems f h past → ended_by h b ≡ frame a ds → EndIn f a ds past b
unfolding ended_by data_byte
end_in f (dt_hand none) past b a ds g s e = absurd (false≢true (ap ends e))
end_in f (dt_hand begun) past b a ds g s e = absurd (false≢true (ap ends e))
end_in f (dt_hand (to c es)) past b a ds g s e =
    let t = chosen (eqb b cr) c a es ds e in
    rw (← t.1, ← t.2)
    (record {
      form = dt;
      framing = g;
      good = record { sequence = refl; address = s.0; bytes = s.1 };
      noise = s.2.noise;
      heard = s.2.heard;
      whole = s.2.whole;
      last = eqb-true b cr t.0;
    })
end_in f (oem_hand idle) past b a ds g s e = absurd (false≢true (ap ends e))
end_in f (oem_hand started) past b a ds g s e = absurd (false≢true (ap ends e))
end_in f (oem_hand (addressed c)) past b a ds g s e = absurd (false≢true (ap ends e))
end_in f (oem_hand (collecting c q es)) past b a ds g s e = absurd (false≢true (ap ends e))
end_in f (oem_hand (closed c q es)) past b a ds g s e =
    let t = chosen (eqb b (last_byte (oem q) c es) && sequenced q) c a es ds e in
    let both = and_both (eqb b (last_byte (oem q) c es)) (sequenced q) t.0 in
    rw (← t.1, ← t.2)
    (record {
      form = oem q;
      framing = g;
      good = record { sequence = both.1; address = s.0.0; bytes = s.0.2 };
      noise = s.1.noise;
      heard = s.1.heard;
      whole = s.1.whole;
      last = eqb-true b (last_byte (oem q) c es) both.0;
    })

pub in_hand_exactly : (f : Framing) (calls : List Call) (a : ℕ) (ds : List ℕ) (b : ℕ) → Exactly (ended_by (in_hand f calls) b ≡ frame a ds) (EndIn f a ds (brought f calls) b)
unfolding in_hand
in_hand_exactly f calls a ds b =
    record {
      only = end_in f (in_hand f calls) (brought f calls) b a ds (hands_from f (brought f calls)) (all_stems f (brought f calls));
      always = λ e.
          let before = hands_of (empty_hand f) e.noise in
          let there : hands_of (empty_hand f) (brought f calls) ≡ held e.form a ds =
          ap (hands_of (empty_hand f)) e.whole ∙ hands_append (empty_hand f) e.noise (front e.form a ds) ∙
          begins e.form a ds before e.good (hands_from f e.noise ∙ sym e.framing) e.heard in
          rw (there, e.last) (ends_it e.form a ds e.good);
    }
