-- Theorems on receivers of either framing: bytes in two parts, what a byte changes, how far the count goes, and what the bytes of a frame's data leave.
use mathlib.Core.Path.{◌≡◌, refl, ap, ◌∙◌}
use mathlib.Core.Bool.{Bool, true, false, ◌&&◌}
use mathlib.Core.List.{List, [], ◌∷◌, ◌++◌}
use Prim.Native.Nat.{ℕ, suc, ◌+◌, ◌-◌, ◌≤◌, ◌<◌, min}
use native.Mathlib.Numerals.{add-one}
use native.Mathlib.Omega.{arith}
use borrow.Author.Tests.{ltb-true, ltb-false, leb-true, le-leb}
use lib.Dec.{ltb, leb, eqb}
use lib.ListN.{length, take, get_or, set, length-set}
use lib.Seq.{sets, take-nil, get_or-set_same, get_or-set_other}
use Rattle.basics.specs.Bytes.{every}
use Rattle.basics.proofs.Choice.{by}
use Rattle.basics.proofs.Digits.{and_both}
use Rattle.line.specs.declared.Framing.TheVariants as F
use Rattle.line.specs.declared.Line.{Line}
use Rattle.line.specs.declared.Line.TheVariants.{Dt, Oem}
use Rattle.line.specs.declared.Deed.{Deed}
use Rattle.line.specs.declared.Deed.TheVariants.{Nothing, Keep, Frame}
use Rattle.line.specs.declared.Heard.{Heard}
use Rattle.line.specs.declared.dt.Dt.{Dt as DtState}
use Rattle.line.specs.declared.dt.Dt.TheVariants as D
use Rattle.line.specs.declared.oem.Head.{Head}
use Rattle.line.specs.declared.oem.Oem.{Oem as OemState}
use Rattle.line.specs.declared.oem.Oem.TheVariants as O
use Rattle.line.specs.Bytes.{printable}
use Rattle.line.specs.Dt as Dt
use Rattle.line.specs.Dt.{slash, cr}
use Rattle.line.specs.Oem as Oem
use Rattle.line.specs.Oem.{stx, etx}
use Rattle.line.specs.Wire.{framing_of, hear_of, keep_of, Received, hears, feed, completes, frames_of, sum_due, Within}

-- "CR and 20h to 7Eh": which bytes are printable, exactly
pub a_printable_byte_is_20h_to_7Eh : (b : ℕ) → printable b ≡ true → (32 ≤ b) × (b ≤ 126)
unfolding printable
a_printable_byte_is_20h_to_7Eh b p = let both = and_both (leb 32 b) (leb b 126) p in (leb-true 32 b both.0, leb-true b 126 both.1)

pub from_20h_to_7Eh_is_printable : (b : ℕ) → 32 ≤ b → b ≤ 126 → printable b ≡ true
unfolding printable
from_20h_to_7Eh_is_printable b h k = simp (le-leb 32 b h, le-leb b 126 k)

-- so none of them is CR, 02h or 03h
pub no_low : (b c : ℕ) → printable b ≡ true → c < 32 → b ≡ c → ⊥
no_low b c p l e = omega (arith, (a_printable_byte_is_20h_to_7Eh b p).0)

-- one number is below another, or not
pub less : {G : Type 0} (n m : ℕ) → (n < m → G) → (m ≤ n → G) → G
less {G} n m f g = by (λ (t : Bool). G) (ltb n m) {a = true} {b = true} (λ e. f (ltb-true n m e)) (λ e. g (ltb-false n m e))

abbrev pub at : Line → List ℕ → Received
at l f = record { line = l; frame = f }

-- bytes in two parts
pub feed_append : (r : Received) (xs ys : List ℕ) → feed r (xs ++ ys) ≡ feed (feed r xs) ys
unfolding feed
feed_append r [] ys = refl
feed_append r (x ∷ xs) ys = feed_append (hears r x) xs ys

pub frames_append : (r : Received) (xs ys : List ℕ) → frames_of r.line (xs ++ ys) ≡ frames_of r.line xs ++ frames_of (feed r xs).line ys
unfolding frames_of feed hears completes
frames_append r [] ys = refl
frames_append r (x ∷ xs) ys = go (hear_of r.line x).deed (frames_of (hear_of r.line x).line xs) _ (frames_append (hears r x) xs ys)
  where
    go : (d : Deed) {all : List Deed} (fs gs : List Deed) → all ≡ fs ++ gs → completes d all ≡ completes d fs ++ gs
    go Nothing fs gs e = e
    go (Keep at) fs gs e = e
    go (Frame a n) fs gs e = ap (◌∷◌ (Frame a n)) e

-- the frame stays as long as it was
pub feed_long : (r : Received) (bs : List ℕ) → length (feed r bs).frame ≡ length r.frame
unfolding feed hears keep_of
feed_long r [] = refl
feed_long r (b ∷ bs) = feed_long (hears r b) bs ∙ go (hear_of r.line b).deed
  where
    go : (d : Deed) → length (keep_of r.frame d b) ≡ length r.frame
    go Nothing = refl
    go (Keep at) = length-set r.frame at b
    go (Frame a n) = refl

-- and so does the framing
pub hear_keeps_framing : (l : Line) (b : ℕ) → framing_of (hear_of l b).line ≡ framing_of l
unfolding hear_of
hear_keeps_framing (Dt d) b = refl
hear_keeps_framing (Oem o) b = refl

pub feed_keeps_framing : (r : Received) (bs : List ℕ) → framing_of (feed r bs).line ≡ framing_of r.line
unfolding feed hears
feed_keeps_framing r [] = refl
feed_keeps_framing r (b ∷ bs) = feed_keeps_framing (hears r b) bs ∙ hear_keeps_framing r.line b

-- DT has no sum to wait for
pub no_sum_in_DT : (l : Line) → framing_of l ≡ F.Dt → sum_due l ≡ false
no_sum_in_DT (Dt d) e = refl
no_sum_in_DT (Oem o) e = let z : ◌≡◌ {A = ℕ} 0 1 = cc in absurd (omega arith)

-- A byte whose deed is Nothing changes nothing but the line, and so does one that completes a frame.
pub nothing_kept : (r : Received) (b : ℕ) → (hear_of r.line b).deed ≡ Nothing → (hears r b).frame ≡ r.frame
unfolding hears keep_of
nothing_kept r b e = rw e

pub frame_kept : (r : Received) (b a n : ℕ) → (hear_of r.line b).deed ≡ Frame a n → (hears r b).frame ≡ r.frame
unfolding hears keep_of
frame_kept r b a n e = rw e

-- a place to be kept at is one of the 320, and a count stays within 321
abbrev Low : Deed → Type 0
Low Nothing = Unit {0}
Low (Keep at) = at < 320
Low (Frame a n) = Unit {0}

abbrev FineDt : DtState → Heard DtState → Type 0
FineDt d s = Low s.deed × (Dt.Within d → Dt.Within s.line)

dt_end : (d : DtState) → FineDt d (Dt.end_of d)
unfolding Dt.end_of
dt_end D.Outside = (tt, λ w. tt)
dt_end D.Started = (tt, λ w. tt)
dt_end (D.Collecting a n) = (tt, λ w. tt)

dt_take : (d : DtState) (b : ℕ) → FineDt d (Dt.take_of d b)
unfolding Dt.take_of
dt_take D.Outside b = (tt, λ w. tt)
dt_take D.Started b = (tt, λ w. omega arith)
dt_take (D.Collecting a n) b =
    by (FineDt (D.Collecting a n)) (ltb n 320) (λ e. let h = ltb-true n 320 e in (h, λ w. omega arith)) (λ e. (tt, λ w. omega arith))

fine_dt : (d : DtState) (b : ℕ) → FineDt d (Dt.hear_of d b)
unfolding Dt.hear_of
fine_dt d b =
    by (FineDt d) (eqb b slash) (λ e. (tt, λ w. tt)) (λ e.
    by (FineDt d) (eqb b cr) (λ e. dt_end d) (λ e.
    by (FineDt d) (printable b) (λ e. dt_take d b) (λ e. (tt, λ w. tt))))

abbrev FineOem : OemState → Heard OemState → Type 0
FineOem o s = Low s.deed × (Oem.Within o → Oem.Within s.line)

oem_header : (o next : OemState) (b : ℕ) → Oem.Within next → FineOem o (Oem.header_of b next)
unfolding Oem.header_of
oem_header o next b n =
    by (FineOem o) (eqb b stx) (λ e. (tt, λ w. tt)) (λ e.
    by (FineOem o) (printable b) (λ e. (tt, λ w. n)) (λ e. (tt, λ w. tt)))

oem_take : (h : Head) (n b : ℕ) → FineOem (O.Collecting h n) (Oem.take_of h n b)
unfolding Oem.take_of
oem_take h n b =
    by (FineOem (O.Collecting h n)) (ltb n 320) (λ e. let l = ltb-true n 320 e in (l, λ w. omega arith)) (λ e. (tt, λ w. omega arith))

fine_oem : (o : OemState) (b : ℕ) → FineOem o (Oem.hear_of o b)
unfolding Oem.hear_of Oem.collect_of Oem.judged_of
fine_oem O.Outside b = by (FineOem O.Outside) (eqb b stx) (λ e. (tt, λ w. tt)) (λ e. (tt, λ w. tt))
fine_oem O.Started b = oem_header O.Started (O.Addressed b) b tt
fine_oem (O.Addressed a) b = oem_header (O.Addressed a) (O.Collecting (Oem.head_of a b) 0) b (omega arith)
fine_oem (O.Collecting h n) b =
    by (FineOem (O.Collecting h n)) (eqb b stx) (λ e. (tt, λ w. tt)) (λ e.
    by (FineOem (O.Collecting h n)) (eqb b etx) (λ e. (tt, λ w. w)) (λ e.
    by (FineOem (O.Collecting h n)) (printable b) (λ e. oem_take h n b) (λ e. (tt, λ w. tt))))
fine_oem (O.Ended h n) b = by (FineOem (O.Ended h n)) (eqb b h.sum && Oem.sequenced h.sequence) (λ e. (tt, λ w. tt)) (λ e. (tt, λ w. tt))

abbrev Fine : Line → Heard Line → Type 0
Fine l h = Low h.deed × (Within l → Within h.line)

fine : (l : Line) (b : ℕ) → Fine l (hear_of l b)
unfolding hear_of
fine (Dt d) b = fine_dt d b
fine (Oem o) b = fine_oem o b

-- A byte whose deed is Keep changes one place of the frame, and no other.
pub record OnePlace (at b : ℕ) (before after : List ℕ) : Type 0 where
  pub there : get_or after at 0 ≡ b
  pub others : (i : ℕ) → (i ≡ at → ⊥) → get_or after i 0 ≡ get_or before i 0
  pub long : length after ≡ length before

pub one_place : (r : Received) (b at : ℕ) → length r.frame ≡ 320 → (hear_of r.line b).deed ≡ Keep at → OnePlace at b r.frame (hears r b).frame
unfolding hears keep_of
one_place r b at n e =
    let low : at < 320 = rw e at (fine r.line b).0 in
    rw e
    (record {
      there = get_or-set_same r.frame at b 0 (omega arith);
      others = λ i h. get_or-set_other r.frame at i b 0 h;
      long = length-set r.frame at b;
    })

-- The count of a line is at most 321, and stays so.
pub hear_within : (l : Line) (b : ℕ) → Within l → Within (hear_of l b).line
hear_within l b w = (fine l b).1 w

pub feed_within : (r : Received) (bs : List ℕ) → Within r.line → Within (feed r bs).line
unfolding feed hears
feed_within r [] w = w
feed_within r (b ∷ bs) w = feed_within (hears r b) bs (hear_within r.line b w)

-- The data of a frame in hand, in either framing: what is known of it beside the count (an address, or the head) goes on with each byte; 320 bytes are kept, and all are counted up to 321.
pub record Collects {A : Type 0} (inside : A → ℕ → Line) (next : A → ℕ → A) (good : ℕ → Bool) : Type 0 where
  pub kept : (x : A) (n b : ℕ) → good b ≡ true → n < 320 → hear_of (inside x n) b ≡ record { line = inside (next x b) (n + 1); deed = Keep n }
  pub full : (x : A) (n b : ℕ) → good b ≡ true → 320 ≤ n → hear_of (inside x n) b ≡ record { line = inside (next x b) 321; deed = Nothing }

module _ {A : Type 0} (inside : A → ℕ → Line) (next : A → ℕ → A) (good : ℕ → Bool) (c : Collects inside next good) where
  -- after bytes
  abbrev pub along : A → List ℕ → A
  along x [] = x
  along x (b ∷ bs) = along (next x b) bs

  hears_kept : (x : A) (n b : ℕ) (f : List ℕ) → good b ≡ true → n < 320 → hears (at (inside x n) f) b ≡ at (inside (next x b) (n + 1)) (set f n b)
  unfolding hears keep_of
  hears_kept x n b f g h = rw (c.kept x n b g h)

  hears_full : (x : A) (n b : ℕ) (f : List ℕ) → good b ≡ true → 320 ≤ n → hears (at (inside x n) f) b ≡ at (inside (next x b) 321) f
  unfolding hears keep_of
  hears_full x n b f g h = rw (c.full x n b g h)

  same : (x : A) (n m : ℕ) (f g : List ℕ) → n ≡ m → f ≡ g → at (inside x n) f ≡ at (inside x m) g
  same x n m f g p q = rw (p, q)

  abbrev pub left : A → ℕ → List ℕ → List ℕ → Received
  left x n f ds = at (inside (along x ds) (min 321 (n + length ds))) (sets f n (take (320 - n) ds))

  left_kept : (x : A) (n b : ℕ) (f bs : List ℕ) → n < 320 → left (next x b) (n + 1) (set f n b) bs ≡ left x n f (b ∷ bs)
  left_kept x n b f bs h =
      let q : 320 - n ≡ suc (320 - (n + 1)) = omega arith in
      same _ _ _ _ _ (omega arith) (rw (q, add-one n))

  left_full : (x : A) (n b : ℕ) (f bs : List ℕ) → 320 ≤ n → left (next x b) 321 f bs ≡ left x n f (b ∷ bs)
  left_full x n b f bs h =
      let q : 320 - n ≡ 0 = omega arith in
      same _ _ _ _ _ (omega arith) (rw q)

  pub collected : (x : A) (n : ℕ) (f ds : List ℕ) → n ≤ 321 → every good ds ≡ true → feed (at (inside x n) f) ds ≡ left x n f ds
  unfolding feed every
  collected x n f [] h e = let m : n ≡ min 321 (n + 0) = omega arith in same x _ _ _ _ m (rw take-nil)
  collected x n f (b ∷ bs) h e =
      let d = and_both (good b) (every good bs) e in
      less n 320
      (λ k. ap (λ (r : Received). feed r bs) (hears_kept x n b f d.0 k) ∙ collected (next x b) (n + 1) (set f n b) bs (omega arith) d.1 ∙ left_kept x n b f bs k)
      (λ k. ap (λ (r : Received). feed r bs) (hears_full x n b f d.0 k) ∙ collected (next x b) 321 f bs (omega arith) d.1 ∙ left_full x n b f bs k)

  pub quiet : (x : A) (n : ℕ) (ds : List ℕ) → every good ds ≡ true → frames_of (inside x n) ds ≡ []
  unfolding frames_of completes every
  quiet x n [] e = refl
  quiet x n (b ∷ bs) e =
      let d = and_both (good b) (every good bs) e in
      less n 320
      (λ k. rw (c.kept x n b d.0 k) (quiet (next x b) (n + 1) bs d.1))
      (λ k. rw (c.full x n b d.0 k) (quiet (next x b) 321 bs d.1))
