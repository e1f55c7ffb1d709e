-- Theorems: the receiver of a controller holds what is in hand after any calls, and the deed of a byte tells what it ends.
use mathlib.Core.Path.{◌≡◌, refl, sym, ap, subst, ◌∙◌}
use mathlib.Core.Bool.{Bool, true, false, false≢true, ◌&&◌}
use mathlib.Core.List.{List, [], ◌∷◌, ◌++◌}
use Prim.Native.Nat.{ℕ, ◌+◌, ◌≤◌, ◌<◌, min}
use native.Mathlib.Omega.{arith}
use borrow.Author.Tests.{ltb-true, ltb-false, lt-ltb, le-ltb, eqb-true}
use lib.Dec.{ltb, eqb}
use lib.ListN.{length, take, drop, set, length-append}
use lib.Seq.{sets-eq, take-nil, take_at, take_all, take-append-le}
use Rattle.std.specs.Prelude.{if◌then◌else◌}
use Rattle.basics.proofs.Choice.{by}
use Rattle.line.specs.declared.Framing.{Framing}
use Rattle.line.specs.declared.Framing.TheVariants as F
use Rattle.line.specs.declared.Line.{Line}
use Rattle.line.specs.declared.Line.TheVariants.{Dt, Oem}
use Rattle.line.specs.declared.Deed.{Deed}
use Rattle.line.specs.declared.Deed.TheVariants as W
use Rattle.line.specs.declared.dt.Dt.{Dt as DtState}
use Rattle.line.specs.declared.dt.Dt.TheVariants as D
use Rattle.line.specs.declared.oem.Head.{Head}
use Rattle.line.specs.declared.oem.Oem.{Oem as OemState}
use Rattle.line.specs.declared.oem.Oem.TheVariants as O
use Rattle.line.specs.declared.Heard.{Heard}
use Rattle.line.specs.Heard.{waits}
use Rattle.line.specs.Bytes.{printable, sum_from}
use Rattle.line.specs.Dt as Dt
use Rattle.line.specs.Dt.{slash, cr}
use Rattle.line.specs.Oem as Oem
use Rattle.line.specs.Oem.{stx, etx, sequenced, head_of, with_byte}
use Rattle.line.specs.Wire.{fresh_line, hear_of, keep_of, is_whole, Received, hears, feed, before_frame}
use Rattle.line.proofs.Lines.{sum_append}
use Rattle.line.proofs.Receiving.{less, feed_long, at}
use Rattle.line.proofs.Framed.{summed, ended, sum_is}
use Rattle.line.proofs.OemFrames.{after_a_sum}
use Rattle.motion.specs.Events.{Turn}
use Rattle.pipettor.specs.declared.Controller.{Controller}
use Rattle.pipettor.specs.Address.{letter_of}
use Rattle.pipettor.specs.Byte.{After, byte_of}
use Rattle.pipettor.specs.Listening.{listened_of}
use Rattle.pipettor.specs.Controller.{made_of, ticked_of, stopped_of, advanced_of, run_of}
use Rattle.pipettor.specs.Valid.{Valid}
use Rattle.pipettor.proofs.Keeps.{Sized, made_is_valid}
use Rattle.frames.specs.Frame.{Other}
use Rattle.frames.proofs.Bytes.{receiver, byte_does, byte_other}
use Rattle.frames.proofs.Calls.{s1_changes_nothing}
use Rattle.demands.specs.Calls.{Making, made, Call, byte, listen, tick, stop, advance, run, call_of, after_of, after}
use Rattle.demands.specs.InHand.{DtHand, none, begun, to, longer, dt_of, OemHand, idle, started, addressed, collecting, closed, headed, oem_of, Hand, dt_hand, oem_hand, empty_hand, hand_of, hands_of, Ending, no_frame, frame, ended_by, ends, unended, brought_by, brought_from, in_hand}
use Rattle.demands.proofs.Sound.{call_keeps_sized, call_keeps_valid, made_is_sized}

-- the first 320 data bytes are kept, and a count of 321 stands for more
abbrev pub Kept : List ℕ → List ℕ → Type 0
Kept ds f = take (min 320 (length ds)) f ≡ take 320 ds

abbrev counted : List ℕ → ℕ
counted ds = min 321 (length ds)

-- the line and the data of what is in hand
abbrev state_of : DtHand → DtState
state_of none = D.Outside
state_of begun = D.Started
state_of (to a ds) = D.Collecting a (counted ds)

abbrev pub line_of : Hand → Line
line_of (dt_hand h) = Dt (state_of h)
line_of (oem_hand idle) = Oem O.Outside
line_of (oem_hand started) = Oem O.Started
line_of (oem_hand (addressed a)) = Oem (O.Addressed a)
line_of (oem_hand (collecting a s ds)) = Oem (O.Collecting (summed (head_of a s) ds) (counted ds))
line_of (oem_hand (closed a s ds)) = Oem (O.Ended (ended a s ds) (counted ds))

abbrev data_in : Hand → List ℕ
data_in (dt_hand none) = []
data_in (dt_hand begun) = []
data_in (dt_hand (to a ds)) = ds
data_in (oem_hand idle) = []
data_in (oem_hand started) = []
data_in (oem_hand (addressed a)) = []
data_in (oem_hand (collecting a s ds)) = ds
data_in (oem_hand (closed a s ds)) = ds

-- a receiver that holds what is in hand
pub record Shows (h : Hand) (r : Received) : Type 0 where
  pub line : r.line ≡ line_of h
  pub kept : Kept (data_in h) r.frame

pub no_data : (f : List ℕ) → Kept [] f
no_data f = rw take-nil

-- one more data byte: kept behind the others, or counted as one too many
behind : (ds f : List ℕ) (b : ℕ) → length f ≡ 320 → length ds < 320 → take (length ds) f ≡ ds → take (length ds + 1) (set f (length ds) b) ≡ ds ++ (b ∷ [])
behind ds f b n h e =
    let l : length (ds ++ (b ∷ [])) ≡ length ds + 1 = length-append ds (b ∷ []) in
    let s : set f (length ds) b ≡ take (length ds) f ++ (b ∷ []) ++ drop (length ds + 1) f = sets-eq (b ∷ []) f (length ds) (omega arith) in
    rw (s, e) (take_at (ds ++ (b ∷ [])) (drop (length ds + 1) f) (length ds + 1) l)

module _ (b : ℕ) (ds f : List ℕ) (kept : Kept ds f) where
  count : length (ds ++ (b ∷ [])) ≡ length ds + 1
  count = length-append ds (b ∷ [])

  room : length f ≡ 320 → length ds < 320 → (counted ds + 1 ≡ counted (ds ++ (b ∷ []))) × Kept (ds ++ (b ∷ [])) (set f (counted ds) b)
  room n h =
      let m : counted ds ≡ length ds = omega arith in
      let p : min 320 (length ds) ≡ length ds = omega arith in
      let r : min 320 (length ds + 1) ≡ length ds + 1 = omega arith in
      let whole : take (length ds) f ≡ ds = rw (p, take_all 320 ds (omega arith)) at kept in
      let all : take 320 (ds ++ (b ∷ [])) ≡ ds ++ (b ∷ []) = take_all 320 (ds ++ (b ∷ [])) (omega (arith, count)) in
      (omega (arith, count), rw (m, count, r, all) (behind ds f b n h whole))

  full : 320 ≤ length ds → (321 ≡ counted (ds ++ (b ∷ []))) × Kept (ds ++ (b ∷ [])) f
  full h =
      let p : min 320 (length ds) ≡ 320 = omega arith in
      let r : min 320 (length ds + 1) ≡ 320 = omega arith in
      let first : take 320 f ≡ take 320 ds = rw p at kept in
      (omega (arith, count), rw (count, r) (first ∙ sym (take-append-le 320 ds (b ∷ []) h)))

  -- in DT and in OEM
  dt_collects : (a : ℕ) → length f ≡ 320 → (let s = Dt.take_of (D.Collecting a (counted ds)) b in Shows (dt_hand (to a (ds ++ (b ∷ [])))) (at (Dt s.line) (keep_of f s.deed b)))
  unfolding Dt.take_of keep_of
  dt_collects a n =
      less (length ds) 320
      (λ h. rw (lt-ltb (counted ds) 320 (omega arith)) (record { line = ap (λ (m : ℕ). Dt (D.Collecting a m)) (room n h).0; kept = (room n h).1 }))
      (λ h. rw (le-ltb (counted ds) 320 (omega arith)) (record { line = ap (λ (m : ℕ). Dt (D.Collecting a m)) (full h).0; kept = (full h).1 }))

  with_it : (a s : ℕ) → with_byte (summed (head_of a s) ds) b ≡ summed (head_of a s) (ds ++ (b ∷ []))
  unfolding sum_from
  with_it a s = ap (λ (x : ℕ). record { address = a; sequence = s; sum = x }) (sym (sum_append (head_of a s).sum ds (b ∷ [])))

  oem_collects : (a s : ℕ) → length f ≡ 320 → (let t = Oem.take_of (summed (head_of a s) ds) (counted ds) b in Shows (oem_hand (collecting a s (ds ++ (b ∷ [])))) (at (Oem t.line) (keep_of f t.deed b)))
  unfolding Oem.take_of keep_of
  oem_collects a s n =
      less (length ds) 320
      (λ h. rw (lt-ltb (counted ds) 320 (omega arith), with_it a s) (record { line = ap (λ (m : ℕ). Oem (O.Collecting (summed (head_of a s) (ds ++ (b ∷ []))) m)) (room n h).0; kept = (room n h).1 }))
      (λ h. rw (le-ltb (counted ds) 320 (omega arith), with_it a s) (record { line = ap (λ (m : ℕ). Oem (O.Collecting (summed (head_of a s) (ds ++ (b ∷ []))) m)) (full h).0; kept = (full h).1 }))

-- what a byte leaves of a receiver that holds what is in hand
abbrev Goes : Hand → ℕ → List ℕ → Type 0
Goes h b f = Shows (hand_of h b) (hears (at (line_of h) f) b)

dt_takes : (h : DtHand) (b : ℕ) (f : List ℕ) → length f ≡ 320 → Kept (data_in (dt_hand h)) f →
    (let t = Dt.take_of (state_of h) b in Shows (dt_hand (longer h b)) (at (Dt t.line) (keep_of f t.deed b)))
unfolding Dt.take_of keep_of
dt_takes none b f n k = record { line = refl; kept = no_data f }
dt_takes begun b f n k = record { line = refl; kept = no_data f }
dt_takes (to a ds) b f n k = dt_collects b ds f k a n

dt_ended : (d : DtState) → (Dt.end_of d).line ≡ D.Outside
unfolding Dt.end_of
dt_ended D.Outside = refl
dt_ended D.Started = refl
dt_ended (D.Collecting a n) = refl

dt_goes : (h : DtHand) (b : ℕ) (f : List ℕ) → length f ≡ 320 → Kept (data_in (dt_hand h)) f → Goes (dt_hand h) b f
unfolding dt_of hears hear_of keep_of Dt.hear_of
dt_goes h b f n k = go (eqb b slash) (eqb b cr) (printable b)
  where
    go : (x y z : Bool) →
        (let t = if x then waits D.Started else if y then Dt.end_of (state_of h) else if z then Dt.take_of (state_of h) b else waits D.Outside in
        Shows (dt_hand (if x then begun else if y then none else if z then longer h b else none)) (at (Dt t.line) (keep_of f t.deed b)))
    go true y z = record { line = refl; kept = no_data f }
    go false true z = record { line = ap Dt (dt_ended (state_of h)); kept = no_data (keep_of f (Dt.end_of (state_of h)).deed b) }
    go false false true = dt_takes h b f n k
    go false false false = record { line = refl; kept = no_data f }

oem_header : (b : ℕ) (f : List ℕ) (next : OemHand) (o : OemState) → line_of (oem_hand next) ≡ Oem o → Kept (data_in (oem_hand next)) f →
    (let t = Oem.header_of b o in Shows (oem_hand (headed b next)) (at (Oem t.line) (keep_of f t.deed b)))
unfolding headed Oem.header_of keep_of
oem_header b f next o e k = go (eqb b stx) (printable b)
  where
    go : (x y : Bool) →
        (let t = if x then waits O.Started else if y then waits o else waits O.Outside in
        Shows (oem_hand (if x then started else if y then next else idle)) (at (Oem t.line) (keep_of f t.deed b)))
    go true y = record { line = refl; kept = no_data f }
    go false true = record { line = sym e; kept = k }
    go false false = record { line = refl; kept = no_data f }

new_head : (a s : ℕ) → line_of (oem_hand (collecting a s [])) ≡ Oem (O.Collecting (head_of a s) 0)
unfolding sum_from
new_head a s = refl

oem_goes : (h : OemHand) (b : ℕ) (f : List ℕ) → length f ≡ 320 → Kept (data_in (oem_hand h)) f → Goes (oem_hand h) b f
unfolding oem_of hears hear_of keep_of Oem.hear_of Oem.collect_of
oem_goes idle b f n k = go (eqb b stx)
  where
    go : (x : Bool) → (let t = if x then waits O.Started else waits O.Outside in Shows (oem_hand (if x then started else idle)) (at (Oem t.line) (keep_of f t.deed b)))
    go true = record { line = refl; kept = no_data f }
    go false = record { line = refl; kept = no_data f }
oem_goes started b f n k = oem_header b f (addressed b) (O.Addressed b) refl (no_data f)
oem_goes (addressed a) b f n k = oem_header b f (collecting a b []) (O.Collecting (head_of a b) 0) (new_head a b) (no_data f)
oem_goes (collecting a s ds) b f n k = go (eqb b stx) (eqb b etx) (printable b)
  where
    go : (x y z : Bool) →
        (let t = if x then waits O.Started else if y then waits (O.Ended (with_byte (summed (head_of a s) ds) etx) (counted ds)) else if z then Oem.take_of (summed (head_of a s) ds) (counted ds) b else waits O.Outside in
        Shows (oem_hand (if x then started else if y then closed a s ds else if z then collecting a s (ds ++ (b ∷ [])) else idle)) (at (Oem t.line) (keep_of f t.deed b)))
    go true y z = record { line = refl; kept = no_data f }
    go false true z = record { line = refl; kept = k }
    go false false true = oem_collects b ds f k a s n
    go false false false = record { line = refl; kept = no_data f }
oem_goes (closed a s ds) b f n k =
    let h : Head = ended a s ds in
    record { line = after_a_sum h (counted ds) b; kept = no_data (keep_of f (hear_of (Oem (O.Ended h (counted ds))) b).deed b) }

goes : (h : Hand) (b : ℕ) (f : List ℕ) → length f ≡ 320 → Kept (data_in h) f → Goes h b f
goes (dt_hand h) b f n k = dt_goes h b f n k
goes (oem_hand h) b f n k = oem_goes h b f n k

-- any byte, and any bytes
heard : (h : Hand) (r : Received) (b : ℕ) → length r.frame ≡ 320 → Shows h r → Shows (hand_of h b) (hears r b)
heard h r b n s = subst (λ (l : Line). Shows (hand_of h b) (hears (at l r.frame) b)) (sym s.line) (goes h b r.frame n s.kept)

all_heard : (h : Hand) (r : Received) (bs : List ℕ) → length r.frame ≡ 320 → Shows h r → Shows (hands_of h bs) (feed r bs)
unfolding feed hands_of
all_heard h r [] n s = s
all_heard h r (b ∷ bs) n s = all_heard (hand_of h b) (hears r b) bs (feed_long r (b ∷ []) ∙ n) (heard h r b n s)

-- what a byte ends, and the deed that it asks for
abbrev pub Deeds : Hand → Ending → Deed → Type 0
Deeds h no_frame d = is_whole d ≡ false
Deeds h (frame a ds) d = (d ≡ W.Frame a (counted ds)) × (data_in h ≡ ds)

abbrev QuietDt : Heard DtState → Type 0
QuietDt t = is_whole t.deed ≡ false

dt_take_is_quiet : (d : DtState) (b : ℕ) → QuietDt (Dt.take_of d b)
unfolding Dt.take_of
dt_take_is_quiet D.Outside b = refl
dt_take_is_quiet D.Started b = refl
dt_take_is_quiet (D.Collecting a n) b = by QuietDt (ltb n 320) (λ e. refl) (λ e. refl)

dt_is_quiet : (d : DtState) (b : ℕ) → (eqb b cr ≡ true → QuietDt (Dt.end_of d)) → QuietDt (Dt.hear_of d b)
unfolding Dt.hear_of
dt_is_quiet d b q =
    by QuietDt (eqb b slash) (λ e. refl) (λ e.
    by QuietDt (eqb b cr) q (λ e.
    by QuietDt (printable b) (λ e. dt_take_is_quiet d b) (λ e. refl)))

dt_deeds : (h : DtHand) (b : ℕ) → Deeds (dt_hand h) (ended_by (dt_hand h) b) (Dt.hear_of (state_of h) b).deed
unfolding ended_by Dt.end_of Dt.hear_of
dt_deeds none b = dt_is_quiet D.Outside b (λ e. refl)
dt_deeds begun b = dt_is_quiet D.Started b (λ e. refl)
dt_deeds (to a ds) b =
    by (λ (x : Ending). Deeds (dt_hand (to a ds)) x (Dt.hear_of (D.Collecting a (counted ds)) b).deed) (eqb b cr)
    (λ e. (rw (eqb-true b cr e), refl))
    (λ e. dt_is_quiet (D.Collecting a (counted ds)) b (λ y. absurd (false≢true (sym e ∙ y))))

abbrev QuietOem : Heard OemState → Type 0
QuietOem t = is_whole t.deed ≡ false

oem_header_is_quiet : (b : ℕ) (o : OemState) → QuietOem (Oem.header_of b o)
unfolding Oem.header_of
oem_header_is_quiet b o = by QuietOem (eqb b stx) (λ e. refl) (λ e. by QuietOem (printable b) (λ e. refl) (λ e. refl))

oem_collect_is_quiet : (h : Head) (n b : ℕ) → QuietOem (Oem.collect_of h n b)
unfolding Oem.collect_of Oem.take_of
oem_collect_is_quiet h n b =
    by QuietOem (eqb b stx) (λ e. refl) (λ e.
    by QuietOem (eqb b etx) (λ e. refl) (λ e.
    by QuietOem (printable b) (λ e. by QuietOem (ltb n 320) (λ e. refl) (λ e. refl)) (λ e. refl)))

deeds : (h : Hand) (b : ℕ) → Deeds h (ended_by h b) (hear_of (line_of h) b).deed
unfolding ended_by hear_of Oem.hear_of Oem.judged_of
deeds (dt_hand h) b = dt_deeds h b
deeds (oem_hand idle) b = by QuietOem (eqb b stx) (λ e. refl) (λ e. refl)
deeds (oem_hand started) b = oem_header_is_quiet b (O.Addressed b)
deeds (oem_hand (addressed a)) b = oem_header_is_quiet b (O.Collecting (head_of a b) 0)
deeds (oem_hand (collecting a s ds)) b = oem_collect_is_quiet (summed (head_of a s) ds) (counted ds) b
deeds (oem_hand (closed a s ds)) b = rw (sum_is a s ds) (go (eqb b (ended a s ds).sum && sequenced s))
  where
    go : (t : Bool) →
        Deeds (oem_hand (closed a s ds)) (if t then frame a ds else no_frame) (if t then record { line = O.Outside; deed = W.Frame a (counted ds) } else waits O.Outside).deed
    go true = (refl, refl)
    go false = refl

-- a byte completes a frame exactly where it ends one
whole_is_ended : (h : Hand) (x : Ending) (d : Deed) → Deeds h x d → is_whole d ≡ ends x
whole_is_ended h no_frame d e = e
whole_is_ended h (frame a ds) d e = rw e.0

-- and completes one to us exactly where it ends one to us
pub other : (ours : ℕ) (h : Hand) (x : Ending) (d : Deed) → Deeds h x d → ((ds : List ℕ) → x ≡ frame ours ds → ⊥) → Other ours d
other ours h no_frame W.Nothing e but = tt
other ours h no_frame (W.Keep at) e but = tt
other ours h no_frame (W.Frame a n) e but = absurd (false≢true (sym e))
other ours h (frame a ds) d e but = rw e.0 (λ is. but ds (ap (λ (y : ℕ). frame y ds) is))

-- where a choice ends a frame
pub chosen : (t : Bool) (a c : ℕ) (ds es : List ℕ) → (if t then frame a ds else no_frame) ≡ frame c es → (t ≡ true) × (a ≡ c) × (ds ≡ es)
chosen true a c ds es e = (refl, cc, cc)
chosen false a c ds es e = absurd (false≢true (ap ends e))

-- a byte that ends a frame leaves nothing in hand
after_end : (h : Hand) (b a : ℕ) (ds : List ℕ) → ended_by h b ≡ frame a ds → data_in (hand_of h b) ≡ []
unfolding ended_by dt_of oem_of
after_end (dt_hand none) b a ds e = absurd (false≢true (ap ends e))
after_end (dt_hand begun) b a ds e = absurd (false≢true (ap ends e))
after_end (dt_hand (to c es)) b a ds e = rw (eqb-true b cr (chosen (eqb b cr) c a es ds e).0)
after_end (oem_hand idle) b a ds e = absurd (false≢true (ap ends e))
after_end (oem_hand started) b a ds e = absurd (false≢true (ap ends e))
after_end (oem_hand (addressed c)) b a ds e = absurd (false≢true (ap ends e))
after_end (oem_hand (collecting c s es)) b a ds e = absurd (false≢true (ap ends e))
after_end (oem_hand (closed c s es)) b a ds e = refl

abbrev pub In : Hand → Controller → Type 0
In h k = Shows h (receiver k)

pub told : (h : Hand) (l : Line) (b : ℕ) → l ≡ line_of h → Deeds h (ended_by h b) (hear_of l b).deed
told h l b e = rw e (deeds h b)

-- a byte with a buffer that is long enough
module _ (h : Hand) (k : Controller) (b : ℕ) (buf : List ℕ) (n : length k.frame ≡ 320) (long : 32 ≤ length buf) (s : In h k) where
  abbrev left : Controller
  left = (byte_of k b buf).next.reply.controller

  left_line : left.line ≡ line_of (hand_of h b)
  unfolding hears
  left_line = ap (λ (t : Turn After). t.next.reply.controller.line) (byte_does k b buf long) ∙ (heard h (receiver k) b n s).line

  left_frame : (x : Ending) → ended_by h b ≡ x → Kept (data_in (hand_of h b)) left.frame
  left_frame no_frame e =
      let o = other (letter_of k.address) h (ended_by h b) (hear_of k.line b).deed (told h k.line b s.line) (λ ds is. false≢true (ap ends (sym e ∙ is))) in
      subst (λ (t : Turn After). Kept (data_in (hand_of h b)) t.next.reply.controller.frame) (sym (byte_other k b buf long o)) (heard h (receiver k) b n s).kept
  left_frame (frame a ds) e = rw (after_end h b a ds e) (no_data left.frame)

  long_called : In (hand_of h b) left
  long_called = record { line = left_line; kept = left_frame (ended_by h b) refl }

-- any call
byte_called : (b : ℕ) (buf : List ℕ) (h : Hand) (k : Controller) → length k.frame ≡ 320 → In h k →
    In (hands_of h (if ltb (length buf) 32 then [] else b ∷ [])) (byte_of k b buf).next.reply.controller
unfolding hands_of
byte_called b buf h k n s =
    by (λ (bs : List ℕ). In (hands_of h bs) (byte_of k b buf).next.reply.controller) (ltb (length buf) 32)
    (λ e. subst (λ (t : Turn After). In h t.next.reply.controller) (sym (s1_changes_nothing k b buf (ltb-true (length buf) 32 e))) s)
    (λ e. long_called h k b buf n (ltb-false (length buf) 32 e) s)

same_before : (h : Hand) (r : Received) (bs : List ℕ) → length r.frame ≡ 320 → Shows h r → before_frame r.line bs ≡ unended h bs
unfolding before_frame unended feed hears
same_before h r [] n s = refl
same_before h r (b ∷ bs) n s =
    rw (whole_is_ended h (ended_by h b) (hear_of r.line b).deed (told h r.line b s.line), same_before (hand_of h b) (hears r b) bs (feed_long r (b ∷ []) ∙ n) (heard h r b n s))

pub called : (c : Call) (h : Hand) (k : Controller) → length k.frame ≡ 320 → In h k → In (hands_of h (brought_by h c)) (call_of c k).next
unfolding hands_of call_of listened_of ticked_of stopped_of advanced_of run_of
called (byte b l) h k n s = byte_called b l.buffer h k n s
called (listen bytes) h k n s = rw (same_before h (receiver k) bytes n s) (all_heard h (receiver k) (unended h bytes) n s)
called (tick x) h k n s = s
called stop h k n s = s
called (advance m x) h k n s = s
called (run m x) h k n s = s

pub hands_append : (h : Hand) (xs ys : List ℕ) → hands_of h (xs ++ ys) ≡ hands_of (hands_of h xs) ys
unfolding hands_of
hands_append h [] ys = refl
hands_append h (x ∷ xs) ys = hands_append (hand_of h x) xs ys

all_called : (cs : List Call) (h : Hand) (k : Controller) → Sized k → Valid k → In h k → In (hands_of h (brought_from h cs)) (after_of cs k)
unfolding hands_of brought_from after_of
all_called [] h k z v s = s
all_called (c ∷ cs) h k z v s =
    let next = hands_of h (brought_by h c) in
    rw (hands_append h (brought_by h c) (brought_from next cs))
    (all_called cs next (call_of c k).next (call_keeps_sized c k z v) (call_keeps_valid c k z v) (called c h k z.frame s))

nothing_shown : (f : Framing) (held : List ℕ) → Shows (empty_hand f) (at (fresh_line f) held)
nothing_shown F.Dt held = record { line = refl; kept = no_data held }
nothing_shown F.Oem held = record { line = refl; kept = no_data held }

pub the_receiver_holds_what_is_in_hand : (a : Making) (calls : List Call) → In (in_hand a.framing calls) (after a calls)
unfolding in_hand after made_of
the_receiver_holds_what_is_in_hand a calls =
    all_called calls (empty_hand a.framing) (made a).next (made_is_sized a) (made_is_valid a.framing a.address) (nothing_shown a.framing (made a).next.frame)
