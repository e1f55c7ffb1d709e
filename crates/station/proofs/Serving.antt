-- Laws of `specs/Serve`, one for each function's return.
use mathlib.Core.Path.{◌≡◌, refl, sym, ap, ◌∙◌}
use mathlib.Core.Bool.{Bool, false}
use mathlib.Core.List.{List, [], ◌∷◌, ◌++◌}
use Prim.Native.Nat.{ℕ, zero, suc, ◌+◌, ◌-◌, ◌*◌, ◌≤◌}
use native.Mathlib.Omega.{arith}
use lib.Dec.{eqb}
use lib.ListN.{length, take, drop, length-drop, length-replicate}
use Rattle.std.specs.Prelude.{Err, None, Ok, Option, Result, Some}
use Rattle.pipettor.specs.declared.address.S2.{S2}
use Rattle.pipettor.specs.Said.{Said, s1}
use Rattle.basics.specs.Bytes.{chars}
use Rattle.basics.proofs.Lists.{tail_all, empty}
use Rattle.desk.specs.declared.Desk.{Desk}
use Rattle.desk.specs.declared.Quantity.{Quantity}
use Rattle.desk.specs.declared.Quantity.TheVariants.{Ticks, Run, Lend, New, Oem, Tip, Press, Minus}
use Rattle.desk.specs.declared.Asked.{Asked}
use Rattle.desk.specs.declared.Asked.TheVariants.{Send, Number, Stop, Raw, Wrong}
use Rattle.desk.specs.Desk.{most_of, asked_of}
use Rattle.desk.specs.Hex.{bytes_in, hex_of}
use Rattle.desk.specs.Forms.{Sends, Raws}
use Rattle.desk.proofs.Forms.{a_frame_is_asked_for, a_number_is_asked_for, raw_bytes_are_asked_for}
use Rattle.line.specs.declared.Framing.{Framing}
use Rattle.line.specs.declared.Framing.TheVariants as F
use Rattle.line.specs.Dt.{slash, cr}
use Rattle.pipettor.specs.declared.address.Address.{Address}
use Rattle.pipettor.specs.declared.address.Address.TheVariants.{One}
use Rattle.pipettor.specs.declared.Controller.{Controller}
use Rattle.pipettor.specs.declared.Reply.{Reply}
use Rattle.pipettor.specs.declared.Listened.{Listened}
use Rattle.pipettor.specs.declared.Ticked.{Ticked}
use Rattle.pipettor.specs.declared.Ran.{Ran}
use Rattle.pipettor.specs.Address.{address_of}
use Rattle.pipettor.specs.Byte as Byte
use Rattle.pipettor.specs.Byte.{After, byte_of}
use Rattle.pipettor.specs.Controller.{made_of, advanced_of, run_of, stopped_of, framing_is}
use Rattle.pipettor.specs.Listening.{listened_of}
use Rattle.pipettor.specs.Returns.{Returns, Keeps}
use lib.IntN.{ℤ, pos, ◌-ℤ◌}
use mir.Syntax.{w32}
use mir.Val.{SFits, to_z, of_z}
use mir.Facts.{to_z-of_z}
use Rattle.motion.specs.declared.Sense.{Sense}
use Rattle.motion.specs.Bodies.{sensing, nothing_sensed}
use Rattle.station.specs.declared.Station.{Station}
use Rattle.station.specs.declared.Replied.{Replied}
use Rattle.printing.specs.Print.{ended, shown_of, place_of, used_of, added_of, Prints}
use Rattle.station.specs.Serve.{station, at_start, on, blank, Served, served, told_of, heard_of, ended_of, gone_on, sent_by, sent_of, framed_by, framed_of, placed_of, shows_ask, waited_of, used_up, ran_of, halted_of, lent_of, sensed_of, tipped_of, pressed_of, made_by, numbered_of, said_to, raw_of, did_of, served_of, Manned, Tells, Replies}
use Rattle.printing.proofs.Output.{shorter}
use Rattle.station.proofs.Signs.{small_back, minus_back}

-- what is promised of fewer bytes is promised of more
weaker : (j k : ℕ) (w : Served) (at : ℕ) (out : List ℕ) (r : Replied) (left : List ℕ) → j ≤ k → Replies j w at out r left → Replies k w at out r left
weaker j k w at out r left h q = record { is = q.is; prints = shorter j k w.text at r.end out left h q.prints }

-- "Address 1."
pub starts : (desk : Desk) (c : Controller) → Returns c (made_of F.Dt One).next c → (x : Sense) → x ≡ nothing_sensed → station desk 32 x c ≡ at_start desk
starts desk c r x e = rw e (ap (station desk 32 nothing_sensed) r.is)

-- a byte
pub tells :
    (b : ℕ) (v s k : Station) (r : Reply) (before left : List ℕ) → v ≡ s → Returns (Byte.after r left) (byte_of v.controller b before).next r.controller → k ≡ on r.controller s → length left ≡ length before →
    Tells b s before (record { station = k; said = r.said }) left
unfolding told_of
tells b v s k r before left i h e l = let t = rw i at h in record {
  is = e ∙ ap (λ (a : After). on a.reply.controller s) t.is;
  said = ap (λ (a : After). a.reply.said) t.is;
  buffer = ap (λ (a : After). a.buffer) t.is;
  long = l;
}

-- the station's buffers
zeros : (n m : ℕ) → n ≤ m → take n (blank m) ≡ blank n
zeros zero m h = refl
zeros (suc n) zero h = absurd (omega arith)
zeros (suc n) (suc m) h = ap (◌∷◌ 0) (zeros n m (omega arith))

module _ (s : Station) (m : Manned s) where
  lent : take s.lend (blank 64) ≡ blank s.lend
  lent = zeros s.lend 64 m.lend

  pub buffer_counted : s.lend ≡ length (take s.lend (blank 64))
  buffer_counted = rw lent (sym (length-replicate s.lend 0))

  pub buffer_short : length (take s.lend (blank 64)) ≤ 64
  buffer_short = rw lent (omega (arith, m.lend, length-replicate {A = ℕ} s.lend 0))

-- a line that says no more than this
pub says : (s : Station) (text : List ℕ) (at end : ℕ) (out left : List ℕ) → Prints (length text + 1) (ended text) at out end left → Replies (length text + 1) (served s (ended text)) at out (record { station = s; end = end }) left
says s text at end out left p = record { is = refl; prints = p }

-- a frame
module _ (v s k : Station) (i : v ≡ s) (m : Manned v) (said : Said) (left out after-it : List ℕ) (at end : ℕ) where
  pub finished :
      (last : ℕ) (u : Station) → u ≡ s → (f : Framing) → f ≡ framing_is u.controller → Tells last s (take v.lend (blank 64)) (record { station = k; said = said }) left → Prints 65 (shown_of f said left) at out end after-it →
      Replies 65 (ended_of last s) at out (record { station = k; end = end }) after-it
  unfolding ended_of heard_of
  finished last u j f d h p = let t = rw (← i) at h in let e : f ≡ framing_is v.controller = rw (j ∙ sym i) at d in rw (← i, ← lent v m) (record { is = t.is; prints = rw (← e, ← t.said, ← t.buffer) p })

  pub heard :
      (b : ℕ) (first : Bool) → Tells b s (take v.lend (blank 64)) (record { station = k; said = said }) left → Prints 195 (added_of first said left) at out end after-it →
      Replies 195 (said_to b first s) at out (record { station = k; end = end }) after-it
  unfolding said_to heard_of
  heard b first h p = let t = rw (← i) at h in rw (← i, ← lent v m) (record { is = t.is; prints = rw (← t.said, ← t.buffer) p })

pub goes_on :
    (v s k : Station) → v ≡ s → (text : List ℕ) (l : Listened) → Keeps l (listened_of v.controller text) v.controller l.controller → k ≡ on l.controller s → (last at : ℕ) (out : List ℕ) (r : Replied) (left : List ℕ) →
    Replies 65 (ended_of last k) at out r left → Replies 65 (gone_on text last s) at out r left
unfolding gone_on
goes_on v s k i text l h e last at out r left q = rw (← i, ← h.is, i) (rw e at q)

module _ (v s k : Station) (i : v ≡ s) (m : Manned v) (said : Said) (begin : ℕ) (rest buf : List ℕ) (last : ℕ) (t : Tells begin s (take v.lend (blank 64)) (record { station = k; said = said }) buf) (at : ℕ) (out left : List ℕ) where
  first : sent_by said rest last k ≡ sent_of begin rest last s
  unfolding sent_of heard_of
  first = rw (t.said, t.is, ← i, lent v m)

  module _ (r : Replied) where
    sends : (w : Served) → sent_by said rest last k ≡ w → Replies 65 w at out r left → Replies 65 (sent_of begin rest last s) at out r left
    sends w e q = rw (sym e ∙ first) at q

    pub sends_on : (n : Option ℕ) → said ≡ Ok n → Replies 65 (gone_on rest last k) at out r left → Replies 65 (sent_of begin rest last s) at out r left
    unfolding sent_by
    sends_on None e q = sends (gone_on rest last k) (rw e) q
    sends_on (Some n) e q = sends (gone_on rest last k) (rw e) q

    pub refused : said ≡ Err s1 → Replies 3 (served k (ended (83 ∷ 49 ∷ []))) at out r left → Replies 65 (sent_of begin rest last s) at out r left
    unfolding sent_by
    refused e q = sends (served k (ended (chars "S1"))) (rw e) (weaker 3 65 (served k (ended (chars "S1"))) at out r left (omega arith) q)

-- by the framing of the controller
module _ (v s : Station) (i : v ≡ s) (text : List ℕ) (at : ℕ) (out : List ℕ) (r : Replied) (left : List ℕ) (f : Framing) (e : f ≡ framing_is v.controller) where
  pub in_DT : f ≡ F.Dt → Replies 65 (sent_of slash text cr s) at out r left → Replies 65 (framed_of text s) at out r left
  unfolding framed_by
  in_DT p q = rw (← i, ← e, p, i) q

  pub in_OEM : f ≡ F.Oem → Replies 65 (framed_by F.Oem text s) at out r left → Replies 65 (framed_of text s) at out r left
  in_OEM p q = rw (← i, ← e, p, i) q

pub no_address : (s : Station) (text : List ℕ) (at : ℕ) (out : List ℕ) (r : Replied) (left : List ℕ) → length text ≡ 0 → Replies 2 (served s (ended (63 ∷ []))) at out r left → Replies 65 (framed_by F.Oem text s) at out r left
unfolding framed_by
no_address s text at out r left h q = rw (empty text h) (weaker 2 65 (served s (ended (63 ∷ []))) at out r left (omega arith) q)

-- ticks, a run, the stop
pub places :
    (s k : Station) (at end : ℕ) (out left : List ℕ) (c : Controller) (asked : Bool) → k ≡ on c s → Prints 38 (place_of c.device.core.body.plunger c.device.core.body.exact asked) at out end left →
    Replies 38 (placed_of c asked s) at out (record { station = k; end = end }) left
unfolding placed_of
places s k at end out left c asked e p = record { is = e; prints = p }

pub runs :
    (v s k : Station) → v ≡ s → (at end : ℕ) (out left : List ℕ) (n : ℕ) (asked : Bool) (t : Ran) → Returns t (run_of n v.sense v.controller) t.ticked.controller → asked ≡ shows_ask v.desk t.ticked.news.eject → k ≡ on t.ticked.controller s →
    Prints 49 (used_of t.used t.ticked.controller.device.core.body.plunger t.ticked.controller.device.core.body.exact asked) at out end left → Replies 49 (ran_of n s) at out (record { station = k; end = end }) left
unfolding used_up
runs v s k i at end out left n asked t h a e p = rw (← i, ← h.is, ← a, i) (record { is = e; prints = p })

module _ (v s : Station) (i : v ≡ s) (at : ℕ) (out : List ℕ) (r : Replied) (left : List ℕ) where
  pub waits : (n : ℕ) (asked : Bool) (t : Ticked) → Returns t (advanced_of n v.sense v.controller) t.controller → asked ≡ shows_ask v.desk t.news.eject → Replies 38 (placed_of t.controller asked s) at out r left → Replies 38 (waited_of n s) at out r left
  waits n asked t h e q = rw (← i, ← h.is, ← e, i) q

  pub halts : (c : Controller) → Keeps c (stopped_of v.controller).next v.controller c → Replies 38 (placed_of c false s) at out r left → Replies 38 (halted_of s) at out r left
  halts c h q = rw (← i, ← h.is, i) q

-- what the host senses
pub sensed_so :
    (x y : Sense) (s : Station) (at : ℕ) (out : List ℕ) (r : Replied) (left : List ℕ) → x ≡ y → Replies 3 (served (station s.desk s.lend x s.controller) (ended (111 ∷ 107 ∷ []))) at out r left →
    Replies 3 (sensed_of y s) at out r left
unfolding sensed_of
sensed_so x y s at out r left e q = rw e at q

-- a reading is handed on as bits, which are that reading
pub pressed_so :
    (tip : Bool) (x : Sense) (z : ℤ) (s : Station) (at : ℕ) (out : List ℕ) (r : Replied) (left : List ℕ) → SFits w32 z → x ≡ sensing tip (to_z w32 (of_z w32 z)) →
    Replies 3 (served (station s.desk s.lend x s.controller) (ended (111 ∷ 107 ∷ []))) at out r left → Replies 3 (sensed_of (sensing tip z) s) at out r left
pressed_so tip x z s at out r left fits e = sensed_so x (sensing tip z) s at out r left (e ∙ ap (λ (y : ℤ). sensing tip y) (to_z-of_z fits))

-- a fresh controller of an address, or S2
module _ (f : Framing) (n : ℕ) (s : Station) (g : Result Address S2) (h : g ≡ address_of n) (at : ℕ) (out : List ℕ) (r : Replied) (left : List ℕ) where
  pub makes_none : (x : S2) → g ≡ Err x → Replies 3 (served s (ended (83 ∷ 50 ∷ []))) at out r left → Replies 3 (made_by f (address_of n) s) at out r left
  unfolding made_by
  makes_none x e q = rw (← h, e) q

  pub makes :
      (a : Address) (c : Controller) (k : Station) → g ≡ Ok a → Returns c (made_of f a).next c → k ≡ on c s → Replies 3 (served k (ended (111 ∷ 107 ∷ []))) at out r left →
      Replies 3 (made_by f (address_of n) s) at out r left
  unfolding made_by
  makes a c k e b o q = rw (← h, e) (rw (o ∙ ap (λ (x : Controller). on x s) b.is) at q)

-- by what is asked
module _ (q : Quantity) (n : ℕ) (s : Station) (at : ℕ) (out : List ℕ) (r : Replied) (left : List ℕ) where
  pub numbered_ticks : q ≡ Ticks → Replies 38 (waited_of n s) at out r left → Replies 65 (numbered_of q n s) at out r left
  unfolding numbered_of
  numbered_ticks e p = rw e (weaker 38 65 (waited_of n s) at out r left (omega arith) p)

  pub numbered_run : q ≡ Run → Replies 49 (ran_of n s) at out r left → Replies 65 (numbered_of q n s) at out r left
  unfolding numbered_of
  numbered_run e p = rw e (weaker 49 65 (ran_of n s) at out r left (omega arith) p)

  pub numbered_lend : q ≡ Lend → Replies 3 (lent_of n s) at out r left → Replies 65 (numbered_of q n s) at out r left
  unfolding numbered_of
  numbered_lend e p = rw e (weaker 3 65 (lent_of n s) at out r left (omega arith) p)

  pub numbered_tip : q ≡ Tip → Replies 3 (tipped_of (eqb n 1) s) at out r left → Replies 65 (numbered_of q n s) at out r left
  unfolding numbered_of
  numbered_tip e p = rw e (weaker 3 65 (tipped_of (eqb n 1) s) at out r left (omega arith) p)

  pub numbered_press : q ≡ Press → n ≤ most_of q → Replies 3 (pressed_of (to_z w32 n) s) at out r left → Replies 65 (numbered_of q n s) at out r left
  unfolding numbered_of
  numbered_press e m p = rw (e, ← small_back n (rw e at m)) (weaker 3 65 (pressed_of (to_z w32 n) s) at out r left (omega arith) p)

  pub numbered_minus : q ≡ Minus → n ≤ most_of q → Replies 3 (pressed_of (to_z w32 (of_z w32 (pos 0 -ℤ to_z w32 n))) s) at out r left → Replies 65 (numbered_of q n s) at out r left
  unfolding numbered_of
  numbered_minus e m p = rw (e, ← minus_back n (rw e at m)) (weaker 3 65 (pressed_of (to_z w32 (of_z w32 (pos 0 -ℤ to_z w32 n))) s) at out r left (omega arith) p)

  pub press_within : q ≡ Press → n ≤ most_of q → n ≤ 40000
  press_within e h = rw e at h

  pub minus_within : q ≡ Minus → n ≤ most_of q → n ≤ 40000
  minus_within e h = rw e at h

  pub numbered_new : q ≡ New → Replies 3 (made_by F.Dt (address_of n) s) at out r left → Replies 65 (numbered_of q n s) at out r left
  unfolding numbered_of
  numbered_new e p = rw e (weaker 3 65 (made_by F.Dt (address_of n) s) at out r left (omega arith) p)

  pub numbered_oem : q ≡ Oem → Replies 3 (made_by F.Oem (address_of n) s) at out r left → Replies 65 (numbered_of q n s) at out r left
  unfolding numbered_of
  numbered_oem e p = rw e (weaker 3 65 (made_by F.Oem (address_of n) s) at out r left (omega arith) p)

pub lend_within : (q : Quantity) (n : ℕ) → q ≡ Lend → n ≤ most_of q → n ≤ 64
lend_within q n e h = rw e at h

module _ (line : List ℕ) (desk : Desk) (a : Asked) (e : a ≡ asked_of desk line) where
  frame_line : a ≡ Send → Sends line
  frame_line q = (a_frame_is_asked_for desk line).only (sym e ∙ q)

  pub frame_starts : a ≡ Send → 2 ≤ length line
  frame_starts q =
      let n : length line ≡ length (chars "> " ++ (frame_line q).text) = ap (λ (t : List ℕ). length t) (frame_line q).form in
      omega arith

  pub frame_few : a ≡ Send → length (take (length line - 2) (drop 2 line)) ≤ 400
  frame_few q = rw (tail_all 2 line) (omega (arith, (frame_line q).clean.short, length-drop 2 line))

  raw_line : a ≡ Raw → Raws desk line
  raw_line q = (raw_bytes_are_asked_for desk line).only (sym e ∙ q)

  pub bytes_start : a ≡ Raw → 2 ≤ length line
  bytes_start q =
      let n : length line ≡ length (chars "x " ++ hex_of (raw_line q).bytes) = ap (λ (t : List ℕ). length t) (raw_line q).form in
      omega arith

  pub bytes_few : a ≡ Raw → length (take (length line - 2) (drop 2 line)) ≤ 400
  bytes_few q = rw (tail_all 2 line) (omega (arith, (raw_line q).clean.short, length-drop 2 line))

  pub bytes_fit : (at : ℕ) (out : List ℕ) → a ≡ Raw → at + 80 * (length line + 1) ≤ length out → at + 80 * (length (take (length line - 2) (drop 2 line)) + 3) ≤ length out
  bytes_fit at out q h = rw (tail_all 2 line) (omega (arith, bytes_start q, length-drop 2 line))

  pub number_within : (q : Quantity) (n : ℕ) → a ≡ Number q n → n ≤ most_of q
  number_within q n h = ((a_number_is_asked_for desk line q n).only (sym e ∙ h)).most

module _ (v s : Station) (i : v ≡ s) (line : List ℕ) (a : Asked) (e : a ≡ asked_of v.desk line) where
  module _ (at : ℕ) (out : List ℕ) (r : Replied) (left : List ℕ) where
    answers : (j : ℕ) (w : Served) → did_of a line s ≡ w → j ≤ 80 * (length line + 1) → Replies j w at out r left → Replies (80 * (length line + 1)) (served_of line s) at out r left
    unfolding served_of
    answers j w d h p = let asks = rw i at e in weaker j (80 * (length line + 1)) (did_of (asked_of s.desk line) line s) at out r left h (rw (sym d ∙ ap (λ (x : Asked). did_of x line s) asks) at p)

    pub answers_frame : a ≡ Send → Replies 65 (framed_of (take (length line - 2) (drop 2 line)) s) at out r left → Replies (80 * (length line + 1)) (served_of line s) at out r left
    unfolding did_of
    answers_frame q p = answers 65 (framed_of (take (length line - 2) (drop 2 line)) s) (rw (q, tail_all 2 line)) (omega arith) p

    pub answers_number : (x : Quantity) (n : ℕ) → a ≡ Number x n → Replies 65 (numbered_of x n s) at out r left → Replies (80 * (length line + 1)) (served_of line s) at out r left
    unfolding did_of
    answers_number x n q p = answers 65 (numbered_of x n s) (rw q) (omega arith) p

    pub answers_stop : a ≡ Stop → Replies 38 (halted_of s) at out r left → Replies (80 * (length line + 1)) (served_of line s) at out r left
    unfolding did_of
    answers_stop q p = answers 38 (halted_of s) (rw q) (omega arith) p

    pub answers_bytes :
        a ≡ Raw → Replies (80 * (length (take (length line - 2) (drop 2 line)) + 3)) (raw_of (bytes_in (take (length line - 2) (drop 2 line))) s) at out r left →
        Replies (80 * (length line + 1)) (served_of line s) at out r left
    unfolding did_of
    answers_bytes q p =
        answers (80 * (length (take (length line - 2) (drop 2 line)) + 3)) (raw_of (bytes_in (take (length line - 2) (drop 2 line))) s) (rw (q, tail_all 2 line))
        (rw (tail_all 2 line) (omega (arith, bytes_start line v.desk a e q, length-drop 2 line))) p

    pub answers_other : a ≡ Wrong → Replies 2 (served s (ended (63 ∷ []))) at out r left → Replies (80 * (length line + 1)) (served_of line s) at out r left
    unfolding did_of
    answers_other q p = answers 2 (served s (ended (63 ∷ []))) (rw q) (omega arith) p
