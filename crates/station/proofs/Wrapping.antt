-- Laws of an OEM frame that is laid out in a lent array.
use mathlib.Core.Path.{◌≡◌, refl, sym, ap, ◌∙◌}
use mathlib.Core.List.{List, [], ◌∷◌, ◌++◌}
use Prim.Native.Nat.{ℕ, suc, ◌+◌, ◌-◌, ◌≤◌, ◌<◌}
use native.Mathlib.Omega.{arith}
use lib.ListN.{length, take, drop, get_or, length-append, length-replicate}
use lib.Seq.{take_at, take-nil}
use Rattle.std.specs.Prelude.{Option}
use Rattle.basics.specs.Lay.{Laid, over}
use Rattle.basics.proofs.Laying.{laid, all_laid}
use Rattle.basics.proofs.Lists.{tail_all, full, front_counted}
use Rattle.basics.proofs.Over.{length_over}
use Rattle.line.specs.declared.Framing.TheVariants as F
use Rattle.line.specs.Bytes.{sum_of}
use Rattle.line.specs.Oem.{stx, etx}
use Rattle.line.specs.Wire.{oem, front}
use Rattle.station.specs.declared.Station.{Station}
use Rattle.station.specs.declared.Replied.{Replied}
use Rattle.station.specs.Serve.{blank, sent_of, wrapped, Wrappable, Wraps, framed_by, Replies}

module _ (text wire : List ℕ) (w : Wrappable text wire) where
  pub first_there : 0 < length text
  first_there = w.addressed

  pub one_behind : 1 ≤ length text
  one_behind = w.addressed

  abbrev address : ℕ
  address = get_or text 0 0

  abbrev rest : List ℕ
  rest = drop 1 text

  split : text ≡ address ∷ rest
  split = full text (λ e. omega (arith, w.addressed))

  count : length text ≡ suc (length rest)
  count = ap (λ (t : List ℕ). length t) split

  whole : wrapped text ≡ front (oem 48) address rest
  whole = ap wrapped split

  pub laid_out :
      (one two three : List ℕ) (r s t : Option ℕ) → Laid (stx ∷ address ∷ 48 ∷ []) 0 wire r one → Laid (take (length text - 1) rest) 3 one s two → Laid (etx ∷ []) (length text + 2) two t three →
      Wraps text wire (length text + 3) three
  laid_out one two three r s t h d e =
      let head = stx ∷ address ∷ 48 ∷ [] in
      let long = count in
      let room = w.room in
      let begun : one ≡ over head 0 wire = (laid h (omega arith)).bytes in
      let middle : Laid rest 3 one s two = rw (tail_all 1 text) at d in
      let so_far : two ≡ over (head ++ rest) 0 wire = all_laid head rest wire one two 3 s begun refl middle (omega arith) in
      let at : length text + 2 ≡ length (head ++ rest) = omega arith in
      let bytes = all_laid (head ++ rest) (etx ∷ []) wire two three (length text + 2) t so_far at e (omega arith) in
      record { count = rw whole (omega (arith, length-append rest (etx ∷ []))); left = bytes ∙ rw whole }

pub can_be_wrapped : (text : List ℕ) → (length text ≡ 0 → ⊥) → length text ≤ 400 → Wrappable text (blank 403)
can_be_wrapped text some few = record { addressed = omega arith; room = rw (length-replicate {A = ℕ} 403 0) (omega arith) }

take_behind : (n : ℕ) (t : List ℕ) → take n (drop 1 t) ≡ drop 1 (take (suc n) t)
take_behind n [] = rw take-nil
take_behind n (b ∷ t) = refl

module _ (text before after : List ℕ) (n : ℕ) (w : Wrappable text before) (x : Wraps text before n after) where
  size : n ≡ length text + 3
  size = x.count ∙ rw (whole text before w) (omega (arith, count text before w, length-append (drop 1 text) (etx ∷ [])))

  pub all_there : n ≤ length after
  all_there =
      let fits : length (wrapped text) ≤ length before = omega (arith, x.count, size, w.room) in
      omega (arith, x.count, ap (λ (l : List ℕ). length l) x.left, length_over (wrapped text) 0 before (omega arith))

  pub one_before : 1 ≤ n
  one_before = omega (arith, size)

  taken : take n after ≡ wrapped text
  unfolding over
  taken = rw x.left (take_at (wrapped text) (drop (0 + length (wrapped text)) before) n (sym x.count))

  pub counted : n ≡ length (take n after)
  counted = front_counted n after all_there

  -- what is sent behind the 02h
  behind : take (n - 1) (drop 1 after) ≡ get_or text 0 0 ∷ 48 ∷ (drop 1 text ++ (etx ∷ []))
  behind =
      let more : n ≡ suc (n - 1) = omega (arith, size) in
      take_behind (n - 1) after ∙ ap (drop 1) (ap (λ (m : ℕ). take m after) (sym more) ∙ taken ∙ whole text before w)

  pub sends_it :
      (last : ℕ) (s : Station) (at : ℕ) (out : List ℕ) (r : Replied) (left : List ℕ) → last ≡ sum_of (take n after) →
      Replies 65 (sent_of stx (take (n - 1) (drop 1 after)) last s) at out r left → Replies 65 (framed_by F.Oem text s) at out r left
  unfolding framed_by
  sends_it last s at out r left e q =
      let sum : last ≡ sum_of (front (oem 48) (get_or text 0 0) (drop 1 text)) = e ∙ ap sum_of (taken ∙ whole text before w) in
      rw (split text before w) (rw (behind, sum) at q)
