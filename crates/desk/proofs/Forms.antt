-- A line is taken in each form exactly where it has that form; and is wrong exactly where it has none.
use mathlib.Core.Path.{◌≡◌, refl, sym, ap, subst, ◌∙◌}
use mathlib.Core.Bool.{Bool, true, false, ◌&&◌, false≢true}
use mathlib.Core.List.{List, [], ◌∷◌, ◌++◌, append-nil}
use Prim.Native.Nat.{ℕ, ◌*◌, ◌/◌, ◌≤◌, ◌<◌}
use native.Mathlib.Omega.{arith}
use borrow.Author.Tests.{leb-true, le-leb, eq-eqb, ne_eqb, eqb-true, eqb-false}
use lib.Dec.{leb, eqb}
use lib.ListN.{length, drop}
use lib.Seq.{drop_at}
use Rattle.std.specs.Prelude.{if◌then◌else◌, None, Option, Some}
use Rattle.basics.specs.Bytes.{chars, zero_digit, digit, every, value_of}
use Rattle.basics.specs.Exactly.{Exactly}
use Rattle.basics.proofs.Choice.{by}
use Rattle.basics.proofs.Lists.{empty}
use Rattle.basics.proofs.Digits.{and_both, digit_range}
use Rattle.line.specs.Bytes.{printable}
use Rattle.operand.specs.declared.Class.TheVariants.{Digit}
use Rattle.operand.specs.declared.Number.{Number}
use Rattle.operand.specs.declared.Number.TheVariants as N
use Rattle.operand.specs.Text.{run, rest}
use Rattle.operand.specs.Begins.{read_in}
use Rattle.operand.specs.Number.{digits, decimals_of, followed_of, number_of}
use Rattle.operand.proofs.Runs.{run_rest, run_digits, run_all}
use Rattle.desk.specs.declared.Desk.{Desk}
use Rattle.desk.specs.declared.Desk.TheVariants.{Bench, Rig}
use Rattle.desk.specs.declared.Quantity.{Quantity}
use Rattle.desk.specs.declared.Quantity.TheVariants.{Ticks, Run, Lend, New, Oem, Tip, Press, Minus}
use Rattle.desk.specs.declared.Word.{Word}
use Rattle.desk.specs.declared.Word.TheVariants as W
use Rattle.desk.specs.declared.Asked.{Asked}
use Rattle.desk.specs.declared.Asked.TheVariants as A
use Rattle.desk.specs.Counts.{whole_of, count_of}
use Rattle.desk.specs.Hex.{paired, bytes_in, hex_of}
use Rattle.desk.specs.Desk.{spelled, begins, sense_word, number_word, word_of, knows, least_of, most_of, allowed, ranged, behind, form_of, asked_of}
use Rattle.desk.specs.Forms.{Clean, Counts, Sends, Gives, Stops, small, Raws}
use Rattle.desk.proofs.Words.{word_heads}
use Rattle.desk.proofs.Written.{Read, written_is_read, read_is_written}

-- a clean line is read by its form
clean_asks : (desk : Desk) (t : List ℕ) → Clean t → asked_of desk t ≡ form_of desk t
unfolding asked_of
clean_asks desk t c = rw (le-leb (length t) 400 c.short, c.bytes)

-- digits, so many of them
some_digits : (least most : ℕ) (t : List ℕ) → digits least most t ≡ true → (least ≤ length t) × (length t ≤ most)
unfolding digits
some_digits least most t e =
    let b = and_both (every digit t) (leb least (length t) && leb (length t) most) e in
    let l = and_both (leb least (length t)) (leb (length t) most) b.1 in
    (leb-true least (length t) l.0, leb-true (length t) most l.1)

digits_enough : (t : List ℕ) → every digit t ≡ true → 0 < length t → length t ≤ 6 → digits 1 6 t ≡ true
unfolding digits
digits_enough t e s f = rw (e, le-leb 1 (length t) (omega arith), le-leb (length t) 6 f)

-- a number, or none
data Counted (ds : List ℕ) : Option ℕ → Type 0 where
  count : (n : ℕ) → Counts ds n → Counted ds (Some n)
  none : Counted ds None

whole_counted : (read n : ℕ) → whole_of (followed_of read n []) ≡ Some n
unfolding whole_of followed_of
whole_counted read n = let e : n * 1000 / 1000 ≡ n = omega arith in rw e

wrong_counted : (read : ℕ) → whole_of (N.Wrong read) ≡ None
unfolding whole_of
wrong_counted read = refl

pointed : (read n b : ℕ) (u : List ℕ) → whole_of (followed_of read n (b ∷ u)) ≡ None
unfolding whole_of followed_of decimals_of
pointed read n b u =
    by (λ (x : Number). whole_of x ≡ None) (eqb b 46)
    (λ e. by (λ (x : Number). whole_of x ≡ None) (digits 1 3 u) (λ d. rw (ne_eqb (length u) 0 (λ z. omega (arith, (some_digits 1 3 u d).0)))) (λ d. refl))
    (λ e. refl)

zero_counts : Counts (zero_digit ∷ []) 0
unfolding every digit value_of
zero_counts = record { digits_only = refl; some = omega arith; few = omega arith; no_leading_zero = λ e. refl; number = refl }

counted : (ds : List ℕ) → Counted ds (count_of ds)
unfolding count_of number_of
counted [] = none
counted (d ∷ ds) = go (eqb d zero_digit) refl (digits 1 6 (run Digit (d ∷ ds))) refl (rest Digit (d ∷ ds)) refl
  where
    zero : (x : Bool) → eqb (length ds) 0 ≡ x → eqb d zero_digit ≡ true → Counted (d ∷ ds) (if x then Some 0 else None)
    zero true l e = rw (eqb-true d zero_digit e, empty ds (eqb-true (length ds) 0 l)) (count 0 zero_counts)
    zero false l e = none

    last : (eqb d zero_digit ≡ false) → digits 1 6 (run Digit (d ∷ ds)) ≡ true → rest Digit (d ∷ ds) ≡ [] → Counted (d ∷ ds) (Some (value_of (run Digit (d ∷ ds))))
    last e y r =
        let w : run Digit (d ∷ ds) ≡ d ∷ ds = sym (append-nil (run Digit (d ∷ ds))) ∙ rw r at (run_rest Digit (d ∷ ds)) in
        let z = some_digits 1 6 (run Digit (d ∷ ds)) y in
        count (value_of (run Digit (d ∷ ds)))
        (record {
          digits_only = rw w at (run_digits (d ∷ ds));
          some = omega arith;
          few = rw w at z.1;
          no_leading_zero = λ q. absurd (eqb-false d zero_digit e q);
          number = ap value_of (sym w);
        })

    go : (x : Bool) → eqb d zero_digit ≡ x → (y : Bool) → digits 1 6 (run Digit (d ∷ ds)) ≡ y → (r : List ℕ) → rest Digit (d ∷ ds) ≡ r →
        Counted (d ∷ ds) (if x then (if eqb (length ds) 0 then Some 0 else None) else whole_of (if y then followed_of (read_in (d ∷ ds)) (value_of (run Digit (d ∷ ds))) r else N.Wrong (read_in (d ∷ ds))))
    go true e y q r p = zero (eqb (length ds) 0) refl e
    go false e false q r p = rw (wrong_counted (read_in (d ∷ ds))) none
    go false e true q [] p = rw (whole_counted (read_in (d ∷ ds)) (value_of (run Digit (d ∷ ds)))) (last e q p)
    go false e true q (b ∷ u) p = rw (pointed (read_in (d ∷ ds)) (value_of (run Digit (d ∷ ds))) b u) none

-- and back: digits alone make the number that they spell
rest_none : (t : List ℕ) → every digit t ≡ true → rest Digit t ≡ []
unfolding rest every
rest_none [] e = refl
rest_none (b ∷ t) e = let d = and_both (digit b) (every digit t) e in rw d.0 (rest_none t d.1)

alone : (d : ℕ) (ds : List ℕ) (n : ℕ) → Counts (d ∷ ds) n → length ds ≡ 0 → d ≡ zero_digit → n ≡ 0
unfolding value_of
alone d ds n c h z = sym c.number ∙ rw (z, empty ds h)

counts : (ds : List ℕ) (n : ℕ) → Counts ds n → count_of ds ≡ Some n
unfolding count_of number_of
counts [] n c = absurd (omega (arith, c.some))
counts (d ∷ ds) n c = go (eqb d zero_digit) refl
  where
    go : (x : Bool) → eqb d zero_digit ≡ x → (if x then (if eqb (length ds) 0 then Some 0 else None) else whole_of (number_of (d ∷ ds))) ≡ Some n
    go true e =
        let z = eqb-true d zero_digit e in
        let h : length ds ≡ 0 = let one = c.no_leading_zero z in omega arith in
        rw (eq-eqb (length ds) 0 h) (ap Some (sym (alone d ds n c h z)))
    go false e =
        let w = run_all Digit (d ∷ ds) c.digits_only in
        rw (w, digits_enough (d ∷ ds) c.digits_only c.some c.few, rest_none (d ∷ ds) c.digits_only, whole_counted (read_in (d ∷ ds)) (value_of (d ∷ ds)), c.number)

-- what a line is, by what it asks
abbrev Formed : Desk → List ℕ → Asked → Type 0
Formed desk t A.Send = Sends t
Formed desk t (A.Number q n) = Gives desk t q n
Formed desk t A.Stop = Stops desk t
Formed desk t A.Raw = Raws desk t
Formed desk t A.Wrong = Unit {0}

module _ (desk : Desk) (t : List ℕ) where
  numbered : (q : Quantity) (ds : List ℕ) → knows desk (W.Number q) ≡ true → t ≡ spelled (W.Number q) ++ ds → Clean t → (c : Option ℕ) → Counted ds c → Formed desk t (ranged q c)
  unfolding ranged allowed
  numbered q ds k h clean c (count n cs) =
      by (Formed desk t) (allowed q n)
      (λ e.
      let both = and_both (leb (least_of q) n) (leb n (most_of q)) e in
      record { known = k; clean = clean; digits = ds; form = h; counts = cs; least = leb-true (least_of q) n both.0; most = leb-true n (most_of q) both.1 })
      (λ e. tt)
  numbered q ds k h clean c none = tt

  worded : (w : Word) (u : List ℕ) → knows desk w ≡ true → t ≡ spelled w ++ u → Clean t → Formed desk t (behind w u)
  unfolding behind
  worded W.Frame u k h clean = record { clean = clean; text = u; form = h }
  worded (W.Number q) u k h clean = numbered q u k h clean (count_of u) (counted u)
  worded W.Stop u k h clean = by (Formed desk t) (eqb (length u) 0) (λ e. record { known = k; clean = clean; form = h ∙ rw (empty u (eqb-true (length u) 0 e)) }) (λ e. tt)
  worded W.Raw u k h clean =
      by (Formed desk t) (paired u)
      (λ e.
      let w = read_is_written u e in
      record { known = k; clean = clean; bytes = bytes_in u; form = h ∙ ap (λ (v : List ℕ). chars "x " ++ v) w.same; some = w.some; bytes_only = w.bytes_only })
      (λ e. tt)
  worded W.Other u k h clean = tt

  formed : Formed desk t (asked_of desk t)
  unfolding asked_of form_of
  formed =
      by (Formed desk t) (leb (length t) 400 && every printable t)
      (λ e.
      let both = and_both (leb (length t) 400) (every printable t) e in
      let clean : Clean t = record { short = leb-true (length t) 400 both.0; bytes = both.1 } in
      by (Formed desk t) (knows desk (word_of t)) (λ k. worded (word_of t) (drop (length (spelled (word_of t))) t) k (word_heads t) clean) (λ k. tt))
      (λ e. tt)

-- digits do not begin with a minus
no_minus : (u : List ℕ) → every digit u ≡ true → begins (chars "-") u ≡ false
unfolding begins every
no_minus [] h = refl
no_minus (b ∷ u) h = let d = digit_range b (and_both (digit b) (every digit u) h).0 in rw (ne_eqb 45 b (λ e. omega arith))

-- and back: what begins with a word is read by it; behind the word of a number stand digits, so `press ` is not read as `press -`
abbrev word : Word → List ℕ → Bool
word W.Frame u = true
word (W.Number q) u = every digit u
word W.Stop u = true
word W.Raw u = true
word W.Other u = false

word_first : (w : Word) (u : List ℕ) → word w u ≡ true → word_of (spelled w ++ u) ≡ w
unfolding word_of number_word sense_word begins
word_first W.Frame u h = refl
word_first (W.Number Ticks) u h = refl
word_first (W.Number Run) u h = refl
word_first (W.Number Lend) u h = refl
word_first (W.Number New) u h = refl
word_first (W.Number Oem) u h = refl
word_first (W.Number Tip) u h = refl
word_first (W.Number Press) u h = rw (no_minus u h)
word_first (W.Number Minus) u h = refl
word_first W.Stop u h = refl
word_first W.Raw u h = refl
word_first W.Other u h = absurd (false≢true h)

frames_known : (desk : Desk) → knows desk W.Frame ≡ true
frames_known Bench = refl
frames_known Rig = refl

module _ (desk : Desk) (t : List ℕ) where
  read_by : (w : Word) (u : List ℕ) → word w u ≡ true → knows desk w ≡ true → Clean t → t ≡ spelled w ++ u → asked_of desk t ≡ behind w u
  unfolding form_of
  read_by w u h k c e = clean_asks desk t c ∙ rw e (rw (word_first w u h, k, drop_at (spelled w) u (length (spelled w)) refl))

  what_is_asked : (a : Asked) → asked_of desk t ≡ a → Formed desk t a
  what_is_asked a e = subst (Formed desk t) e (formed desk t)

  -- a line asks for a frame exactly where it is `> ` and text
  pub a_frame_is_asked_for : Exactly (asked_of desk t ≡ A.Send) (Sends t)
  unfolding behind
  a_frame_is_asked_for = record { only = what_is_asked A.Send; always = λ s. read_by W.Frame s.text refl (frames_known desk) s.clean s.form }

  -- for so many ticks, a run, buffers, an address, a tip or a pressure exactly where it is the word and a number in its range
  pub a_number_is_asked_for : (q : Quantity) (n : ℕ) → Exactly (asked_of desk t ≡ A.Number q n) (Gives desk t q n)
  unfolding behind ranged allowed
  a_number_is_asked_for q n = record {
    only = what_is_asked (A.Number q n);
    always = λ g.
        read_by (W.Number q) g.digits g.counts.digits_only g.known g.clean g.form
        ∙ rw (counts g.digits n g.counts, le-leb (least_of q) n g.least, le-leb n (most_of q) g.most);
  }

  -- for the stop exactly where it is `stop`
  pub the_stop_is_asked_for : Exactly (asked_of desk t ≡ A.Stop) (Stops desk t)
  unfolding behind
  the_stop_is_asked_for = record { only = what_is_asked A.Stop; always = λ s. read_by W.Stop [] refl s.known s.clean s.form }

  -- for raw bytes exactly where it is `x ` and bytes in hex
  raw_form : (bytes : List ℕ) → 0 < length bytes → every small bytes ≡ true → Read (hex_of bytes) bytes
  raw_form [] s b = absurd (omega arith)
  raw_form (x ∷ bytes) s b = written_is_read x bytes b

  pub raw_bytes_are_asked_for : Exactly (asked_of desk t ≡ A.Raw) (Raws desk t)
  unfolding behind
  raw_bytes_are_asked_for = record {
    only = what_is_asked A.Raw;
    always = λ r.
        read_by W.Raw (hex_of r.bytes) refl r.known r.clean r.form
        ∙ rw (raw_form r.bytes r.some r.bytes_only).pairs;
  }

  -- and the bytes that it writes are those that are sent
  pub the_bytes_written_are_sent : (r : Raws desk t) → bytes_in (drop 2 t) ≡ r.bytes
  the_bytes_written_are_sent r = rw r.form (raw_form r.bytes r.some r.bytes_only).read

  -- of other form it is wrong
  pub any_other_line_is_wrong : (Sends t → ⊥) → ((q : Quantity) (n : ℕ) → Gives desk t q n → ⊥) → (Stops desk t → ⊥) → (Raws desk t → ⊥) → asked_of desk t ≡ A.Wrong
  any_other_line_is_wrong frame number stop raw = go (asked_of desk t) refl
    where
      go : (a : Asked) → asked_of desk t ≡ a → a ≡ A.Wrong
      go A.Send e = absurd (frame (a_frame_is_asked_for.only e))
      go (A.Number q n) e = absurd (number q n ((a_number_is_asked_for q n).only e))
      go A.Stop e = absurd (stop (the_stop_is_asked_for.only e))
      go A.Raw e = absurd (raw (raw_bytes_are_asked_for.only e))
      go A.Wrong e = refl

-- "Bench lines mean what they mean at the bench."
pub bench_lines_mean_the_same_at_the_rig : (t : List ℕ) → (asked_of Bench t ≡ A.Wrong → ⊥) → asked_of Rig t ≡ asked_of Bench t
unfolding asked_of form_of
bench_lines_mean_the_same_at_the_rig t h = go (leb (length t) 400 && every printable t) h (knows Bench (word_of t)) refl
  where
    go : (x : Bool) → ((if x then form_of Bench t else A.Wrong) ≡ A.Wrong → ⊥) → (y : Bool) → knows Bench (word_of t) ≡ y → (if x then form_of Rig t else A.Wrong) ≡ (if x then form_of Bench t else A.Wrong)
    go true n true e = rw e
    go true n false e = absurd (n (rw e))
    go false n y e = refl
