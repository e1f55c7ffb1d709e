-- Laws of `specs/Print`: texts laid into the output, one behind another.
use mathlib.Core.Path.{◌≡◌, refl, sym, ap, ◌∙◌}
use mathlib.Core.Bool.{Bool, true, false}
use mathlib.Core.List.{List, [], ◌∷◌, ◌++◌, append-nil, append_assoc}
use Prim.Native.Nat.{ℕ, ◌+◌, ◌-◌, ◌*◌, ◌/◌, ◌%◌, ◌≤◌, ◌<◌}
use native.Mathlib.Omega.{arith}
use mir.Syntax.{w64}
use mir.Val.{Fits}
use borrow.Author.Tests.{le-leb, lt-leb, ne_eqb}
use lib.Dec.{leb, eqb}
use lib.ListN.{length, take, drop, get_or, length-append, length-take, length-drop, drop_of_length-le}
use Rattle.std.specs.Prelude.{Err, None, Ok, Option, Result, Some}
use Rattle.std.specs.Option.{unwrap_or}
use Rattle.pipettor.specs.Said.{Said, s1}
use Rattle.machine.specs.declared.S3.{S3}
use Rattle.machine.specs.Used.{s3}
use Rattle.basics.specs.Bytes.{chars}
use Rattle.basics.specs.Lay.{Laid}
use Rattle.basics.proofs.Choice.{by}
use Rattle.basics.proofs.Lists.{drop_step}
use Rattle.basics.proofs.Over.{over_none, length_over}
use Rattle.basics.proofs.Laying.{laid, over_over}
use Rattle.decimal.specs.Digits.{digits_of, long_of, fixed_of}
use Rattle.line.specs.Answer.{lf}
use Rattle.line.specs.declared.Framing.{Framing}
use Rattle.desk.specs.Desk.{tail_size, printed_of}
use Rattle.desk.specs.Hex.{digit_for, spaced, hex_of}
use Rattle.printing.specs.Print.{ended, shown_of, last_of, place_of, used_of, pair_of, bar_of, added_of, Prints}

-- a text that fits is laid
module _ (most : ℕ) (text : List ℕ) (few : length text ≤ most) (at : ℕ) (out after : List ℕ) (r : Option ℕ) (room : at + most ≤ length out) (l : Laid text at out r after) where
  there : (k : ℕ) → k ≡ at + length text → Prints most text at out k after
  there k e =
      let put = (laid l (omega arith)).bytes in
      record { ends = e; short = few; left = put; long = rw put (length_over text at out (omega arith)) }

  size : (n : ℕ) → n ≡ unwrap_or r 0 → n ≡ length text
  size n q = rw (laid l (omega arith)).count at q

  pub counted_fits : (n : ℕ) → n ≡ unwrap_or r 0 → Fits w64 (length out) → Fits w64 (at + n)
  counted_fits n q f = omega (arith, size n q)

  pub counted_prints : (n : ℕ) → n ≡ unwrap_or r 0 → Prints most text at out (at + n) after
  counted_prints n q = there (at + n) (ap (λ (x : ℕ). at + x) (size n q))

-- one text behind another
pub both :
    (m n k : ℕ) (xs ys : List ℕ) (at e f : ℕ) (out one two : List ℕ) → m + n ≤ k → at ≤ length out →
    Prints m xs at out e one → Prints n ys e one f two → Prints k (xs ++ ys) at out f two
both m n k xs ys at e f out one two h room p q =
    let sum = length-append xs ys in
    let a = p.ends in
    let b = q.ends in
    let c = p.short in
    let d = q.short in
    record {
      ends = omega arith;
      short = omega arith;
      left = q.left ∙ rw (p.ends, p.left) (over_over xs ys at out room);
      long = q.long ∙ p.long;
    }

-- at most so many bytes, or more
pub shorter : (m k : ℕ) (text : List ℕ) (at e : ℕ) (out after : List ℕ) → m ≤ k → Prints m text at out e after → Prints k text at out e after
shorter m k text at e out after h p = let c = p.short in record { ends = p.ends; short = omega arith; left = p.left; long = p.long }

-- nothing
pub nothing : (k at : ℕ) (out : List ℕ) → Prints k [] at out at out
nothing k at out = record { ends = omega arith; short = omega arith; left = sym (over_none at out); long = refl }

pub put_down : (text : List ℕ) (at : ℕ) (out after : List ℕ) (r : Option ℕ) → at + length text ≤ length out → Laid text at out r after → Prints (length text) text at out (at + length text) after
put_down text at out after r h l = there (length text) text (omega arith) at out after r h l (at + length text) refl

pub lined : (text : List ℕ) (at e f : ℕ) (out one two : List ℕ) → at + length text + 1 ≤ length out → Prints (length text) text at out e one → Prints 1 (10 ∷ []) e one f two → Prints (length text + 1) (ended text) at out f two
lined text at e f out one two h p q = both (length text) 1 (length text + 1) text (lf ∷ []) at e f out one two (omega arith) (omega arith) p q

-- a number of 32 bits
pub digits_laid : (n at : ℕ) (out after : List ℕ) (r : Option ℕ) → Laid (fixed_of 0 n) at out r after → Laid (digits_of n) at out r after
unfolding fixed_of
digits_laid n at out after r l = l

-- the plunger, a space, the exact position
module _ (p x at a b c d : ℕ) (asked : Bool) (out one two three four : List ℕ) (room : at + 38 ≤ length out) (w : Prints 10 (digits_of p) at out a one) (s : Prints 1 (32 ∷ []) a one b two) where
  head : Prints 11 (digits_of p ++ chars " ") at out b two
  head = both 10 1 11 (digits_of p) (chars " ") at a b out one two (omega arith) (omega arith) w s

  pub placed : Prints 20 (long_of x) b two c three → Prints 7 (last_of asked) c three d four → Prints 38 (place_of p x asked) at out d four
  unfolding place_of
  placed l e =
      let body = both 11 20 31 (digits_of p ++ chars " ") (long_of x) at b c out two three (omega arith) (omega arith) head l in
      both 31 7 38 ((digits_of p ++ chars " ") ++ long_of x) (last_of asked) at c d out three four (omega arith) (omega arith) body e

-- what a run used
module _ (u : Result ℕ S3) (p x at : ℕ) (asked : Bool) (out : List ℕ) (room : at + 49 ≤ length out) where
  pub too_long_a_run : (r : ℕ) (after : List ℕ) → u ≡ Err s3 → Prints 3 (ended (83 ∷ 51 ∷ [])) at out r after → Prints 49 (used_of u p x asked) at out r after
  unfolding used_of
  too_long_a_run r after e q = rw e (shorter 3 49 (ended (chars "S3")) at r out after (omega arith) q)

  pub ran : (n a b c : ℕ) (one two three : List ℕ) → u ≡ Ok n → Prints 10 (digits_of n) at out a one → Prints 1 (32 ∷ []) a one b two → Prints 38 (place_of p x asked) b two c three → Prints 49 (used_of u p x asked) at out c three
  unfolding used_of
  ran n a b c one two three e w s l =
      let front = both 10 1 11 (digits_of n) (chars " ") at a b out one two (omega arith) (omega arith) w s in
      rw e (both 11 38 49 (digits_of n ++ chars " ") (place_of p x asked) at b c out two three (omega arith) (omega arith) front l)

-- status and data
printed_short : (f : Framing) (n : ℕ) (answer : List ℕ) → length (printed_of f n answer) ≤ length answer
unfolding printed_of
printed_short f n answer =
    let rest = length-drop 2 answer in
    let part = length-take (n - (2 + tail_size f)) (drop 2 answer) in
    by (λ (t : List ℕ). length t ≤ length answer) (leb n (length answer)) (λ e. omega (arith, part, rest)) (λ e. omega arith)

module _ (f : Framing) (said : Said) (answer : List ℕ) (v : length answer ≤ 64) (at : ℕ) (out : List ℕ) (room : at + 65 ≤ length out) where
  pub shows_silence : (r : ℕ) (after : List ℕ) → said ≡ Ok None → Prints 2 (ended (45 ∷ [])) at out r after → Prints 65 (shown_of f said answer) at out r after
  unfolding shown_of
  shows_silence r after e q = rw e (shorter 2 65 (ended (chars "-")) at r out after (omega arith) q)

  pub shows_s1 : (r : ℕ) (after : List ℕ) → said ≡ Err s1 → Prints 3 (ended (83 ∷ 49 ∷ [])) at out r after → Prints 65 (shown_of f said answer) at out r after
  unfolding shown_of
  shows_s1 r after e q = rw e (shorter 3 65 (ended (chars "S1")) at r out after (omega arith) q)

  module _ (n : ℕ) (shown : List ℕ) (p : shown ≡ printed_of f n answer) where
    pub shown_fits : at + length shown + 1 ≤ length out
    shown_fits = let s : length shown ≤ length answer = rw p (printed_short f n answer) in omega arith

    pub shows : (r : ℕ) (after : List ℕ) → said ≡ Ok (Some n) → Prints (length shown + 1) (ended shown) at out r after → Prints 65 (shown_of f said answer) at out r after
    unfolding shown_of
    shows r after e q =
        let s : length shown ≤ length answer = rw p (printed_short f n answer) in
        rw (e, ← p) (shorter (length shown + 1) 65 (ended shown) at r out after (omega arith) q)

-- bytes in hex
module _ (b high low : ℕ) (h : high ≡ digit_for (b / 16)) (l : low ≡ digit_for (b % 16)) (first : Bool) (at : ℕ) (out : List ℕ) (room : at + 3 ≤ length out) where
  pub first_pair : (r : ℕ) (after : List ℕ) → first ≡ true → Prints 2 (high ∷ low ∷ []) at out r after → Prints 3 (pair_of first b) at out r after
  first_pair r after e q = rw (e, ← h, ← l) (shorter 2 3 (high ∷ low ∷ []) at r out after (omega arith) q)

  pub next_pair : (a r : ℕ) (one after : List ℕ) → first ≡ false → Prints 1 (32 ∷ []) at out a one → Prints 2 (high ∷ low ∷ []) a one r after → Prints 3 (pair_of first b) at out r after
  next_pair a r one after e s q = rw (e, ← h, ← l) (both 1 2 3 (32 ∷ []) (high ∷ low ∷ []) at a r out one after (omega arith) (omega arith) s q)

-- what is left of them, from the first on or behind it
abbrev tail_of : Bool → List ℕ → List ℕ
tail_of true bytes = hex_of bytes
tail_of false bytes = spaced bytes

pub record Pairing (bytes : List ℕ) (at : ℕ) (before : List ℕ) (i end : ℕ) (now : List ℕ) : Type 0 where
  pub within : i ≤ length bytes
  pub text : List ℕ
  pub prints : Prints (3 * i) text at before end now
  pub whole : text ++ tail_of (eqb i 0) (drop i bytes) ≡ hex_of bytes

module _ (bytes : List ℕ) (at : ℕ) (before : List ℕ) where
  pub pairs_begin : Pairing bytes at before 0 at before
  pairs_begin = record { within = omega arith; text = []; prints = nothing 0 at before; whole = refl }

  module _ (room : at + 3 * length bytes ≤ length before) (i end : ℕ) (now : List ℕ) (r : Pairing bytes at before i end now) where
    tail_nil : (x : Bool) → tail_of x [] ≡ []
    unfolding hex_of spaced
    tail_nil true = refl
    tail_nil false = refl

    pub pairs_end : length bytes ≤ i → Prints (3 * length bytes) (hex_of bytes) at before end now
    pairs_end h =
        let n : i ≡ length bytes = let w = r.within in omega arith in
        let e : r.text ≡ hex_of bytes = sym (append-nil r.text) ∙ rw (drop_of_length-le bytes h, tail_nil (eqb i 0)) at r.whole in
        rw (n, e) at r.prints

    module _ (h : i < length bytes) where
      pub pair_room : end + 3 ≤ length now
      pair_room = let p = r.prints in let a = p.ends in let b = p.short in let c = p.long in omega arith

      step : (x : Bool) → tail_of x (drop i bytes) ≡ pair_of x (get_or bytes i 0) ++ spaced (drop (i + 1) bytes)
      unfolding hex_of spaced
      step true = rw (drop_step bytes i h)
      step false = rw (drop_step bytes i h)

      later : eqb (i + 1) 0 ≡ false
      later = ne_eqb (i + 1) 0 (λ e. omega arith)

      pub pairs_go_on : (first : Bool) (e : ℕ) (after : List ℕ) → first ≡ eqb i 0 → Prints 3 (pair_of first (get_or bytes i 0)) end now e after → Pairing bytes at before (i + 1) e after
      pairs_go_on first e after q p = record {
        within = omega arith;
        text = r.text ++ pair_of first (get_or bytes i 0);
        prints = both (3 * i) 3 (3 * (i + 1)) r.text (pair_of first (get_or bytes i 0)) at end e before now after (omega arith) (omega arith) r.prints p;
        whole = rw (later, append_assoc r.text (pair_of first (get_or bytes i 0)) (spaced (drop (i + 1) bytes)), q, ← step (eqb i 0)) r.whole;
      }

-- what raw bytes print
pub no_bar : (first : Bool) (at : ℕ) (out : List ℕ) → first ≡ true → Prints 3 (bar_of first) at out at out
no_bar first at out e = rw e (nothing 3 at out)

pub barred_hex :
    (first : Bool) (answer : List ℕ) (at a r : ℕ) (out one after : List ℕ) → length answer ≤ 64 → at + 195 ≤ length out → Prints 3 (bar_of first) at out a one → Prints (3 * length answer) (hex_of answer) a one r after →
    Prints 195 (bar_of first ++ hex_of answer) at out r after
barred_hex first answer at a r out one after v room p q = both 3 (3 * length answer) 195 (bar_of first) (hex_of answer) at a r out one after (omega arith) (omega arith) p q

module _ (first : Bool) (said : Said) (answer : List ℕ) (at : ℕ) (out : List ℕ) where
  pub says_nothing : said ≡ Ok None → Prints 195 (added_of first said answer) at out at out
  unfolding added_of
  says_nothing e = rw e (nothing 195 at out)

  module _ (n : ℕ) (e : said ≡ Ok (Some n)) where
    pub says_too_much : length answer < n → Prints 195 (added_of first said answer) at out at out
    unfolding added_of
    says_too_much h = rw (e, lt-leb n (length answer) h) (nothing 195 at out)

    pub says_bytes : (r : ℕ) (after : List ℕ) → n ≤ length answer → Prints 195 (bar_of first ++ hex_of (take n answer)) at out r after → Prints 195 (added_of first said answer) at out r after
    unfolding added_of
    says_bytes r after h p = rw (e, le-leb n (length answer) h) p

  pub says_s1 : (a r : ℕ) (one after : List ℕ) → at + 195 ≤ length out → said ≡ Err s1 → Prints 3 (bar_of first) at out a one → Prints 2 (83 ∷ 49 ∷ []) a one r after → Prints 195 (added_of first said answer) at out r after
  unfolding added_of
  says_s1 a r one after room e p q = rw e (both 3 2 195 (bar_of first) (chars "S1") at a r out one after (omega arith) (omega arith) p q)
