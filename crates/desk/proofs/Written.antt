-- Bytes in hex are read back as they are written, and what is read is written so.
use mathlib.Core.Path.{◌≡◌, refl, sym, ap, ◌∙◌}
use mathlib.Core.Bool.{Bool, true, false, ◌&&◌, false≢true}
use mathlib.Core.List.{List, [], ◌∷◌}
use Prim.Native.Nat.{ℕ, ◌+◌, ◌-◌, ◌*◌, ◌/◌, ◌%◌, ◌≤◌, ◌<◌}
use native.Mathlib.Omega.{arith}
use borrow.Author.Tests.{ltb-true, ltb-false, lt-ltb, le-leb, lt-leb, eqb-true}
use lib.Dec.{ltb, eqb}
use lib.ListN.{length}
use Rattle.basics.specs.Bytes.{digit, every}
use Rattle.basics.proofs.Digits.{and_both, digit_range}
use Rattle.desk.specs.Hex.{hex_digit, worth, digit_for, paired, byte_of, bytes_in, spaced, hex_of}
use Rattle.desk.specs.Forms.{small}
use Rattle.desk.proofs.Pairs.{decimal_digit, decimal_worth, letter_range, letter_worth, small_digit, large_digit}

-- a hex digit is the digit of its value, which is below 16
pub record Valued (b : ℕ) : Type 0 where
  pub back : digit_for (worth b) ≡ b
  pub below : worth b < 16

pub valued : (b : ℕ) → hex_digit b ≡ true → Valued b
valued b h = go (digit b) refl
  where
    go : (x : Bool) → digit b ≡ x → Valued b
    go true d =
        let r = digit_range b d in
        let w = decimal_worth b true (sym d) refl in
        record { back = rw (← w.is) (sym (small_digit (b - 48) (omega arith)) ∙ omega arith); below = omega arith }
    go false d =
        let r = letter_range b false (sym d) refl true (sym h) refl in
        let w = letter_worth b false (sym d) refl true (sym h) refl in
        record { back = rw (← w.is) (sym (large_digit (b - 55) (omega arith)) ∙ omega arith); below = omega arith }

-- and the digit of a value below 16 is a hex digit of that value
pub record Digit (n : ℕ) : Type 0 where
  pub hex : hex_digit (digit_for n) ≡ true
  pub back : worth (digit_for n) ≡ n

decimal : (n : ℕ) → n < 10 → digit (n + 48) ≡ true
unfolding digit
decimal n h = rw (le-leb 48 (n + 48) (omega arith), le-leb (n + 48) 57 (omega arith))

no_decimal : (n : ℕ) → 10 ≤ n → digit (n + 55) ≡ false
unfolding digit
no_decimal n h = rw (le-leb 48 (n + 55) (omega arith), lt-leb (n + 55) 57 (omega arith))

letter : (n : ℕ) → 10 ≤ n → n < 16 → hex_digit (n + 55) ≡ true
unfolding hex_digit
letter n h l = rw (no_decimal n h, le-leb 65 (n + 55) (omega arith), le-leb (n + 55) 70 (omega arith))

pub digit_of : (n : ℕ) → n < 16 → Digit n
digit_of n h = go (ltb n 10) refl
  where
    go : (x : Bool) → ltb n 10 ≡ x → Digit n
    go true e =
        let l = ltb-true n 10 e in
        let d = decimal n l in
        record {
          hex = rw (← small_digit n l) (sym (decimal_digit (n + 48) true (sym d) refl));
          back = rw (← small_digit n l) (sym (decimal_worth (n + 48) true (sym d) refl).is ∙ omega arith);
        }
    go false e =
        let l = ltb-false n 10 e in
        let d = no_decimal n l in
        let x = letter n l h in
        record {
          hex = rw (← large_digit n l) x;
          back = rw (← large_digit n l) (sym (letter_worth (n + 55) false (sym d) refl true (sym x) refl).is ∙ omega arith);
        }

-- bytes that are written are read back
pub record Read (t bytes : List ℕ) : Type 0 where
  pub pairs : paired t ≡ true
  pub read : bytes_in t ≡ bytes

byte_back : (b : ℕ) → b < 256 → byte_of (digit_for (b / 16)) (digit_for (b % 16)) ≡ b
unfolding byte_of
byte_back b h = rw ((digit_of (b / 16) (omega arith)).back, (digit_of (b % 16) (omega arith)).back) (omega arith)

two_digits : (b : ℕ) → b < 256 → (hex_digit (digit_for (b / 16)) && hex_digit (digit_for (b % 16))) ≡ true
two_digits b h = rw ((digit_of (b / 16) (omega arith)).hex, (digit_of (b % 16) (omega arith)).hex)

pub written_is_read : (b : ℕ) (bs : List ℕ) → every small (b ∷ bs) ≡ true → Read (hex_of (b ∷ bs)) (b ∷ bs)
unfolding every paired bytes_in hex_of spaced
written_is_read b [] e =
    let l = ltb-true b 256 (and_both (small b) true e).0 in
    record { pairs = two_digits b l; read = rw (byte_back b l) }
written_is_read b (c ∷ bs) e =
    let both = and_both (small b) (every small (c ∷ bs)) e in
    let l = ltb-true b 256 both.0 in
    let more = written_is_read c bs both.1 in
    record { pairs = rw (two_digits b l) more.pairs; read = rw (byte_back b l) (ap (◌∷◌ b) more.read) }

-- and what is read is written so
pub record Wrote (t : List ℕ) : Type 0 where
  pub same : t ≡ hex_of (bytes_in t)
  pub some : 0 < length (bytes_in t)
  pub bytes_only : every small (bytes_in t) ≡ true

byte_small : (a b : ℕ) → Valued a → Valued b → byte_of a b < 256
unfolding byte_of
byte_small a b v w = omega arith

high_back : (a b : ℕ) → Valued a → Valued b → digit_for (byte_of a b / 16) ≡ a
unfolding byte_of
high_back a b v w = let e : (16 * worth a + worth b) / 16 ≡ worth a = omega arith in rw e v.back

low_back : (a b : ℕ) → Valued a → Valued b → digit_for (byte_of a b % 16) ≡ b
unfolding byte_of
low_back a b v w = let e : (16 * worth a + worth b) % 16 ≡ worth b = omega arith in rw e w.back

-- behind the first byte, the others each with a space
spaced_hex : (bs : List ℕ) → 0 < length bs → spaced bs ≡ 32 ∷ hex_of bs
unfolding spaced hex_of
spaced_hex [] h = absurd (omega arith)
spaced_hex (b ∷ bs) h = refl

pub read_is_written : (t : List ℕ) → paired t ≡ true → Wrote t
unfolding paired bytes_in hex_of spaced every
read_is_written [] e = absurd (false≢true e)
read_is_written (a ∷ []) e = absurd (false≢true e)
read_is_written (a ∷ b ∷ []) e =
    let both = and_both (hex_digit a) (hex_digit b) e in
    let v = valued a both.0 in
    let w = valued b both.1 in
    record {
      same = rw (high_back a b v w, low_back a b v w);
      some = omega arith;
      bytes_only = rw (lt-ltb (byte_of a b) 256 (byte_small a b v w));
    }
read_is_written (a ∷ b ∷ s ∷ t) e =
    let outer = and_both (hex_digit a && hex_digit b) (eqb s 32 && paired t) e in
    let both = and_both (hex_digit a) (hex_digit b) outer.0 in
    let inner = and_both (eqb s 32) (paired t) outer.1 in
    let v = valued a both.0 in
    let w = valued b both.1 in
    let more = read_is_written t inner.1 in
    record {
      same = rw (high_back a b v w, low_back a b v w, spaced_hex (bytes_in t) more.some, eqb-true s 32 inner.0) (ap (λ (u : List ℕ). a ∷ b ∷ 32 ∷ u) more.same);
      some = omega arith;
      bytes_only = rw (lt-ltb (byte_of a b) 256 (byte_small a b v w)) more.bytes_only;
    }
