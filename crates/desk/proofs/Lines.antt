-- Laws of `specs/Desk`: lines, what is printed of an answer, and where a line ends.
use mathlib.Core.Path.{◌≡◌, refl, sym, ap, ◌∙◌}
use mathlib.Core.Bool.{Bool, true, false, ◌&&◌, cond, not}
use mathlib.Core.List.{List, [], ◌∷◌}
use Prim.Native.Nat.{ℕ, ◌+◌, ◌-◌, ◌≤◌, ◌<◌}
use native.Mathlib.Omega.{arith}
use borrow.Author.Tests.{lt-leb, le-leb, ltb-true, ltb-false}
use lib.Dec.{eqb, ltb}
use lib.ListN.{length, take, drop, length-drop}
use Rattle.std.specs.Prelude.{if◌then◌else◌, max, Some, None}
use Rattle.std.specs.List.{list_all, starts_with, position_or_len, position}
use Rattle.basics.specs.Bytes.{every}
use Rattle.basics.proofs.Choice.{by}
use Rattle.basics.proofs.Rules.{tests}
use Rattle.line.specs.declared.Framing.{Framing}
use Rattle.line.specs.declared.Framing.TheVariants.{Dt, Oem}
use Rattle.desk.specs.declared.Desk.{Desk}
use Rattle.desk.specs.declared.Asked.TheVariants.{Wrong}
use Rattle.desk.specs.Desk.{begins, asked_of, tail_size, printed_of, line_of, LineEnd}

-- every byte is of a kind
pub every_listed : (p : ℕ → Bool) (t : List ℕ) → list_all p t ≡ every p t
unfolding every
every_listed p [] = refl
every_listed p (b ∷ t) = ap (λ (x : Bool). p b && x) (every_listed p t)

-- a line begins with a word
pub begins_listed : (word t : List ℕ) → starts_with eqb t word ≡ begins word t
unfolding begins
begins_listed [] t = refl
begins_listed (a ∷ word) [] = refl
begins_listed (a ∷ word) (b ∷ t) = ap (λ (x : Bool). eqb a b && x) (begins_listed word t)

-- a line that is too long
module _ (desk : Desk) (t : List ℕ) where
  pub long : 400 < length t → Wrong ≡ asked_of desk t
  unfolding asked_of
  long h = simp tests

-- what is printed of an answer
pub tail_least : (f : Framing) → 2 ≤ tail_size f
unfolding tail_size
tail_least Dt = omega arith
tail_least Oem = omega arith

pub tail_most : (f : Framing) → tail_size f ≤ 3
unfolding tail_size
tail_most Dt = omega arith
tail_most Oem = omega arith

module _ (f : Framing) (n : ℕ) (answer : List ℕ) where
  pub cut_off : length answer < n → [] ≡ printed_of f n answer
  unfolding printed_of
  cut_off h = rw (lt-leb n (length answer) h)

  pub too_short : (tail : ℕ) → tail ≡ tail_size f → n ≤ length answer → n < 2 + tail → [] ≡ printed_of f n answer
  unfolding printed_of
  too_short tail e h k = let z : n - (2 + tail) ≡ 0 = omega arith in rw (le-leb n (length answer) h, ← e, z)

  pub status_and_data : (tail : ℕ) → tail ≡ tail_size f → n ≤ length answer → 2 + tail ≤ n → take (n - tail - 2) (drop 2 answer) ≡ printed_of f n answer
  unfolding printed_of
  status_and_data tail e h k = let z : n - tail - 2 ≡ n - (2 + tail) = omega arith in rw (le-leb n (length answer) h, ← e, z)

-- a line ends at its first LF, or with the text
ends_first : (t : List ℕ) → position_or_len (λ b. eqb b 10) t ≡ length (line_of t)
unfolding line_of
ends_first [] = refl
ends_first (b ∷ t) = go (eqb b 10) (ends_first t)
  where
    go : (x : Bool) {n : ℕ} → n ≡ length (line_of t) → cond (not x) (1 + n) 0 ≡ length (if x then [] else b ∷ line_of t)
    go true e = refl
    go false e = omega arith

line_within : (t : List ℕ) → length (line_of t) ≤ length t
unfolding line_of
line_within [] = omega arith
line_within (b ∷ t) = by (λ (u : List ℕ). length u ≤ length (b ∷ t)) (eqb b 10) (λ e. omega arith) (λ e. omega (arith, line_within t))

at_place : (t : List ℕ) (n : ℕ) → position (λ b. eqb b 10) t ≡ Some n → (n ≡ length (line_of t)) × (n < length t)
at_place t n = go (ltb (position_or_len (λ b. eqb b 10) t) (length t)) refl
  where
    go : (x : Bool) → ltb (position_or_len (λ b. eqb b 10) t) (length t) ≡ x →
        cond x (Some (position_or_len (λ b. eqb b 10) t)) None ≡ Some n → (n ≡ length (line_of t)) × (n < length t)
    go true e h =
        let same : position_or_len (λ b. eqb b 10) t ≡ n = cc in
        (sym same ∙ ends_first t, rw same at (ltb-true _ _ e))
    go false e h = cc

no_place : (t : List ℕ) → position (λ b. eqb b 10) t ≡ None → length (line_of t) ≡ length t
no_place t = go (ltb (position_or_len (λ b. eqb b 10) t) (length t)) refl
  where
    go : (x : Bool) → ltb (position_or_len (λ b. eqb b 10) t) (length t) ≡ x →
        cond x (Some (position_or_len (λ b. eqb b 10) t)) None ≡ None → length (line_of t) ≡ length t
    go true e h = cc
    go false e h = omega (arith, ltb-false _ _ e, ends_first t, line_within t)

module _ (t : List ℕ) (from : ℕ) where
  pub line_found : (n : ℕ) → position (λ b. eqb b 10) (drop from t) ≡ Some n → LineEnd t from (from + n)
  line_found n p =
      let h = at_place (drop from t) n p in
      record { place = rw h.0; behind = omega arith; inside = omega (arith, h.1, length-drop from t) }

  pub text_over : (r : ℕ) → r ≡ max from (length t) → position (λ b. eqb b 10) (drop from t) ≡ None → LineEnd t from r
  text_over r e p =
      let h = no_place (drop from t) p in
      record { place = omega (arith, h, length-drop from t); behind = omega arith; inside = omega arith }
