use mathlib.Core.Path.{◌≡◌}
use mathlib.Core.Bool.{true}
use mathlib.Core.List.{List}
use Prim.Native.Nat.{ℕ, ◌+◌, ◌-◌, ◌≤◌, ◌<◌}
use native.Mathlib.Nat.{pow-le-pow_right}
use native.Mathlib.Omega.{arith}
use borrow.Author.Rules.{rules}
use borrow.Author.Tests.{leb-true}
use lib.Dec.{leb, lit<}
use lib.ListN.{length, take, drop}
use Rattle.basics.specs.Bytes.{digit, every}
use Rattle.basics.proofs.Lists.{empty}
use Rattle.basics.proofs.Rules.{tests}
use Rattle.operand.specs.declared.Class.TheVariants.{Digit}
use Rattle.operand.specs.declared.Number.{Number}
use Rattle.operand.specs.declared.Number.TheVariants.{Absent, Wrong}
use Rattle.operand.specs.Text.{run}
use Rattle.operand.specs.Begins.{longest, follows}
use Rattle.operand.specs.Number.{digits, followed_of, number_of}
use Rattle.operand.specs.Steps.{Spelt}
use Rattle.operand.proofs.Runs.{counted_run, run_digits, front, behind, short, counted}
use Rattle.operand.proofs.Spelling.{number_some}
use Rattle.operand.proofs.Counting.{no_digit_is_read, six_digits_are_read, digits_and_more_are_read}
use Rattle.operand.proofs.one.Statement.{statement}
use Rattle.operand.proofs.one.Tie as tie

absent : (t : List ℕ) → length t ≡ 0 → Absent ≡ number_of t
unfolding number_of
absent t h = rw (empty t h)

-- n is how many digits the text begins with
module _ (n : ℕ) (t : List ℕ) (e : n ≡ length (run Digit t)) where
  all : every digit (take n t) ≡ true
  all = rw (front Digit n t e) (run_digits t)

  few : n ≤ 6 → length (take n t) ≤ 6
  few h = rw (front Digit n t e, ← e) h

  module _ (f : length t ≡ 0 → ⊥) where
    none : n ≡ 0 → Wrong 0 ≡ number_of t
    unfolding digits
    none h =
        let l : n < 1 = omega arith in
        rw (number_some t f, ← no_digit_is_read n t e h) (simp (run_digits t, ← e, tests))

    -- any limit of 6 or more refuses these
    many : (most : ℕ) → most < n → leb 6 most ≡ true → Wrong 6 ≡ number_of t
    unfolding digits
    many most h x =
        let m : 6 < n = omega (arith, leb-true 6 most x) in
        let l : 1 ≤ n = omega arith in
        rw (number_some t f, ← six_digits_are_read n t e m) (simp (run_digits t, ← e, tests))

    fine :
        (v : ℕ) (r : Number) → (n ≡ 0 → ⊥) → n ≤ 6 → Spelt (take n t) v →
        r ≡ followed_of (n + longest (follows n) (length (take (length t - n) (drop n t))) (take (length t - n) (drop n t))) v (take (length t - n) (drop n t)) →
        r ≡ number_of t
    unfolding digits
    fine v r z h s q =
        let l : 1 ≤ n = omega arith in
        rw (number_some t f)
        (simp (run_digits t, ← e, tests) (rw (behind Digit n t e, s.value, front Digit n t e, digits_and_more_are_read n t e h) at q))

  million : (v : ℕ) → n ≤ 6 → Spelt (take n t) v → v < 1000000
  million v h s = omega (arith, s.small, pow-le-pow_right {n = 10} (lit< tt) {j = 6} (few h))

ruleset laws = (rules, counted_run, short, counted, absent, all, few, none, many, fine, million)

pub one_spec : {M : Type 1} → statement M
one_spec =
    tie.close
    (tie.spec
    (λ c. search laws)
    (λ c κs. search laws)
    (λ c. search laws)
    (λ c. search laws)
    (λ c. search laws)
    (λ c κs. search laws)
    (λ c. search laws)
    (λ c. search laws)
    (λ c. search laws)
    (λ c κs. search laws)
    (λ c. search laws))
