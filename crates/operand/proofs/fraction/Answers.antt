use mathlib.Core.Path.{◌≡◌, refl, sym, ◌∙◌}
use mathlib.Core.Bool.{Bool, true, false, ◌&&◌}
use mathlib.Core.List.{List}
use Prim.Native.Nat.{ℕ, ◌+◌, ◌^◌, ◌≤◌, ◌<◌}
use native.Mathlib.Omega.{arith}
use borrow.Author.Rules.{rules}
use borrow.Author.Tests.{leb-true}
use lib.Dec.{leb}
use lib.ListN.{length}
use Rattle.basics.specs.Bytes.{digit, every}
use Rattle.basics.proofs.Rules.{tests}
use Rattle.operand.specs.declared.Class.TheVariants.{Digit}
use Rattle.operand.specs.declared.Number.{Number}
use Rattle.operand.specs.declared.Number.TheVariants.{Is, Wrong}
use Rattle.operand.specs.Text.{run}
use Rattle.operand.specs.Begins.{longest, few}
use Rattle.operand.specs.Number.{digits, decimals_of}
use Rattle.operand.specs.Steps.{Spelt, Scaled}
use Rattle.operand.proofs.Runs.{counted_run, run_digits, run_whole, run_short, not_every}
use Rattle.operand.proofs.Counting.{decimals_many, decimals_few}
use mathlib.Core.Logic.{inl, inr}
use Rattle.operand.proofs.fraction.Goals as goal

-- the text behind the point, with what is read up to the first wrong character
abbrev said : ℕ → ℕ → List ℕ → Number
said from whole t = decimals_of (from + longest (few 3) (length t) t) whole t

-- n is how many digits the text begins with
module _ (n : ℕ) (t : List ℕ) (e : n ≡ length (run Digit t)) (w : n ≡ length t) where
  all : every digit t ≡ true
  all = rw (run_whole Digit t (sym e ∙ w)) at (run_digits t)

  short : (most : ℕ) → n ≤ most → leb most 6 ≡ true → length t ≤ 6
  short most h x = omega (arith, leb-true most 6 x)

  power : (v : ℕ) → Spelt t v → v < 10 ^ n
  power v s = rw w s.small

  fine : (from whole v r : ℕ) → (n ≡ 0 → ⊥) → n ≤ 3 → Spelt t v → Scaled v n r → Is (whole + r) n ≡ said from whole t
  unfolding decimals_of digits
  fine from whole v r z h s c = let l : 1 ≤ n = omega arith in simp (all, ← w, tests, c.value, s.value)

module _ (n : ℕ) (t : List ℕ) (e : n ≡ length (run Digit t)) (from whole : ℕ) where
  -- what is refused here is refused by any limits within these
  many : (most : ℕ) → most < n → leb 3 most ≡ true → Wrong (from + 3) ≡ said from whole t
  unfolding decimals_of digits
  many most h x =
      let l : 3 < n = omega (arith, leb-true 3 most x) in
      let long : 3 < length t = omega (arith, run_short Digit t) in
      rw (← decimals_many n t e l) (simp (beyond (every digit t) (length t) long))
    where
      beyond : (x : Bool) (k : ℕ) → 3 < k → (x && (leb 1 k && leb k 3)) ≡ false
      beyond true k h = let g : 1 ≤ k = omega arith in simp tests
      beyond false k h = refl

  module _ (most : ℕ) (h : n ≤ most) (x : leb most 3 ≡ true) where
    at_most : n ≤ 3
    at_most = omega (arith, leb-true most 3 x)

    other : (n ≡ length t → ⊥) → Wrong (from + n) ≡ said from whole t
    unfolding decimals_of digits
    other w = rw (← decimals_few n t e at_most, not_every Digit t (λ q. w (e ∙ q)))

    none : (least : ℕ) → n ≡ length t → n < least → leb least 1 ≡ true → Wrong (from + n) ≡ said from whole t
    unfolding decimals_of digits
    none least w l y =
        let z : n < 1 = omega (arith, leb-true least 1 y) in
        rw (← decimals_few n t e at_most) (simp (all n t e w, ← w, tests))

ruleset laws = (rules, counted_run, all, short, power, fine, many, other, none)

pub returns-then-n-gt3 : goal.returns-then-n-gt3
returns-then-n-gt3 c = search laws

pub returns-then-n-t : goal.returns-then-n-t
returns-then-n-t c =
    let t = c.args.t.now in
    let e = counted_run Digit t _ c.run_length-n.ensures in
    let h = c.if-n-gt3.false in
    elim c.then-n-t.either [ inl w ↦ other _ t e _ _ _ h refl w | inr w ↦ none _ t e _ _ _ h refl 1 w.0 (omega (arith, w.1)) refl ]

pub value-requires : goal.value-requires
value-requires c = search laws

pub returns : goal.returns
returns c = search laws
