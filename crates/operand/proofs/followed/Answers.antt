use mathlib.Core.Path.{◌≡◌, sym, ap, ◌∙◌}
use mathlib.Core.List.{List, ◌∷◌}
use Prim.Native.Nat.{ℕ, ◌+◌, ◌*◌, ◌≤◌}
use native.Mathlib.Nat.{add-zero}
use native.Mathlib.Omega.{arith}
use borrow.Author.Rules.{rules}
use lib.ListN.{length}
use Rattle.basics.specs.Bytes.{point}
use Rattle.basics.proofs.Rules.{tests}
use Rattle.basics.proofs.Lists.{empty}
use Rattle.operand.specs.declared.Number.{Number}
use Rattle.operand.specs.declared.Number.TheVariants.{Is, Wrong}
use Rattle.operand.specs.Begins.{longest, few, follows}
use Rattle.operand.specs.Number.{decimals_of, followed_of}
use Rattle.operand.proofs.Counting.{another_is_not_read, a_point_is_read}
use Rattle.operand.proofs.followed.Goals as goal

-- what follows n digits, with what is read up to the first wrong character
abbrev said : ℕ → ℕ → List ℕ → Number
said n whole t = followed_of (n + longest (follows n) (length t) t) whole t

module _ (n whole b : ℕ) (t : List ℕ) where
  other_said : (b ≡ point → ⊥) → said n whole (b ∷ t) ≡ Wrong n
  unfolding followed_of
  other_said h = simp (another_is_not_read n b t h, add-zero, tests)

  point_said : 1 ≤ n → b ≡ point → said n whole (b ∷ t) ≡ decimals_of (n + 1 + longest (few 3) (length t) t) (whole * 1000) t
  unfolding followed_of
  point_said l e = rw (a_point_is_read n b t e l (length t), e) (ap (λ k. decimals_of k (whole * 1000) t) (omega arith))

module _ (n whole : ℕ) (t : List ℕ) where
  ends : length t ≡ 0 → Is (whole * 1000) 0 ≡ said n whole t
  unfolding followed_of
  ends h = rw (empty t h)

  module _ (b : ℕ) (u : List ℕ) (h : t ≡ b ∷ u) where
    other : (b ≡ point → ⊥) → Wrong n ≡ said n whole t
    other p = rw (h, other_said n whole b u p)

    pointed : (r : Number) → 1 ≤ n → b ≡ point → r ≡ decimals_of (n + 1 + longest (few 3) (length u) u) (whole * 1000) u → r ≡ said n whole t
    pointed r l e f = rw h (f ∙ sym (point_said n whole b u l e))

ruleset laws = (rules, ends, other, pointed)

pub returns-in_default : goal.returns-in_default
returns-in_default c = search laws

pub returns-then-first-ne46 : goal.returns-then-first-ne46
returns-then-first-ne46 c = search laws

pub returns : goal.returns
returns c = search laws
