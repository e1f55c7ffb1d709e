use mathlib.Core.Path.{◌≡◌, refl, ap}
use mathlib.Core.Bool.{true, false}
use mathlib.Core.List.{List, [], ◌∷◌, ◌++◌}
use Prim.Native.Nat.{ℕ}
use borrow.Author.Rules.{rules}
use borrow.Author.Tests.{ne_eqb}
use lib.ListN.{length}
use Rattle.basics.proofs.Lists.{empty}
use Rattle.text.specs.declared.Data.{Data}
use Rattle.text.specs.Text.{check_of}
use Rattle.text.specs.Data.{body, runs, string, string_of}
use Rattle.text.proofs.read_string.Goals as goal

-- a final R, or another last byte
with_r : (t : List ℕ) → (body (t ++ 82 ∷ []) ≡ t) × (runs (t ++ 82 ∷ []) ≡ true)
unfolding body runs
with_r [] = (refl, refl)
with_r (b ∷ []) = (refl, refl)
with_r (b ∷ c ∷ t) = let k = with_r (c ∷ t) in (ap (◌∷◌ b) k.0, k.1)

without_r : (t : List ℕ) (b : ℕ) → (b ≡ 82 → ⊥) → (body (t ++ b ∷ []) ≡ t ++ b ∷ []) × (runs (t ++ b ∷ []) ≡ false)
unfolding body runs
without_r [] b e = (simp (ne_eqb b 82 e), simp (ne_eqb b 82 e))
without_r (c ∷ []) b e = (simp (ne_eqb b 82 e), simp (ne_eqb b 82 e))
without_r (c ∷ d ∷ t) b e = let k = without_r (d ∷ t) b e in (ap (◌∷◌ c) k.0, k.1)

module _ (s : List ℕ) (r : Data) where
  none : length s ≡ 0 → r ≡ string s false (check_of s) → r ≡ string_of s
  unfolding string_of body runs
  none h e = rw (empty s h) (rw (empty s h) at e)

  module _ (t : List ℕ) (b : ℕ) (l : s ≡ t ++ b ∷ []) where
    final : b ≡ 82 → r ≡ string t true (check_of t) → r ≡ string_of s
    unfolding string_of
    final q e = rw (l, q, (with_r t).0, (with_r t).1) e

    stored : (b ≡ 82 → ⊥) → r ≡ string s false (check_of s) → r ≡ string_of s
    unfolding string_of
    stored q e = let h : r ≡ string (t ++ b ∷ []) false (check_of (t ++ b ∷ [])) = rw l at e in rw (l, (without_r t b q).0, (without_r t b q).1) h

ruleset laws = (rules, none, final, stored)

pub returns-in_default : goal.returns-in_default
returns-in_default c = search laws

pub returns-then-last-eq82 : goal.returns-then-last-eq82
returns-then-last-eq82 c = final _ _ _ _ c.in-Some.ensures.cases.0 c.if-last-eq82.true c.if_it_reads-then-last-eq82.ensures

pub returns : goal.returns
returns c = stored _ _ _ _ c.in-Some.ensures.cases.0 c.if-last-eq82.false c.if_it_reads-2.ensures
