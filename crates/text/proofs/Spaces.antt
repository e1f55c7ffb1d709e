-- Theorems: spaces don't matter, and what squeezing leaves in front is the data without them.
use mathlib.Core.Path.{◌≡◌, refl}
use mathlib.Core.List.{List}
use Prim.Native.Nat.{ℕ, ◌≤◌}
use native.Mathlib.Omega.{arith}
use lib.ListN.{length, take}
use lib.Seq.{take_at}
use Rattle.basics.specs.Lay.{over}
use Rattle.basics.proofs.Over.{length_over}
use Rattle.basics.proofs.Rules.{tests}
use Rattle.text.specs.Data.{spaceless, Squeezed, received_of}
use Rattle.text.proofs.Squeezing.{spaceless_short}

-- data of at most 320 bytes that differ only in spaces read the same
pub spaces_do_not_matter : (a b : List ℕ) → length a ≤ 320 → length b ≤ 320 → spaceless a ≡ spaceless b → received_of a ≡ received_of b
unfolding received_of
spaces_do_not_matter a b h k e = simp (tests, e)

-- the first bytes of a squeezed buffer, as many as were counted
pub squeezed_in_front : (before : List ℕ) (r : ℕ) (after : List ℕ) → Squeezed before r after → take r after ≡ spaceless before
unfolding over
squeezed_in_front before r after s = rw (s.bytes, s.count) (take_at (spaceless before) _ (length (spaceless before)) refl)

-- and there are that many
pub squeezed_fits : (before : List ℕ) (r : ℕ) (after : List ℕ) → Squeezed before r after → r ≤ length after
squeezed_fits before r after s =
    let h = spaceless_short before in
    rw (s.bytes, s.count, length_over (spaceless before) 0 before (omega arith)) h
