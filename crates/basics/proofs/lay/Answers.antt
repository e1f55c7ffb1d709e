use Rattle.std.proofs.Common.{◌≡◌, ◌∙◌, refl, ℕ, ◌+◌, ◌<◌, ◌≤◌, List, length, set, arith}
use Rattle.std.specs.Prelude.{Option, Some, None}
use native.Mathlib.Numerals.{add-one}
use borrow.Author.Tests.{le-leb, lt-leb}
use lib.ListN.{get_or, length-set}
use lib.Seq.{paste-suc, take-length}
use Rattle.basics.specs.Lay.{Laid, over, fits, laid_in}
use Rattle.basics.proofs.lay.Goals as goal
use Rattle.basics.proofs.lay.Invariants.{Copied}

module _ (xs : List ℕ) (at : ℕ) (buf : List ℕ) where
  none : (r : Option ℕ) → r ≡ None → (at + length xs ≤ length buf → ⊥) → Laid xs at buf r buf
  unfolding fits laid_in
  none r e h = let f = lt-leb (at + length xs) (length buf) (omega arith) in record { said = rw (e, f); left = rw f }

  module _ (now : List ℕ) (i : ℕ) (l : Copied xs at buf now i) (f : at + length xs ≤ length buf) where
    again : i < length xs → Copied xs at buf (set now (at + i) (get_or xs i 0)) (i + 1)
    again h =
        let inside : at + i < length buf = omega arith in
        record { same = rw (l.same, add-one) (paste-suc buf at xs i 0 inside h); long = length-set now (at + i) (get_or xs i 0) ∙ l.long }

    laid : i ≡ length xs → Laid xs at buf (Some (length xs)) now
    unfolding over fits laid_in
    laid all = let e = le-leb _ _ f in record { said = rw e; left = rw e (l.same ∙ rw (all, take-length)) }

pub returns-in_err-room : goal.returns-in_err-room
returns-in_err-room c = none _ _ _ _ c.from_residual.ensures (λ h. c.in_err-room.ensures (omega arith))

pub returns-then-room-size : goal.returns-then-room-size
returns-then-room-size c = none _ _ _ _ refl (λ h. omega (arith, c.in_ok-room.ensures.0, c.in_ok-room.ensures.1, c.if-room-size.true))

pub loop-i-preserved : goal.loop-i-preserved
loop-i-preserved c = again _ _ _ _ _ c.loop-i.invariant (omega (arith, c.in_ok-room.ensures.0, c.in_ok-room.ensures.1, c.if-room-size.false)) c.loop-i-test.true

pub returns : goal.returns
returns c = laid _ _ _ _ _ c.loop-i.invariant (omega (arith, c.in_ok-room.ensures.0, c.in_ok-room.ensures.1, c.if-room-size.false)) (omega (arith, c.loop-i.auto.i-end, c.loop-i-test.false))
