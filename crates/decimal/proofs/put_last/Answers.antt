use Rattle.std.proofs.Common.{◌≡◌, ◌∙◌, sym, ap, ℕ, ◌+◌, ◌-◌, ◌/◌, ◌%◌, ◌≤◌, ◌<◌, List, [], ◌∷◌, ◌++◌, append-nil, length, set, arith}
use lib.ListN.{length-append}
use lib.Seq.{append_snoc}
use Rattle.basics.specs.Bytes.{zero_digit}
use Rattle.basics.specs.Lay.{over}
use Rattle.basics.proofs.Over.{over_none, over_front}
use Rattle.decimal.specs.Digits.{last_digits}
use Rattle.decimal.proofs.Digits.{last_none, last_step, length_last}
use Rattle.decimal.proofs.put_last.Goals as goal
use Rattle.decimal.proofs.put_last.Invariants.{Laying}

module _ (k n end : ℕ) (before : List ℕ) where
  start : k ≤ end → Laying k n end before before n end
  start h =
      let all : end - (end - k) ≡ k = omega arith in
      record { ds = []; same = sym (over_none end before); ends = omega arith; digits = rw all (append-nil (last_digits k n)) }

  module _ (now : List ℕ) (rest i : ℕ) (l : Laying k n end before now rest i) where
    again :
        end ≤ length before → end - k < i →
        Laying k n end before (set now (i - 1) (zero_digit + rest % 10)) (rest / 10) (i - 1)
    again f h =
        let d = zero_digit + rest % 10 in
        let back : i ≡ i - 1 + 1 = omega arith in
        let less : i - 1 - (end - k) ≡ i - (end - k) - 1 = omega arith in
        record {
          ds = d ∷ l.ds;
          same = ap (λ (b : List ℕ). set b (i - 1) d) (l.same ∙ ap (λ (j : ℕ). over l.ds j before) back)
              ∙ over_front d l.ds (i - 1) before (omega (arith, l.ends));
          ends = omega (arith, l.ends);
          digits = rw less (sym (append_snoc (last_digits (i - (end - k) - 1) (rest / 10)) d l.ds))
              ∙ ap (λ (x : List ℕ). x ++ l.ds) (sym (last_step (i - (end - k)) rest (omega arith)))
              ∙ l.digits;
        }

    done : k ≤ end → i ≤ end - k → now ≡ over (last_digits k n) (end - k) before
    done f h =
        let all = ap length l.digits in
        let long = length-append (last_digits (i - (end - k)) rest) l.ds in
        let here : i ≡ end - k = omega (arith, l.ends, length_last (i - (end - k)) rest, length_last k n) in
        l.same ∙ rw here (ap (λ (x : List ℕ). over x (end - k) before) (rw (last_none (i - (end - k)) rest (omega arith)) at l.digits))

pub loop-i-init : goal.loop-i-init
loop-i-init c = start _ _ _ _ c.requires.0

pub loop-i-preserved : goal.loop-i-preserved
loop-i-preserved c = again _ _ _ _ _ _ _ c.loop-i.invariant c.requires.1 c.loop-i-test.true

pub returns : goal.returns
returns c = done _ _ _ _ _ _ _ c.loop-i.invariant c.requires.0 c.loop-i-test.false
