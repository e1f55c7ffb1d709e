use mathlib.Core.Path.{◌≡◌, refl, sym, ◌∙◌}
use mathlib.Core.Bool.{true}
use mathlib.Core.List.{List}
use Prim.Native.Nat.{ℕ, ◌+◌, ◌-◌, ◌*◌, ◌^◌, ◌≤◌, ◌<◌}
use native.Mathlib.Nat.{pow-suc, pow-le-pow_right}
use native.Mathlib.Numerals.{add-one}
use native.Mathlib.Omega.{arith}
use borrow.Author.Rules.{rules}
use mir.Val.{Fits}
use mir.Syntax.{w32}
use lib.Dec.{lit<}
use lib.ListN.{length, get_or}
use lib.Seq.{take-length}
use Rattle.basics.specs.Bytes.{digit, every, value_of}
use Rattle.operand.specs.Steps.{Spelt}
use Rattle.operand.proofs.Spelling.{digit_at, value_more}
use Rattle.operand.proofs.value.Invariants.{Read}
use Rattle.operand.proofs.value.Goals as goal

module _ (t : List ℕ) where
  start : Read t 0 0
  unfolding value_of
  start = record { within = omega arith; same = refl; small = omega arith }

  module _ (v i : ℕ) (r : Read t v i) where
    end : length t ≤ i → Spelt t v
    end h =
        let n : i ≡ length t = omega arith in
        record { value = r.same ∙ rw (n, take-length); small = rw (← n) r.small }

    module _ (d : every digit t ≡ true) (l : length t ≤ 6) (h : i < length t) where
      low : 48 ≤ get_or t i 0
      low = (digit_at t i d h).0

      tens : 10 ^ i ≤ 100000
      tens = pow-le-pow_right {n = 10} (lit< tt) {j = 5} (omega arith)

      times : Fits w32 (v * 10)
      times = let k = tens in omega arith

      module _ (w : ℕ) (e : w ≡ get_or t i 0 - 48) where
        nine : w ≤ 9
        nine = omega (arith, (digit_at t i d h).1)

        plus : Fits w32 (v * 10 + w)
        plus = let k = tens in let j = nine in omega arith

        again : Read t (v * 10 + w) (i + 1)
        again =
            let j = nine in
            record {
              within = omega arith;
              same = rw (e, r.same) (sym (value_more t i h));
              small = rw (add-one, pow-suc) (omega arith);
            }

ruleset laws = (rules, start, end, low, times, plus, again)

pub loop-d-init : goal.loop-d-init
loop-d-init c = search laws

pub overflow_mul-v : goal.overflow_mul-v
overflow_mul-v c = search laws

pub overflow_sub-d : goal.overflow_sub-d
overflow_sub-d c = search laws

pub loop-d-preserved : goal.loop-d-preserved
loop-d-preserved c = search laws
