-- Theorems on checksums: an exclusive-or that is taken twice is undone, so one byte changed changes the sum.
use mathlib.Core.Path.{◌≡◌, refl, sym, ap, ◌∙◌}
use mathlib.Core.List.{List, [], ◌∷◌, ◌++◌}
use Prim.Native.Nat.{ℕ, zero, suc, ◌/◌, ◌%◌, ◌<◌}
use native.Mathlib.Nat.{div-add-mod'}
use native.Mathlib.Omega.{arith}
use lib.Arith.{bin_ind}
use lib.Bits.{differ, bit_xor, xor_step, xor_comm}
use Rattle.line.specs.Bytes.{sum_from}
use Rattle.line.proofs.Lines.{sum_append}

-- of binary digits
twice : (x y : ℕ) → x < 2 → y < 2 → (differ x (differ x y) ≡ y) × (differ x y < 2)
twice zero y p q = (refl, q)
twice (suc zero) zero p q = (refl, omega arith)
twice (suc zero) (suc zero) p q = (refl, omega arith)
twice (suc zero) (suc (suc y)) p q = absurd (omega arith)
twice (suc (suc x)) y p q = absurd (omega arith)

pub an_exclusive_or_is_undone_by_itself : (a b : ℕ) → bit_xor a (bit_xor a b) ≡ b
an_exclusive_or_is_undone_by_itself = bin_ind (λ (n : ℕ). (b : ℕ) → bit_xor n (bit_xor n b) ≡ b) (λ b. refl) step
  where
    step : (n : ℕ) → ((b : ℕ) → bit_xor (n / 2) (bit_xor (n / 2) b) ≡ b) → (b : ℕ) → bit_xor n (bit_xor n b) ≡ b
    step n ih b =
        let digit = twice (n % 2) (b % 2) (omega arith) (omega arith) in
        let e = xor_step n b in
        let half : bit_xor n b / 2 ≡ bit_xor (n / 2) (b / 2) = omega (arith, e, digit.1) in
        let odd : bit_xor n b % 2 ≡ differ (n % 2) (b % 2) = omega (arith, e, digit.1) in
        xor_step n (bit_xor n b) ∙ rw (half, odd, ih (b / 2), digit.0) (div-add-mod' b 2)

cancels : (s b c : ℕ) → bit_xor s b ≡ bit_xor s c → b ≡ c
cancels s b c e = sym (an_exclusive_or_is_undone_by_itself s b) ∙ ap (bit_xor s) e ∙ an_exclusive_or_is_undone_by_itself s c

-- two sums that come to the same over the same bytes were the same before them
sum_cancels : (p q : ℕ) (bs : List ℕ) → sum_from p bs ≡ sum_from q bs → p ≡ q
unfolding sum_from
sum_cancels p q [] e = e
sum_cancels p q (b ∷ bs) e = cancels b p q (xor_comm b p ∙ sum_cancels (bit_xor p b) (bit_xor q b) bs e ∙ xor_comm q b)

pub one_byte_changed_changes_the_sum : (s b c : ℕ) (before after : List ℕ) → sum_from s (before ++ (b ∷ after)) ≡ sum_from s (before ++ (c ∷ after)) → b ≡ c
unfolding sum_from
one_byte_changed_changes_the_sum s b c before after e =
    let t = sum_from s before in
    cancels t b c (sum_cancels (bit_xor t b) (bit_xor t c) after (sym (sum_append s before (b ∷ after)) ∙ e ∙ sum_append s before (c ∷ after)))
