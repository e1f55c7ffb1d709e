-- Laws of texts of digits at an index, and of the number that a text is.
use mathlib.Core.Path.{◌≡◌, refl}
use mathlib.Core.Bool.{true}
use mathlib.Core.List.{List, [], ◌∷◌}
use Prim.Native.Nat.{ℕ, ◌+◌, ◌-◌, ◌*◌, ◌≤◌, ◌<◌}
use native.Mathlib.Numerals.{add-one}
use native.Mathlib.Omega.{arith}
use lib.ListN.{length, take, get_or}
use lib.Seq.{take-suc}
use Rattle.std.specs.Prelude.{if◌then◌else◌}
use Rattle.basics.specs.Bytes.{digit, every, value_of}
use Rattle.basics.proofs.Digits.{digit_range, value_append}
use Rattle.operand.specs.declared.Class.TheVariants.{Digit}
use Rattle.operand.specs.declared.Number.TheVariants.{Wrong}
use Rattle.operand.specs.Text.{run, rest}
use Rattle.operand.specs.Begins.{read_in}
use Rattle.operand.specs.Number.{digits, followed_of, number_of}
use Rattle.operand.proofs.Runs.{every_at}

pub digit_at : (t : List ℕ) (i : ℕ) → every digit t ≡ true → i < length t → (48 ≤ get_or t i 0) × (get_or t i 0 ≤ 57)
digit_at t i e h = digit_range (get_or t i 0) (every_at digit t i e h)

-- one digit more
pub value_more : (t : List ℕ) (i : ℕ) → i < length t → value_of (take (i + 1) t) ≡ value_of (take i t) * 10 + (get_or t i 0 - 48)
unfolding value_of
value_more t i h = rw (add-one, take-suc t i 0 h, value_append) (omega arith)

-- the number of a text that is not empty
pub number_some :
    (t : List ℕ) → (length t ≡ 0 → ⊥) →
    number_of t ≡ (if digits 1 6 (run Digit t) then followed_of (read_in t) (value_of (run Digit t)) (rest Digit t) else Wrong (read_in t))
unfolding number_of
number_some [] h = absurd (h refl)
number_some (b ∷ t) h = refl
