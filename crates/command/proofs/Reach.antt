-- Theorems: how far a command reaches, where a refusal stands and how far its operand was read, and that only the end of a text has nothing.
use mathlib.Core.Path.{◌≡◌, refl, sym, ap}
use mathlib.Core.Bool.{Bool, true, false, ◌||◌, false≢true}
use mathlib.Core.List.{List, [], ◌∷◌, ◌++◌}
use Prim.Native.Nat.{ℕ, ◌+◌, ◌-◌, ◌≤◌, ◌<◌}
use native.Mathlib.Omega.{arith}
use borrow.Author.Tests.{ltb-true, eqb-true, ne_eqb}
use lib.Dec.{eqb, ltb}
use lib.ListN.{length, drop, get_or, length-drop}
use lib.Seq.{get_or-drop}
use Rattle.std.specs.Prelude.{Err, None, Ok, Result, Some}
use Rattle.command.specs.declared.Malformed.{Malformed}
use Rattle.command.specs.declared.Malformed.TheVariants.{NoLetter, WrongOperand}
use Rattle.basics.proofs.Lists.{drop_step}
use Rattle.operand.specs.declared.Class.TheVariants as Class
use Rattle.operand.specs.Text.{has, operand_text}
use Rattle.basics.specs.Bytes.{digit}
use Rattle.basics.proofs.Digits.{digit_range}
use Rattle.operand.proofs.Runs.{run_short, run_at, run_past, run_joined}
use Rattle.command.specs.declared.Command.{Command}
use Rattle.command.specs.declared.refusal.Misread.TheVariants.{Letter, Operand}
use Rattle.command.specs.Table.{letter_of, command_of}
use Rattle.command.specs.Command.{placed, found_in, command_at, Reach, OperandRefused}
use Rattle.command.proofs.Made.{same_found}
use Rattle.command.proofs.ReadBy.{a_wrong_operand_was_read_so_far}

module _ (at n : ℕ) where
  placed_next : (f : Result Command Malformed) (c : Command) (next : ℕ) → placed at n f ≡ Ok (Some (c, next)) → next ≡ at + 1 + n
  unfolding placed
  placed_next (Ok d) c next e = sym (same_found d c _ next e).1
  placed_next (Err NoLetter) c next e = cc
  placed_next (Err (WrongOperand k)) c next e = cc

  placed_letter : (f : Result Command Malformed) (p : ℕ) → placed at n f ≡ Err (Letter p) → p ≡ at
  unfolding placed
  placed_letter (Ok d) p e = cc
  placed_letter (Err NoLetter) p e = cc
  placed_letter (Err (WrongOperand k)) p e = cc

  placed_operand : (f : Result Command Malformed) (p read : ℕ) → placed at n f ≡ Err (Operand p read) → (p ≡ at + 1) × (f ≡ Err (WrongOperand read))
  unfolding placed
  placed_operand (Ok d) p read e = let z : ◌≡◌ {A = ℕ} 0 1 = cc in absurd (omega arith)
  placed_operand (Err NoLetter) p read e = let z : ◌≡◌ {A = ℕ} 0 1 = cc in absurd (omega arith)
  placed_operand (Err (WrongOperand k)) p read e = (cc, ap (λ (r : ℕ). Err (WrongOperand r)) cc)

  placed_not_end : {A : Type 0} (f : Result Command Malformed) → placed at n f ≡ Ok None → A
  unfolding placed
  placed_not_end (Ok d) e = let z : ◌≡◌ {A = ℕ} 0 1 = cc in absurd (omega arith)
  placed_not_end (Err NoLetter) e = let z : ◌≡◌ {A = ℕ} 0 1 = cc in absurd (omega arith)
  placed_not_end (Err (WrongOperand k)) e = let z : ◌≡◌ {A = ℕ} 0 1 = cc in absurd (omega arith)

-- the letter at a place of the text, and an operand text of n bytes behind it
module _ (s : List ℕ) (at next : ℕ) (h : at < length s) (far : next ≡ at + 1 + length (operand_text (drop (at + 1) s))) where
  reach : Reach s at next
  reach =
      let t = drop (at + 1) s in
      let long = length-drop (at + 1) s in
      record {
        forward = omega arith;
        inside = omega (arith, run_short Class.Operand t, long);
        far = far;
        operands =
            λ i a b.
            let j : at + 1 + (i - (at + 1)) ≡ i = omega arith in
            rw (get_or-drop, j) at (run_at Class.Operand t (i - (at + 1)) (omega arith));
        behind = λ b. rw (get_or-drop, ← far) at (run_past Class.Operand t (omega (arith, long)));
      }

-- a command takes at least its letter, and only operand bytes up to the next letter
pub a_command_reaches_the_next_letter : (s : List ℕ) (at : ℕ) (c : Command) (next : ℕ) → command_at s at ≡ Ok (Some (c, next)) → Reach s at next
unfolding command_at found_in
a_command_reaches_the_next_letter s at c next e = go (drop at s) refl e
  where
    go : (u : List ℕ) → drop at s ≡ u → found_in at u ≡ Ok (Some (c, next)) → Reach s at next
    go [] d q = let z : ◌≡◌ {A = ℕ} 0 1 = cc in absurd (omega arith)
    go (b ∷ t) d q =
        let h : at < length s = omega (arith, ap length d, length-drop at s) in
        let same : t ≡ drop (at + 1) s = cc (drop_step s at h) in
        reach s at next h (rw same at (placed_next at (length (operand_text t)) (command_of (letter_of b) (operand_text t)) c next q))

module _ (at p : ℕ) where
  letter_in : (u : List ℕ) → found_in at u ≡ Err (Letter p) → p ≡ at
  unfolding found_in
  letter_in [] e = cc
  letter_in (b ∷ t) e = placed_letter at (length (operand_text t)) (command_of (letter_of b) (operand_text t)) p e

-- a letter is refused where it stands, and an operand where its text begins
pub a_letter_is_refused_at_its_place : (s : List ℕ) (at p : ℕ) → command_at s at ≡ Err (Letter p) → p ≡ at
unfolding command_at
a_letter_is_refused_at_its_place s at p e = letter_in at p (drop at s) e

pub an_operand_is_refused_behind_its_letter : (s : List ℕ) (at p read : ℕ) → command_at s at ≡ Err (Operand p read) → OperandRefused s at p read
unfolding command_at found_in
an_operand_is_refused_behind_its_letter s at p read e = go (drop at s) refl e
  where
    go : (u : List ℕ) → drop at s ≡ u → found_in at u ≡ Err (Operand p read) → OperandRefused s at p read
    go [] d q = let z : ◌≡◌ {A = ℕ} 0 1 = cc in absurd (omega arith)
    go (b ∷ t) d q =
        let h : at < length s = omega (arith, ap length d, length-drop at s) in
        let first : b ≡ get_or s at 0 = cc (drop_step s at h) in
        let same : t ≡ drop (at + 1) s = cc (drop_step s at h) in
        let r = placed_operand at (length (operand_text t)) (command_of (letter_of b) (operand_text t)) p read q in
        record {
          behind_its_letter = r.0;
          read_so_far = rw (← first, ← same) (a_wrong_operand_was_read_so_far (letter_of b) (operand_text t) read r.1);
        }

-- there is nothing only where the text has ended
pub nothing_only_at_the_end : (s : List ℕ) (at : ℕ) → command_at s at ≡ Ok None → length s ≤ at
unfolding command_at found_in
nothing_only_at_the_end s at e = go (drop at s) refl e
  where
    go : (u : List ℕ) → drop at s ≡ u → found_in at u ≡ Ok None → length s ≤ at
    go [] d q = omega (arith, ap length d, length-drop at s)
    go (b ∷ t) d q = placed_not_end at (length (operand_text t)) (command_of (letter_of b) (operand_text t)) q

-- digits, points and commas are outside the table: "a digit at the front .. a point or comma at the front does too"
operand_low : (b : ℕ) → has Class.Operand b ≡ true → b ≤ 57
operand_low b e = go (digit b) refl (eqb b 46) refl (eqb b 44) refl e
  where
    go : (x : Bool) → digit b ≡ x → (y : Bool) → eqb b 46 ≡ y → (z : Bool) → eqb b 44 ≡ z → (x || (y || z)) ≡ true → b ≤ 57
    go true p y q z r e = (digit_range b p).1
    go false p true q z r e = omega (arith, eqb-true b 46 q)
    go false p false q true r e = omega (arith, eqb-true b 44 r)
    go false p false q false r e = absurd (false≢true e)

pub an_operand_byte_is_no_letter : (at b : ℕ) (t : List ℕ) → has Class.Operand b ≡ true → found_in at (b ∷ t) ≡ Err (Letter at)
unfolding found_in letter_of command_of placed
an_operand_byte_is_no_letter at b t e =
    let h = operand_low b e in
    let other : (k : ℕ) → ltb 57 k ≡ true → eqb b k ≡ false = λ k l. ne_eqb b k (λ e. omega (arith, ltb-true 57 k l)) in
    simp other

-- a command stays what it is in front of a text that begins with no operand byte
pub a_command_in_front : (at b : ℕ) (t u : List ℕ) → operand_text u ≡ [] → found_in at (b ∷ t ++ u) ≡ found_in at (b ∷ t)
unfolding found_in
a_command_in_front at b t u e = rw (run_joined Class.Operand t u e)
