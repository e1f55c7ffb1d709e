-- Theorems: one text behind another reads as the commands of both, and its loops are checked over both.
use mathlib.Core.Path.{◌≡◌, refl, sym, ap, ◌∙◌}
use mathlib.Core.Bool.{Bool, true, false, ◌&&◌}
use mathlib.Core.List.{List, [], ◌∷◌, ◌++◌}
use Prim.Native.Nat.{ℕ, ◌+◌}
use native.Mathlib.Omega.{arith}
use lib.ListN.{length}
use Rattle.std.specs.Prelude.{if◌then◌else◌, Err, None, Ok, Result, Some}
use Rattle.command.specs.declared.Malformed.{Malformed}
use Rattle.command.specs.declared.Malformed.TheVariants.{NoLetter, WrongOperand}
use Rattle.command.specs.declared.Command.{Command}
use Rattle.command.specs.Found.{Found}
use Rattle.operand.specs.declared.Class.TheVariants.{Operand}
use Rattle.operand.specs.Text.{has, run, rest, operand_text}
use Rattle.operand.proofs.Runs.{run_rest}
use Rattle.command.specs.declared.refusal.Misread.{Misread}
use Rattle.command.specs.declared.refusal.Misread.TheVariants as R
use Rattle.command.specs.Table.{letter_of, command_of}
use Rattle.command.specs.Command.{placed, found_in}
use Rattle.command.proofs.Reach.{an_operand_byte_is_no_letter, a_command_in_front}
use Rattle.text.specs.Text.{Step, Reading, reads, wrong, then_read, read_from, read_of}
use Rattle.text.specs.Loops.{part_of, level_of, levels, closed, loops_ok, loops_in}
use Rattle.text.proofs.Places.{behind_operands}
use Rattle.text.proofs.Levels.{follow_same, levels_append}

-- readings one behind the other: the first wrong place decides
abbrev pub and_read : Reading → Reading → Reading
and_read (reads xs) (reads ys) = reads (xs ++ ys)
and_read (reads xs) (wrong r) = wrong r
and_read (wrong r) b = wrong r

-- the same further to the right
abbrev pub moved_step : ℕ → Step → Step
moved_step k s = record { at = k + s.at; command = s.command; next = k + s.next }

abbrev pub moved : ℕ → List Step → List Step
moved k [] = []
moved k (s ∷ steps) = moved_step k s ∷ moved k steps

abbrev moved_misread : ℕ → Misread → Misread
moved_misread k (R.Letter place) = R.Letter (k + place)
moved_misread k (R.Operand place read) = R.Operand (k + place) read

abbrev moved_reading : ℕ → Reading → Reading
moved_reading k (reads steps) = reads (moved k steps)
moved_reading k (wrong r) = wrong (moved_misread k r)

abbrev moved_found : ℕ → Found → Found
moved_found k (Ok (Some (c, next))) = Ok (Some (c, k + next))
moved_found k (Err r) = Err (moved_misread k r)
moved_found k (Ok None) = Ok None

-- reading is the same wherever a text stands
placed_moved : (k at n : ℕ) (f : Result Command Malformed) → placed (k + at) n f ≡ moved_found k (placed at n f)
unfolding placed
placed_moved k at n (Ok c) = ap (λ n. Ok (Some (c, n))) (omega arith)
placed_moved k at n (Err NoLetter) = refl
placed_moved k at n (Err (WrongOperand read)) = ap (λ p. Err (R.Operand p read)) (omega arith)

then_moved : (k at : ℕ) (f : Found) (rest : Reading) → then_read (k + at) (moved_found k f) (moved_reading k rest) ≡ moved_reading k (then_read at f rest)
then_moved k at (Ok (Some (c, next))) (reads steps) = refl
then_moved k at (Ok (Some (c, next))) (wrong r) = refl
then_moved k at (Err r) rest = refl
then_moved k at (Ok None) rest = refl

read_moved : (k : ℕ) (x : Bool) (at : ℕ) (t : List ℕ) → read_from x (k + at) t ≡ moved_reading k (read_from x at t)
unfolding read_from found_in
read_moved k x at [] = refl
read_moved k x at (b ∷ t) =
    let n : k + at + 1 ≡ k + (at + 1) = omega arith in
    rw (n, read_moved k true (at + 1) t, placed_moved k at (length (operand_text t)) (command_of (letter_of b) (operand_text t)))
    (go (x && has Operand b))
  where
    go :
        (y : Bool) →
        (if y then moved_reading k (read_from true (at + 1) t) else
        then_read (k + at) (moved_found k (found_in at (b ∷ t))) (moved_reading k (read_from true (at + 1) t))) ≡
        moved_reading k (if y then read_from true (at + 1) t else then_read at (found_in at (b ∷ t)) (read_from true (at + 1) t))
    go true = refl
    go false = then_moved k at (found_in at (b ∷ t)) (read_from true (at + 1) t)

-- a text that reads begins with a letter, or is empty
begins : (t : List ℕ) (steps : List Step) → read_of t ≡ reads steps → operand_text t ≡ []
unfolding read_of read_from run
begins [] steps e = refl
begins (b ∷ t) steps e = go (has Operand b) refl
  where
    go : (x : Bool) → has Operand b ≡ x → (if x then b ∷ run Operand t else []) ≡ []
    go true q =
        let w = rw (an_operand_byte_is_no_letter 0 b t q) at e in
        let z : ◌≡◌ {A = ℕ} 0 1 = cc in
        absurd (omega arith)
    go false q = refl

-- in front of a letter it doesn't matter whether a letter stands before
fresh : (x : Bool) (at : ℕ) (t : List ℕ) → operand_text t ≡ [] → read_from x at t ≡ read_from false at t
fresh false at t e = refl
fresh true at t e =
    let all : rest Operand t ≡ t = ap (λ u. u ++ rest Operand t) (sym e) ∙ run_rest Operand t in
    let z : at + 0 ≡ at = omega arith in
    behind_operands at t ∙ rw (e, all, z)

then_and : (at : ℕ) (f : Found) (a b : Reading) → then_read at f (and_read a b) ≡ and_read (then_read at f a) b
then_and at (Ok (Some (c, next))) (reads xs) (reads ys) = refl
then_and at (Ok (Some (c, next))) (reads xs) (wrong r) = refl
then_and at (Ok (Some (c, next))) (wrong r) b = refl
then_and at (Err r) a b = refl
then_and at (Ok None) a b = refl

nothing_and : (b : Reading) → and_read (reads []) b ≡ b
nothing_and (reads ys) = refl
nothing_and (wrong r) = refl

-- a text in front of one that begins with a letter
read_joined :
    (x : Bool) (at : ℕ) (a b : List ℕ) → operand_text b ≡ [] →
    read_from x at (a ++ b) ≡ and_read (read_from x at a) (read_from false (at + length a) b)
unfolding read_from
read_joined x at [] b e =
    let z : at + 0 ≡ at = omega arith in
    fresh x at b e ∙ rw z (sym (nothing_and (read_from false at b)))
read_joined x at (c ∷ a) b e =
    let n : at + length (c ∷ a) ≡ at + 1 + length a = omega arith in
    rw (a_command_in_front at c a b e, read_joined true (at + 1) a b e, n) (go (x && has Operand c))
  where
    go :
        (y : Bool) →
        (if y then and_read (read_from true (at + 1) a) (read_from false (at + 1 + length a) b) else
        then_read at (found_in at (c ∷ a)) (and_read (read_from true (at + 1) a) (read_from false (at + 1 + length a) b))) ≡
        and_read (if y then read_from true (at + 1) a else then_read at (found_in at (c ∷ a)) (read_from true (at + 1) a)) (read_from false (at + 1 + length a) b)
    go true = refl
    go false = then_and at (found_in at (c ∷ a)) (read_from true (at + 1) a) (read_from false (at + 1 + length a) b)

-- loops are counted the same wherever a text stands
levels_moved : (k : ℕ) (steps : List Step) (d : ℕ) → levels (moved k steps) d ≡ levels steps d
unfolding levels
levels_moved k [] d = refl
levels_moved k (s ∷ steps) d = follow_same (levels (moved k steps)) (levels steps) (levels_moved k steps) (level_of d (part_of s.command))

module _ (a b : List ℕ) (xs ys : List Step) (p : read_of a ≡ reads xs) (q : read_of b ≡ reads ys) where
  -- text plus text is the commands of the first, and then those of the second, further to the right
  pub joined_texts_read : read_of (a ++ b) ≡ reads (xs ++ moved (length a) ys)
  unfolding read_of
  joined_texts_read =
      let z : 0 + length a ≡ length a + 0 = omega arith in
      read_joined false 0 a b (begins b ys q) ∙ rw (z, read_moved (length a) false 0 b, p, q)

  -- and its loops are checked over the whole of it
  pub joined_texts_loop : loops_in (read_of a) (read_of b) ≡ loops_ok (xs ++ moved (length a) ys)
  unfolding loops_ok
  joined_texts_loop =
      let later = follow_same (levels ys) (levels (moved (length a) ys)) (λ d. sym (levels_moved (length a) ys d)) (levels xs 0) in
      rw (p, q) (ap closed (levels_append xs ys 0 ∙ later ∙ sym (levels_append xs (moved (length a) ys) 0)))
