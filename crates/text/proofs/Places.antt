-- Laws of reading at a place of a text: the end, a refusal, a command and what follows it.
use mathlib.Core.Path.{◌≡◌, refl, sym, ap, ◌∙◌}
use mathlib.Core.Bool.{Bool, true, false}
use mathlib.Core.List.{List, [], ◌∷◌}
use Prim.Native.Nat.{ℕ, ◌+◌, ◌-◌, ◌≤◌, ◌<◌}
use native.Mathlib.Omega.{arith}
use lib.ListN.{length, drop, drop_of_length-le}
use lib.Seq.{drop-drop}
use lib.Dec.{ltb}
use borrow.Author.Tests.{ltb-true, ltb-false}
use Rattle.std.specs.Prelude.{if◌then◌else◌, Err, None, Ok, Some}
use Rattle.command.specs.Found.{Found}
use Rattle.basics.proofs.Lists.{drop_step}
use Rattle.operand.specs.declared.Class.TheVariants.{Operand}
use Rattle.operand.specs.Text.{has, run, rest, operand_text}
use Rattle.operand.proofs.Runs.{drop_run}
use Rattle.command.specs.declared.Command.{Command}
use Rattle.command.specs.declared.refusal.Misread.{Misread}
use Rattle.command.specs.Command.{found_in, command_at}
use Rattle.command.proofs.Reach.{a_command_reaches_the_next_letter}
use Rattle.text.specs.Text.{Reading, reads, wrong, then_read, read_from}

-- behind a letter, reading goes on where its operand text ends
pub behind_operands : (at : ℕ) (t : List ℕ) → read_from true at t ≡ read_from false (at + length (operand_text t)) (rest Operand t)
unfolding read_from run rest
behind_operands at [] = refl
behind_operands at (b ∷ t) = go (has Operand b) (behind_operands (at + 1) t)
  where
    go :
        (x : Bool) → read_from true (at + 1) t ≡ read_from false (at + 1 + length (operand_text t)) (rest Operand t) →
        (if x then read_from true (at + 1) t else then_read at (found_in at (b ∷ t)) (read_from true (at + 1) t)) ≡
        read_from false (at + length (if x then b ∷ run Operand t else [])) (if x then rest Operand t else b ∷ t)
    go true e = e ∙ ap (λ n. read_from false n (rest Operand t)) (omega arith)
    go false e = let z : at ≡ at + 0 = omega arith in ap (λ n. read_from false n (b ∷ t)) z

-- what is read of a text from a place on
unfoldable pub read_at : List ℕ → ℕ → Reading
read_at s at = read_from false at (drop at s)

module _ (s : List ℕ) (at : ℕ) where
  pub read_end : length s ≤ at → read_at s at ≡ reads []
  unfolding read_at read_from
  read_end h = rw (drop_of_length-le s h)

  read_here : at < length s → read_at s at ≡ then_read at (command_at s at) (read_from true (at + 1) (drop (at + 1) s))
  unfolding read_at read_from command_at
  read_here h = rw (drop_step s at h)

  pub read_refused : (r : Misread) → at < length s → command_at s at ≡ Err r → read_at s at ≡ wrong r
  read_refused r h e = read_here h ∙ rw e

  pub read_command : (c : Command) (next : ℕ) → at < length s → command_at s at ≡ Ok (Some (c, next)) → read_at s at ≡ then_read at (Ok (Some (c, next))) (read_at s next)
  unfolding read_at
  read_command c next h e =
      let k = a_command_reaches_the_next_letter s at c next e in
      let behind : rest Operand (drop (at + 1) s) ≡ drop next s =
      sym (drop_run Operand (drop (at + 1) s)) ∙ drop-drop (length (operand_text (drop (at + 1) s))) (at + 1) s ∙ ap (λ n. drop n s) (sym k.far)
      in
      read_here h ∙ rw (e, behind_operands, behind, ← k.far)

-- a command leaves less of the text
pub read_less : (s : List ℕ) (at : ℕ) (f : Found) (c : Command) (next : ℕ) → f ≡ command_at s at → f ≡ Ok (Some (c, next)) → length s - next < length s - at
read_less s at f c next e q = let k = a_command_reaches_the_next_letter s at c next (sym e ∙ q) in omega arith

-- where something stands, a command or a refusal, the text has not ended
pub something_stands : (s : List ℕ) (at : ℕ) (f : Found) → f ≡ command_at s at → (f ≡ Ok None → ⊥) → at < length s
unfolding command_at found_in
something_stands s at f e n = go (ltb at (length s)) refl
  where
    go : (x : Bool) → ltb at (length s) ≡ x → at < length s
    go true q = ltb-true at (length s) q
    go false q = absurd (n (e ∙ rw (drop_of_length-le s (ltb-false at (length s) q)) refl))

pub refused_inside : (s : List ℕ) (at : ℕ) (f : Found) (r : Misread) → f ≡ command_at s at → f ≡ Err r → at < length s
refused_inside s at f r e q = something_stands s at f e (λ n. let z : ◌≡◌ {A = ℕ} 0 1 = cc in omega (arith, z))

pub found_inside : (s : List ℕ) (at : ℕ) (f : Found) (c : Command) (next : ℕ) → f ≡ command_at s at → f ≡ Ok (Some (c, next)) → at < length s
found_inside s at f c next e q = something_stands s at f e (λ n. let z : ◌≡◌ {A = ℕ} 0 1 = cc in omega (arith, z))
