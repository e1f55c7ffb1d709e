-- Theorems: an accepted text is commands laid end to end, nothing left over; a refused one is so up to its first wrong command.
use mathlib.Core.Path.{◌≡◌, refl, sym, ap, ◌∙◌}
use mathlib.Core.Bool.{Bool, true, false}
use mathlib.Core.List.{List, [], ◌∷◌, ◌++◌}
use Prim.Native.Nat.{ℕ, zero, suc, ◌+◌, ◌≤◌, ◌<◌}
use native.Mathlib.Omega.{arith}
use borrow.Author.Tests.{ltb-true, ltb-false}
use lib.Dec.{ltb}
use lib.ListN.{length, take, drop, get_or, take-append-drop}
use lib.Seq.{drop-append-le, length-take-le}
use Rattle.std.specs.Prelude.{Err, None, Ok, Some}
use Rattle.command.specs.Found.{Found}
use Rattle.basics.proofs.Lists.{drop_step}
use Rattle.operand.specs.declared.Class.TheVariants.{Operand}
use Rattle.operand.specs.Text.{has, operand_text}
use Rattle.operand.proofs.Runs.{run_stop, run_end}
use Rattle.command.specs.declared.Command.{Command}
use Rattle.command.specs.declared.refusal.Misread.{Misread}
use Rattle.command.specs.Command.{command_at}
use Rattle.command.proofs.Reach.{a_command_reaches_the_next_letter, nothing_only_at_the_end, a_command_in_front}
use Rattle.command.proofs.Made.{same_found}
use Rattle.text.specs.Text.{Step, Reading, reads, wrong, then_read, read_from, read_of}
use Rattle.text.proofs.Places.{read_at, read_end, read_refused, read_command}

-- steps laid end to end from a place up to another, each the command at its place
abbrev pub Tiled : List ℕ → ℕ → List Step → ℕ → Type 0
Tiled t from [] to = from ≡ to
Tiled t from (s ∷ steps) to = (s.at ≡ from) × (command_at t from ≡ Ok (Some (s.command, s.next))) × Tiled t s.next steps to

-- what is read from a place on: steps up to the text's end, or up to the wrong command
abbrev Walked : List ℕ → ℕ → Reading → Type 0
Walked t from (reads steps) = Tiled t from steps (length t)
Walked t from (wrong r) = (steps : List Step) × (place : ℕ) × Tiled t from steps place × (command_at t place ≡ Err r)

module _ (t : List ℕ) where
  one_more : (from : ℕ) (c : Command) (next : ℕ) (rest : Reading) → command_at t from ≡ Ok (Some (c, next)) → Walked t next rest → Walked t from (then_read from (Ok (Some (c, next))) rest)
  one_more from c next (reads steps) e w = (refl, e, w)
  one_more from c next (wrong r) e w = (record { at = from; command = c; next = next } ∷ w.0, w.1, (refl, e, w.2), w.3)

  at_one :
      (from : ℕ) → from < length t → ((next : ℕ) → from < next → next ≤ length t → Walked t next (read_at t next)) →
      (f : Found) → command_at t from ≡ f → Walked t from (read_at t from)
  at_one from h more (Ok (Some (c, next))) e =
      let r = a_command_reaches_the_next_letter t from c next e in
      rw (read_command t from c next h e) (one_more from c next (read_at t next) e (more next r.forward r.inside))
  at_one from h more (Err r) e = rw (read_refused t from r h e) ([], from, refl, e)
  at_one from h more (Ok None) e = absurd (omega (arith, nothing_only_at_the_end t from e))

  -- n bounds the bytes that are left
  walk : (n from : ℕ) → length t ≤ n + from → from ≤ length t → Walked t from (read_at t from)
  walk zero from l h = rw (read_end t from (omega arith)) (omega arith)
  walk (suc n) from l h = go (ltb from (length t)) refl (λ next k i. walk n next (omega arith) i)
    where
      go : (x : Bool) → ltb from (length t) ≡ x → ((next : ℕ) → from < next → next ≤ length t → Walked t next (read_at t next)) → Walked t from (read_at t from)
      go true e more = at_one from (ltb-true _ _ e) more (command_at t from) refl
      go false e more = rw (read_end t from (ltb-false from (length t) e)) (omega (arith, ltb-false from (length t) e))

  walk_all : Walked t 0 (read_of t)
  unfolding read_of read_at
  walk_all = walk (length t) 0 (omega arith) (omega arith)

  -- an accepted text is its commands laid end to end from its start to its end
  pub an_accepted_text_is_tiled : (steps : List Step) → read_of t ≡ reads steps → Tiled t 0 steps (length t)
  an_accepted_text_is_tiled steps e = rw e at walk_all

  -- and whatever is so reads as those commands
  tiles_from : (from : ℕ) (steps : List Step) → Tiled t from steps (length t) → read_at t from ≡ reads steps
  tiles_from from [] e = read_end t from (omega arith)
  tiles_from from (s ∷ steps) e =
      let r = a_command_reaches_the_next_letter t from s.command s.next e.1 in
      read_command t from s.command s.next (omega (arith, r.forward, r.inside)) e.1 ∙
      rw (tiles_from s.next steps e.2)
      (ap (λ n. reads (record { at = n; command = s.command; next = s.next } ∷ steps)) (sym e.0))

  pub tiles_are_read : (steps : List Step) → Tiled t 0 steps (length t) → read_of t ≡ reads steps
  unfolding read_of read_at
  tiles_are_read steps e = tiles_from 0 steps e

module _ (t : List ℕ) where
  -- where steps end: forward, inside the text, and before a letter
  pub forward : (from : ℕ) (steps : List Step) (to : ℕ) → Tiled t from steps to → from ≤ to
  forward from [] to e = omega arith
  forward from (s ∷ steps) to e =
      let r = a_command_reaches_the_next_letter t from s.command s.next e.1 in
      omega (arith, r.forward, forward s.next steps to e.2)

  inside : (from : ℕ) (steps : List Step) (to : ℕ) → from ≤ length t → Tiled t from steps to → to ≤ length t
  inside from [] to h e = omega arith
  inside from (s ∷ steps) to h e =
      inside s.next steps to (a_command_reaches_the_next_letter t from s.command s.next e.1).inside e.2

  no_operand : (k : ℕ) → (k < length t → has Operand (get_or t k 0) ≡ false) → operand_text (drop k t) ≡ []
  no_operand k h = go (ltb k (length t)) refl
    where
      go : (x : Bool) → ltb k (length t) ≡ x → operand_text (drop k t) ≡ []
      go true e = let l = ltb-true _ _ e in run_stop Operand t k l (h l)
      go false e = run_end Operand t k (ltb-false _ _ e)

  before_a_letter : (from : ℕ) (s : Step) (steps : List Step) (to : ℕ) → Tiled t from (s ∷ steps) to → operand_text (drop to t) ≡ []
  before_a_letter from s [] to e =
      rw e.2 at (no_operand s.next (a_command_reaches_the_next_letter t from s.command s.next e.1).behind)
  before_a_letter from s (s₁ ∷ steps) to e = before_a_letter s.next s₁ steps to e.2

  -- the same command stands there in the text that is cut at k
  module _ (k : ℕ) (h : k ≤ length t) (l : operand_text (drop k t) ≡ []) where
    same_in_part : (at : ℕ) → at < k → command_at (take k t) at ≡ command_at t at
    unfolding command_at
    same_in_part at g =
        let long = length-take-le k t h in
        let d = drop_step (take k t) at (omega arith) in
        let whole : drop at t ≡ drop at (take k t) ++ drop k t =
        ap (drop at) (sym (take-append-drop k t)) ∙ drop-append-le at (take k t) (drop k t) (omega arith)
        in
        rw (whole, d) (sym (a_command_in_front at (get_or (take k t) at 0) (drop (at + 1) (take k t)) (drop k t) l))

    tiled_in_part : (from : ℕ) (steps : List Step) → Tiled t from steps k → Tiled (take k t) from steps k
    tiled_in_part from [] e = e
    tiled_in_part from (s ∷ steps) e =
        let r = a_command_reaches_the_next_letter t from s.command s.next e.1 in
        let on = forward s.next steps k e.2 in
        (e.0, same_in_part from (omega (arith, r.forward)) ∙ e.1, tiled_in_part s.next steps e.2)

  -- every part of a text that ends where a command ends reads, as the commands up to there
  pub a_part_reads : (steps : List Step) (k : ℕ) → Tiled t 0 steps k → read_of (take k t) ≡ reads steps
  unfolding read_of read_from
  a_part_reads [] k e = rw (← e)
  a_part_reads (s ∷ steps) k e =
      let h = inside 0 (s ∷ steps) k (omega arith) e in
      let p = tiled_in_part k h (before_a_letter 0 s steps k e) 0 (s ∷ steps) e in
      tiles_are_read (take k t) (s ∷ steps) (rw (length-take-le k t h) p)

-- the first wrong command: it stands where the longest part ends that reads
pub record FirstWrong (t : List ℕ) (r : Misread) : Type 0 where
  pub steps : List Step
  pub place : ℕ
  pub there : command_at t place ≡ Err r
  pub before : read_of (take place t) ≡ reads steps
  pub longest : (others : List Step) (k : ℕ) → Tiled t 0 others k → k ≤ place

-- other steps from the same place end no later than at the wrong command
no_further :
    (t : List ℕ) (r : Misread) (place : ℕ) → command_at t place ≡ Err r → (from : ℕ) (steps others : List Step) (k : ℕ) →
    Tiled t from steps place → Tiled t from others k → k ≤ place
no_further t r place w from steps [] k e o = omega (arith, forward t from steps place e)
no_further t r place w from [] (s ∷ others) k e o =
    let c = o.1 in
    let z : ◌≡◌ {A = ℕ} 0 1 = cc in
    absurd (omega arith)
no_further t r place w from (s ∷ steps) (s₁ ∷ others) k e o =
    let c = e.1 in
    let d = o.1 in
    let n : s₁.next ≡ s.next = (same_found s₁.command s.command s₁.next s.next (sym d ∙ c)).1 in
    no_further t r place w s.next steps others k e.2 (rw n at o.2)

pub a_refused_text_reads_up_to_its_wrong_command : (t : List ℕ) (r : Misread) → read_of t ≡ wrong r → FirstWrong t r
a_refused_text_reads_up_to_its_wrong_command t r e =
    let (steps, place, tiled, there) = rw e at (walk_all t) in
    record {
      steps = steps;
      place = place;
      there = there;
      before = a_part_reads t steps place tiled;
      longest = λ others k o. no_further t r place there 0 steps others k tiled o;
    }
