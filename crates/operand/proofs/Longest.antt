-- Laws of the longest beginning of a text that is of a kind, and what it is where the kind is how a well-formed text may begin.
use mathlib.Core.Path.{◌≡◌, refl, sym, ap, ◌∙◌}
use mathlib.Core.Bool.{Bool, true, false, false≢true}
use mathlib.Core.List.{List, [], ◌∷◌, ◌++◌, append_assoc, append-nil}
use Prim.Native.Nat.{ℕ, zero, suc, ◌+◌, ◌≤◌, ◌<◌}
use native.Mathlib.Nat.{le_antisymm, le_refl}
use native.Mathlib.Omega.{arith}
use lib.Dec.{ltb}
use borrow.Author.Tests.{ltb-true, ltb-false}
use lib.ListN.{length, take, drop, take-append-drop}
use lib.Seq.{take-length, take-take}
use Rattle.std.specs.Prelude.{if◌then◌else◌}
use Rattle.operand.specs.Begins.{longest}

module _ (p : List ℕ → Bool) (t : List ℕ) where
  pub longest_short : (n : ℕ) → longest p n t ≤ n
  unfolding longest
  longest_short zero = omega arith
  longest_short (suc n) = go (p (take (suc n) t)) (longest_short n)
    where
      go : (x : Bool) → longest p n t ≤ n → (if x then suc n else longest p n t) ≤ suc n
      go true h = omega arith
      go false h = omega arith

  -- it is of the kind, where no text at all is
  pub longest_is : (n : ℕ) → p [] ≡ true → p (take (longest p n t) t) ≡ true
  unfolding longest
  longest_is zero e = e
  longest_is (suc n) e = go (p (take (suc n) t)) refl (longest_is n e)
    where
      go : (x : Bool) → p (take (suc n) t) ≡ x → p (take (longest p n t) t) ≡ true → p (take (if x then suc n else longest p n t) t) ≡ true
      go true q h = q
      go false q h = h

  -- and no longer one is
  pub longest_most : (n k : ℕ) → k ≤ n → p (take k t) ≡ true → k ≤ longest p n t
  unfolding longest
  longest_most zero k h e = h
  longest_most (suc n) k h e = go (p (take (suc n) t)) refl (longest_most n k)
    where
      go : (x : Bool) → p (take (suc n) t) ≡ x → (k ≤ n → p (take k t) ≡ true → k ≤ longest p n t) → k ≤ (if x then suc n else longest p n t)
      go true q i = h
      go false q i = i (within (λ s. false≢true (sym q ∙ ap (λ m. p (take m t)) (sym s) ∙ e))) e
        where
          within : (k ≡ suc n → ⊥) → k ≤ n
          within d = omega arith

  pub longest_past : longest p (length t) t < length t → p (take (longest p (length t) t + 1) t) ≡ false
  longest_past h = go (p (take (longest p (length t) t + 1) t)) refl
    where
      go : (x : Bool) → p (take (longest p (length t) t + 1) t) ≡ x → x ≡ false
      go true e = absurd (omega (arith, longest_most (length t) (longest p (length t) t + 1) (omega arith) e))
      go false e = refl

  -- so many are the longest, where one more is not of the kind and nothing longer is that begins so
  pub counted_longest :
      ((u v : List ℕ) → p (u ++ v) ≡ true → p u ≡ true) →
      (k : ℕ) → k ≤ length t → p (take k t) ≡ true → (k < length t → p (take (k + 1) t) ≡ false) → k ≡ longest p (length t) t
  counted_longest closed k h e past = go (ltb k (longest p (length t) t)) refl
    where
      go : (x : Bool) → ltb k (longest p (length t) t) ≡ x → k ≡ longest p (length t) t
      go true q =
          let n = longest p (length t) t in
          let l = ltb-true k n q in
          let far : p (take (k + 1) (take n t) ++ drop (k + 1) (take n t)) ≡ true =
          ap p (take-append-drop (k + 1) (take n t)) ∙ longest_is (length t) (closed [] (take k t) e) in
          let one_more : p (take (k + 1) t) ≡ true =
          ap p (sym (take-take (k + 1) n t (omega arith))) ∙ closed (take (k + 1) (take n t)) (drop (k + 1) (take n t)) far in
          absurd (false≢true (sym (past (omega (arith, longest_short (length t)))) ∙ one_more))
      go false q = le_antisymm (longest_most (length t) k h e) (ltb-false _ _ q)

-- a byte further, where the rest of the kind is another
module _ (p : List ℕ → Bool) (b : ℕ) (t : List ℕ) where
  pub longest_behind : (q : List ℕ → Bool) → ((u : List ℕ) → p (b ∷ u) ≡ q u) → q [] ≡ true → (n : ℕ) → longest p (suc n) (b ∷ t) ≡ suc (longest q n t)
  unfolding longest
  longest_behind q f e zero = rw (f [], e)
  longest_behind q f e (suc n) = rw (f (take (suc n) t)) (go (q (take (suc n) t)) (longest_behind q f e n))
    where
      go :
          (x : Bool) → longest p (suc n) (b ∷ t) ≡ suc (longest q n t) →
          (if x then suc (suc n) else longest p (suc n) (b ∷ t)) ≡ suc (if x then suc n else longest q n t)
      go true h = refl
      go false h = h

  pub longest_none : ((u : List ℕ) → p (b ∷ u) ≡ false) → (n : ℕ) → longest p n (b ∷ t) ≡ 0
  unfolding longest
  longest_none f zero = refl
  longest_none f (suc n) = rw (f (take n t)) (longest_none f n)

-- how a well-formed text may begin: so that something completes it
pub record Starts (begin well : List ℕ → Bool) : Type 0 where
  pub nothing : well [] ≡ true
  pub completed : (t : List ℕ) → begin t ≡ true → (more : List ℕ) × (well (t ++ more) ≡ true)
  pub only : (t more : List ℕ) → well (t ++ more) ≡ true → begin t ≡ true

module _ (begin well : List ℕ → Bool) (s : Starts begin well) where
  pub starts_closed : (u v : List ℕ) → begin (u ++ v) ≡ true → begin u ≡ true
  starts_closed u v e =
      let c = s.completed (u ++ v) e in
      s.only u (v ++ c.0) (ap well (sym (append_assoc u v c.0)) ∙ c.1)

  module _ (t : List ℕ) where
    -- what is read can be completed,
    pub what_is_read_can_be_completed : (more : List ℕ) × (well (take (longest begin (length t) t) t ++ more) ≡ true)
    what_is_read_can_be_completed = s.completed _ (longest_is begin t (length t) (s.only [] [] s.nothing))

    -- with one character more it cannot,
    pub one_character_more_cannot :
        longest begin (length t) t < length t → (more : List ℕ) → well (take (longest begin (length t) t + 1) t ++ more) ≡ true → ⊥
    one_character_more_cannot h more e = false≢true (sym (longest_past begin t h) ∙ s.only _ more e)

    -- and a well-formed text is read whole
    pub a_well_formed_text_is_read_whole : well t ≡ true → longest begin (length t) t ≡ length t
    a_well_formed_text_is_read_whole e =
        le_antisymm (longest_short begin t (length t))
        (longest_most begin t (length t) (length t) (le_refl (length t)) (ap begin (take-length t) ∙ s.only t [] (ap well (append-nil t) ∙ e)))
