-- Theorems: the count accepts exactly the texts that are a tree of at most four loops one in another, and a text is one tree only.
use mathlib.Core.Path.{◌≡◌, refl, sym, ap, ◌∙◌}
use mathlib.Core.Bool.{Bool, true, false, false≢true}
use mathlib.Core.List.{List, [], ◌∷◌}
use Prim.Native.Nat.{ℕ, ◌+◌, ◌-◌, ◌≤◌, ◌<◌}
use native.Mathlib.Omega.{arith}
use borrow.Author.Tests.{lt-ltb, ltb-true, ne_eqb, eqb-true, eqb-false}
use lib.Dec.{ltb, eqb}
use lib.ListN.{length}
use Rattle.std.specs.Prelude.{if◌then◌else◌, None, Option, Some}
use Rattle.text.specs.Text.{Step}
use Rattle.text.specs.Loops.{Part, opens, closes, plain, part_of, Nest, done, one, loop, spell, Proper, depth, Accepted, level_of, follow, levels, closed, loops_ok}

abbrev pub part : Step → Part
part s = part_of s.command

-- one command of a text
module _ (d : ℕ) (s : Step) (t : List Step) where
  pub level_plain : part s ≡ plain → levels (s ∷ t) d ≡ levels t d
  unfolding levels level_of
  level_plain e = rw e

  pub level_open : part s ≡ opens → d < 4 → levels (s ∷ t) d ≡ levels t (d + 1)
  unfolding levels level_of
  level_open e h = rw e (simp (lt-ltb d 4 h))

  level_close : (n : ℕ) → part s ≡ closes n → levels (s ∷ t) (d + 1) ≡ levels t d
  unfolding levels level_of
  level_close n e =
      let z : d + 1 - 1 ≡ d = omega arith in
      rw e (simp (ne_eqb (d + 1) 0 (λ e. omega arith), z))

-- a tree leaves as many loops open as before
pub level_spell : (f : Nest) (more : List Step) (d : ℕ) → Proper f → depth f + d ≤ 4 → levels (spell f more) d ≡ levels more d
level_spell done more d p h = refl
level_spell (one s f) more d p h = level_plain d s (spell f more) p.0 ∙ level_spell f more d p.1 h
level_spell (loop g inner n end f) more d p h =
    level_open d g (spell inner (end ∷ spell f more)) p.0 (omega arith) ∙
    level_spell inner (end ∷ spell f more) (d + 1) p.2 (omega arith) ∙
    level_close d end (spell f more) n p.1 ∙ level_spell f more d p.3 (omega arith)

-- a tree is accepted
pub every_tree_is_accepted : (t : List Step) → Accepted t → loops_ok t ≡ true
unfolding loops_ok levels
every_tree_is_accepted t a = rw (← a.spelt, level_spell a.nest [] 0 a.proper (omega (arith, a.shallow)))

-- the end of a loop that is open in front: its G with the passes, and what follows it
record End : Type 0 where
  passes : ℕ
  closing : Step
  after : Nest

abbrev ends : List End → List Step
ends [] = []
ends (r ∷ rs) = r.closing ∷ spell r.after (ends rs)

abbrev Fit : List End → Type 0
Fit [] = Unit {0}
Fit (r ∷ rs) = (part r.closing ≡ closes r.passes) × Proper r.after × (depth r.after + length rs ≤ 4) × Fit rs

-- a text with d loops open in front: a tree, and then the ends of those loops
record Split (t : List Step) (d : ℕ) : Type 0 where
  nest : Nest
  rounds : List End
  spelt : spell nest (ends rounds) ≡ t
  many : length rounds ≡ d
  proper : Proper nest
  shallow : depth nest + d ≤ 4
  fit : Fit rounds

module _ (s : Step) (t : List Step) (d : ℕ) where
  split_plain : part s ≡ plain → Split t d → Split (s ∷ t) d
  split_plain e p =
      record {
        nest = one s p.nest;
        rounds = p.rounds;
        spelt = ap (◌∷◌ s) p.spelt;
        many = p.many;
        proper = (e, p.proper);
        shallow = p.shallow;
        fit = p.fit;
      }

  split_close : (n : ℕ) → part s ≡ closes n → d < 4 → Split t d → Split (s ∷ t) (d + 1)
  split_close n e h p =
      record {
        nest = done;
        rounds = record { passes = n; closing = s; after = p.nest } ∷ p.rounds;
        spelt = ap (◌∷◌ s) p.spelt;
        many = omega (arith, p.many);
        proper = tt;
        shallow = omega arith;
        fit = (e, p.proper, omega (arith, p.many, p.shallow), p.fit);
      }

  split_open : part s ≡ opens → Split t (d + 1) → Split (s ∷ t) d
  split_open e p = go p.rounds p.spelt p.many p.fit
    where
      go : (rs : List End) → spell p.nest (ends rs) ≡ t → length rs ≡ d + 1 → Fit rs → Split (s ∷ t) d
      go [] q m f = absurd (omega arith)
      go (r ∷ rs) q m f =
          record {
            nest = loop s p.nest r.passes r.closing r.after;
            rounds = rs;
            spelt = ap (◌∷◌ s) q;
            many = omega arith;
            proper = (e, f.0, p.proper, f.1);
            shallow = omega (arith, p.shallow, f.2);
            fit = f.3;
          }

-- a g and a G that the count lets stand
module _ (t : List Step) (d : ℕ) where
  opened : follow (level_of d opens) (levels t) ≡ Some 0 → (d < 4) × (levels t (d + 1) ≡ Some 0)
  unfolding level_of
  opened h = go (ltb d 4) refl h
    where
      go : (x : Bool) → ltb d 4 ≡ x → follow (if x then Some (d + 1) else None) (levels t) ≡ Some 0 → (d < 4) × (levels t (d + 1) ≡ Some 0)
      go true q e = (ltb-true d 4 q, e)
      go false q e = let z : ◌≡◌ {A = ℕ} 0 1 = cc in absurd (omega arith)

  closed_one : (n : ℕ) → follow (level_of d (closes n)) (levels t) ≡ Some 0 → (0 < d) × (levels t (d - 1) ≡ Some 0)
  unfolding level_of
  closed_one n h = go (eqb d 0) refl h
    where
      go : (x : Bool) → eqb d 0 ≡ x → follow (if x then None else Some (d - 1)) (levels t) ≡ Some 0 → (0 < d) × (levels t (d - 1) ≡ Some 0)
      go true q e = let z : ◌≡◌ {A = ℕ} 0 1 = cc in absurd (omega arith)
      go false q e = let f = eqb-false d 0 q in (omega arith, e)

split_by :
    (s : Step) (t : List Step) (d : ℕ) → d ≤ 4 → ((e : ℕ) → e ≤ 4 → levels t e ≡ Some 0 → Split t e) →
    (p : Part) → part s ≡ p → follow (level_of d p) (levels t) ≡ Some 0 → Split (s ∷ t) d
unfolding level_of
split_by s t d h more opens q e =
    let o = opened t d e in
    split_open s t d q (more (d + 1) (omega (arith, o.0)) o.1)
split_by s t d h more (closes n) q e =
    let o = closed_one t d n e in
    let z : d - 1 + 1 ≡ d = omega (arith, o.0) in
    rw z at (split_close s t (d - 1) n q (omega (arith, o.0)) (more (d - 1) (omega arith) o.1))
split_by s t d h more plain q e = split_plain s t d q (more d h e)

split : (t : List Step) (d : ℕ) → d ≤ 4 → levels t d ≡ Some 0 → Split t d
unfolding levels
split [] d h e =
    let z : d ≡ 0 = cc in
    record { nest = done; rounds = []; spelt = refl; many = sym z; proper = tt; shallow = omega arith; fit = tt }
split (s ∷ t) d h e = split_by s t d h (split t) (part s) refl e

-- with none open in front
tree_of : (t : List Step) → Split t 0 → Accepted t
tree_of t s = go s.rounds s.spelt s.many
  where
    go : (rs : List End) → spell s.nest (ends rs) ≡ t → length rs ≡ 0 → Accepted t
    go [] e m = record { nest = s.nest; proper = s.proper; spelt = e; shallow = omega (arith, s.shallow) }
    go (r ∷ rs) e m = absurd (omega arith)

none_left : (l : Option ℕ) → closed l ≡ true → l ≡ Some 0
none_left (Some d) e = ap Some (eqb-true d 0 e)
none_left None e = absurd (false≢true e)

-- whatever is accepted is a tree
pub what_is_accepted_is_a_tree : (t : List Step) → loops_ok t ≡ true → Accepted t
unfolding loops_ok
what_is_accepted_is_a_tree t e = tree_of t (split t 0 (omega arith) (none_left (levels t 0) e))

-- what follows a tree: nothing, or the G of a loop round it
abbrev Stops : List Step → Type 0
Stops [] = Unit {0}
Stops (s ∷ t) = (n : ℕ) × (part s ≡ closes n)

-- so it begins with no other command
stops_so : {A : Type 0} (a : List Step) (s : Step) (t : List Step) → Stops a → a ≡ s ∷ t → ((n : ℕ) → part s ≡ closes n → ⊥) → A
stops_so [] s t u e k = let z : ◌≡◌ {A = ℕ} 0 1 = cc in absurd (omega arith)
stops_so (b ∷ a) s t (n, h) e k =
    let same : b ≡ s = cc in
    absurd (k n (rw same at h))

-- a command is one part only
module _ (s : Step) where
  opens_only : part s ≡ opens → (n : ℕ) → part s ≡ closes n → ⊥
  opens_only p n e = let z : ◌≡◌ {A = ℕ} 0 1 = cc in omega arith

  plain_only : part s ≡ plain → (n : ℕ) → part s ≡ closes n → ⊥
  plain_only p n e = let z : ◌≡◌ {A = ℕ} 0 1 = cc in omega arith

  not_both : {A : Type 0} (g : Step) → part s ≡ plain → part g ≡ opens → s ≡ g → A
  not_both g p o e =
      let q : part s ≡ opens = rw e o in
      let z : ◌≡◌ {A = ℕ} 0 1 = cc in
      absurd (omega arith)

-- commands are written by one tree only
same_tree :
    (f g : Nest) (a b : List Step) → Proper f → Proper g → Stops a → Stops b → spell f a ≡ spell g b → (f ≡ g) × (a ≡ b)
same_tree done done a b p q s u e = (refl, e)
same_tree done (one c g) a b p q s u e = stops_so a c (spell g b) s e (plain_only c q.0)
same_tree done (loop y j m z g) a b p q s u e = stops_so a y (spell j (z ∷ spell g b)) s e (opens_only y q.0)
same_tree (one c f) done a b p q s u e = stops_so b c (spell f a) u (sym e) (plain_only c p.0)
same_tree (loop x i n w f) done a b p q s u e = stops_so b x (spell i (w ∷ spell f a)) u (sym e) (opens_only x p.0)
same_tree (one c f) (loop y j m z g) a b p q s u e = not_both c y p.0 q.0 (cc)
same_tree (loop x i n w f) (one c g) a b p q s u e = not_both c x q.0 p.0 (cc)
same_tree (one c f) (one k g) a b p q s u e =
    let same : c ≡ k = cc in
    let r = same_tree f g a b p.1 q.1 s u (cc) in
    let h = r.0 in
    (cc, r.1)
same_tree (loop x i n w f) (loop y j m z g) a b p q s u e =
    let front : x ≡ y = cc in
    let inner = same_tree i j (w ∷ spell f a) (z ∷ spell g b) p.2 q.2 (n, p.1) (m, q.1) (cc) in
    let h = inner.0 in
    let k = inner.1 in
    let back : w ≡ z = cc in
    let v = p.1 in
    let o = q.1 in
    let passes : n ≡ m = cc in
    let r = same_tree f g a b p.3 q.3 s u (cc) in
    let l = r.0 in
    (cc, r.1)

-- so an accepted text has one tree
pub one_tree_only : (t : List Step) (x y : Accepted t) → x.nest ≡ y.nest
one_tree_only t x y = (same_tree x.nest y.nest [] [] x.proper y.proper tt tt (x.spelt ∙ sym y.spelt)).0
