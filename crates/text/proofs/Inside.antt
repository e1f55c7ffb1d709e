-- Theorems: at every place of a text that may run a command stands or the text ends, and behind the command is such a place again;
-- a G stands in the loop whose g it closes.
use mathlib.Core.Path.{◌≡◌, refl, sym, ap, subst, ◌∙◌}
use mathlib.Core.List.{List, [], ◌∷◌, ◌++◌, append_assoc}
use Prim.Native.Nat.{ℕ, ◌+◌, ◌≤◌, ◌<◌}
use native.Mathlib.Omega.{arith}
use lib.ListN.{length}
use Rattle.std.specs.Prelude.{Ok, Some}
use Rattle.command.specs.declared.Command.{Command}
use Rattle.command.specs.Command.{command_at}
use Rattle.text.specs.Text.{Step}
use Rattle.text.specs.Loops.{Part, opens, closes, plain, part_of, Nest, done, one, loop, spell, Proper, depth, levels}
use Rattle.text.specs.Inside.{Round, loop_of, ends, Inside, first, past, into, behind, MayRun, start_of, Place, Before}
use Rattle.text.proofs.Levels.{levels_append}
use Rattle.text.proofs.Tiles.{Tiled, an_accepted_text_is_tiled, a_part_reads, forward}
use Rattle.text.proofs.Trees.{level_plain, level_open, level_spell}

-- what holds of a tree holds at its places
module _ (whole : Nest) where
  proper_inside : (x : Nest) (rs : List Round) → Inside whole x rs → Proper whole → Proper x
  proper_inside x rs first p = p
  proper_inside x rs (past s f rs₁ i) p = (proper_inside (one s f) rs₁ i p).1
  proper_inside x rs (into r rs₁ i) p = (proper_inside (loop_of r) rs₁ i p).2
  proper_inside x rs (behind r rs₁ i) p = (proper_inside (loop_of r) rs₁ i p).3

  shallow_inside : (x : Nest) (rs : List Round) → Inside whole x rs → depth whole ≤ 4 → depth x + length rs ≤ 4
  shallow_inside x rs first h = omega arith
  shallow_inside x rs (past s f rs₁ i) h = shallow_inside (one s f) rs₁ i h
  shallow_inside x rs (into r rs₁ i) h = let k = shallow_inside (loop_of r) rs₁ i h in omega arith
  shallow_inside x rs (behind r rs₁ i) h = let k = shallow_inside (loop_of r) rs₁ i h in omega arith

  -- a loop round a place is a loop of the tree
  round_inside : (x : Nest) (ws : List Round) → Inside whole x ws → (r : Round) (rs : List Round) → ws ≡ r ∷ rs → Inside whole (loop_of r) rs
  round_inside x ws first r rs e = let z : ◌≡◌ {A = ℕ} 0 1 = cc in absurd (omega arith)
  round_inside x ws (past s f ws₁ i) r rs e = round_inside (one s f) ws₁ i r rs e
  round_inside x ws (into q ws₁ i) r rs e =
      let same : q ≡ r = cc in
      let rest : ws₁ ≡ rs = cc in
      rw (same, rest) at i
  round_inside x ws (behind q ws₁ i) r rs e = round_inside (loop_of q) ws₁ i r rs e

-- commands laid end to end, up to the text's end
module _ (t : List ℕ) where
  abbrev Standing : List Step → Type 0
  Standing steps = Tiled t (start_of steps (length t)) steps (length t)

  start_of_lem : (from : ℕ) (steps : List Step) → Tiled t from steps (length t) → start_of steps (length t) ≡ from
  start_of_lem from [] e = sym e
  start_of_lem from (s ∷ steps) e = e.0

  standing : (from : ℕ) (steps : List Step) → Tiled t from steps (length t) → Standing steps
  standing from steps e = rw (start_of_lem from steps e) e

  behind_one : (s : Step) (steps : List Step) → Standing (s ∷ steps) → Standing steps
  behind_one s steps e = standing s.next steps e.2

  behind_nest : (f : Nest) (more : List Step) → Standing (spell f more) → Standing more
  behind_nest done more e = e
  behind_nest (one s f) more e = behind_nest f more (behind_one s (spell f more) e)
  behind_nest (loop g inner n end f) more e =
      behind_nest f more (behind_one end (spell f more) (behind_nest inner (end ∷ spell f more) (behind_one g (spell inner (end ∷ spell f more)) e)))

  stands : (whole x : Nest) (rs : List Round) → Standing (spell whole []) → Inside whole x rs → Standing (spell x (ends rs))
  stands whole x rs e first = e
  stands whole x rs e (past s f rs₁ i) = behind_one s (spell f (ends rs₁)) (stands whole (one s f) rs₁ e i)
  stands whole x rs e (into r rs₁ i) = behind_one r.opening (spell r.body (ends (r ∷ rs₁))) (stands whole (loop_of r) rs₁ e i)
  stands whole x rs e (behind r rs₁ i) =
      behind_nest (loop r.opening r.body r.passes r.closing done) (spell r.after (ends rs₁)) (stands whole (loop_of r) rs₁ e i)

-- the commands in front of some, counted
record Front (all rest : List Step) (n : ℕ) : Type 0 where
  steps : List Step
  same : steps ++ rest ≡ all
  counted : levels steps 0 ≡ Some n

grown : (all added rest : List Step) (n m : ℕ) → levels added n ≡ Some m → Front all (added ++ rest) n → Front all rest m
grown all added rest n m e f =
    record {
      steps = f.steps ++ added;
      same = append_assoc f.steps added rest ∙ f.same;
      counted = levels_append f.steps added 0 ∙ rw f.counted e;
    }

spell_append : (f : Nest) (a b : List Step) → spell f a ++ b ≡ spell f (a ++ b)
spell_append done a b = refl
spell_append (one s f) a b = ap (◌∷◌ s) (spell_append f a b)
spell_append (loop g inner n end f) a b =
    ap (◌∷◌ g) (spell_append inner (end ∷ spell f a) b ∙ ap (λ u. spell inner (end ∷ u)) (spell_append f a b))

in_front :
    (whole x : Nest) (rs : List Round) → Inside whole x rs → Proper whole → depth whole ≤ 4 →
    Front (spell whole []) (spell x (ends rs)) (length rs)
unfolding levels
in_front whole x rs first p h = record { steps = []; same = refl; counted = refl }
in_front whole x rs (past s f rs₁ i) p h =
    let q = proper_inside whole (one s f) rs₁ i p in
    grown (spell whole []) (s ∷ []) (spell f (ends rs₁)) (length rs₁) (length rs₁) (level_plain (length rs₁) s [] q.0)
    (in_front whole (one s f) rs₁ i p h)
in_front whole x rs (into r rs₁ i) p h =
    let q = proper_inside whole (loop_of r) rs₁ i p in
    let k = shallow_inside whole (loop_of r) rs₁ i h in
    grown (spell whole []) (r.opening ∷ []) (spell r.body (ends (r ∷ rs₁))) (length rs₁) (length (r ∷ rs₁))
    (level_open (length rs₁) r.opening [] q.0 (omega arith) ∙ ap Some (omega arith))
    (in_front whole (loop_of r) rs₁ i p h)
in_front whole x rs (behind r rs₁ i) p h =
    let q = proper_inside whole (loop_of r) rs₁ i p in
    let k = shallow_inside whole (loop_of r) rs₁ i h in
    let alone = loop r.opening r.body r.passes r.closing done in
    let more = spell r.after (ends rs₁) in
    grown (spell whole []) (spell alone []) more (length rs₁) (length rs₁)
    (level_spell alone [] (length rs₁) (q.0, q.1, q.2, tt) (omega arith))
    (rw (spell_append alone [] more) (in_front whole (loop_of r) rs₁ i p h))

-- a G: the innermost loop round it is the one that it closes, and the run goes back behind that loop's g, or on
pub record Ending (t : List ℕ) (may : MayRun t) (s : Step) (n : ℕ) (rounds : List Round) : Type 0 where
  pub round : Round
  pub outer : List Round
  pub innermost : rounds ≡ round ∷ outer
  pub passes : round.passes ≡ n
  pub closes_it : round.closing ≡ s
  pub of_the_tree : Inside may.tree.nest (loop_of round) outer
  pub back : Place t may round.opening.next (round ∷ outer)
  pub out : Place t may s.next outer

-- a g: a loop more lies round what follows
pub record Beginning (t : List ℕ) (may : MayRun t) (s : Step) (rounds : List Round) : Type 0 where
  pub round : Round
  pub opens_it : round.opening ≡ s
  pub room : length rounds < 4
  pub place : Place t may s.next (round ∷ rounds)

-- behind a command, by what it is
abbrev pub After : (t : List ℕ) → MayRun t → Step → List Round → Part → Type 0
After t may s rounds plain = Place t may s.next rounds
After t may s rounds opens = Beginning t may s rounds
After t may s rounds (closes n) = Ending t may s n rounds

-- the next command at a place
pub record Next (t : List ℕ) (may : MayRun t) (at : ℕ) (rounds : List Round) : Type 0 where
  pub command : Command
  pub next : ℕ
  pub found : command_at t at ≡ Ok (Some (command, next))
  pub after : After t may (record { at = at; command = command; next = next }) rounds (part_of command)

module _ (t : List ℕ) (may : MayRun t) where
  whole_stands : Standing t (spell may.tree.nest [])
  whole_stands = standing t 0 (spell may.tree.nest []) (rw may.tree.spelt (an_accepted_text_is_tiled t may.steps may.reading))

  place_of : (x : Nest) (rs : List Round) (at : ℕ) → Inside may.tree.nest x rs → Tiled t at (spell x (ends rs)) (length t) → Place t may at rs
  place_of x rs at i e = record { rest = x; inside = i; here = sym (start_of_lem t at (spell x (ends rs)) e) }

  -- the text's start
  pub the_start : Place t may 0 []
  the_start = place_of may.tree.nest [] 0 first (rw may.tree.spelt (an_accepted_text_is_tiled t may.steps may.reading))

  next_in :
      (x : Nest) (rs : List Round) → Inside may.tree.nest x rs → start_of (spell x (ends rs)) (length t) < length t →
      Next t may (start_of (spell x (ends rs)) (length t)) rs
  next_in done [] i l = absurd (omega arith)
  next_in done (r ∷ rs) i l =
      let e = stands t may.tree.nest done (r ∷ rs) whole_stands i in
      let o = round_inside may.tree.nest done (r ∷ rs) i r rs refl in
      let p = proper_inside may.tree.nest (loop_of r) rs o may.tree.proper in
      let g = stands t may.tree.nest (loop_of r) rs whole_stands o in
      record {
        command = r.closing.command;
        next = r.closing.next;
        found = e.1;
        after =
            rw p.1
            record {
              round = r;
              outer = rs;
              innermost = refl;
              passes = refl;
              closes_it = refl;
              of_the_tree = o;
              back = place_of r.body (r ∷ rs) r.opening.next (into r rs o) g.2;
              out = place_of r.after rs r.closing.next (behind r rs o) e.2;
            };
      }
  next_in (one s f) rs i l =
      let e = stands t may.tree.nest (one s f) rs whole_stands i in
      let p = proper_inside may.tree.nest (one s f) rs i may.tree.proper in
      record {
        command = s.command;
        next = s.next;
        found = e.1;
        after = rw p.0 (place_of f rs s.next (past s f rs i) e.2);
      }
  next_in (loop g inner n end f) rs i l =
      let r : Round = record { opening = g; body = inner; passes = n; closing = end; after = f } in
      let e = stands t may.tree.nest (loop g inner n end f) rs whole_stands i in
      let p = proper_inside may.tree.nest (loop g inner n end f) rs i may.tree.proper in
      let k = shallow_inside may.tree.nest (loop g inner n end f) rs i may.tree.shallow in
      record {
        command = g.command;
        next = g.next;
        found = e.1;
        after = rw p.0 record { round = r; opens_it = refl; room = omega arith; place = place_of inner (r ∷ rs) g.next (into r rs i) e.2 };
      }

  pub a_place_has_a_next : (at : ℕ) (rounds : List Round) → Place t may at rounds → at < length t → Next t may at rounds
  a_place_has_a_next at rounds p l =
      subst (λ (n : ℕ). Next t may n rounds) (sym p.here) (next_in p.rest rounds p.inside (omega (arith, p.here)))

  pub a_place_lies_inside : (at : ℕ) (rounds : List Round) → Place t may at rounds → at ≤ length t
  a_place_lies_inside at rounds p =
      let steps = spell p.rest (ends rounds) in
      let h = forward t (start_of steps (length t)) steps (length t) (stands t may.tree.nest p.rest rounds whole_stands p.inside) in
      omega (arith, p.here)

  tiled_front : (from : ℕ) (a b : List Step) → Tiled t from (a ++ b) (length t) → Tiled t from a (start_of b (length t))
  tiled_front from [] b e = sym (start_of_lem t from b e)
  tiled_front from (s ∷ a) b e = (e.0, e.1, tiled_front s.next a b e.2)

  -- the tree, the check and the run agree: before a place with so many loops round it the check counts as many open
  pub the_commands_before_a_place_read : (at : ℕ) (rounds : List Round) → Place t may at rounds → Before t at (length rounds)
  the_commands_before_a_place_read at rounds p =
      let f = in_front may.tree.nest p.rest rounds p.inside may.tree.proper may.tree.shallow in
      let whole = an_accepted_text_is_tiled t may.steps may.reading in
      let steps : f.steps ++ spell p.rest (ends rounds) ≡ may.steps = f.same ∙ may.tree.spelt in
      record {
        steps = f.steps;
        reading = a_part_reads t f.steps at (rw p.here (tiled_front 0 f.steps (spell p.rest (ends rounds)) (rw steps whole)));
        counted = f.counted;
      }
