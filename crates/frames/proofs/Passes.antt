-- Theorem: "G n gives n passes in all": a run of an accepted text without endless loops takes the commands of its tree, each loop's body n times, and no others.
use mathlib.Core.Path.{◌≡◌, refl, sym, ap, subst, ◌∙◌}
use mathlib.Core.List.{List, [], ◌∷◌, ◌++◌}
use Prim.Native.Nat.{ℕ, zero, suc, ◌+◌, ◌-◌, ◌≤◌, ◌<◌, max}
use native.Mathlib.Omega.{arith}
use borrow.Author.Tests.{lt-ltb, le-ltb, ne_eqb}
use lib.ListN.{length}
use Rattle.std.specs.Prelude.{None, Ok, Some}
use Rattle.text.specs.Text.{Step}
use Rattle.text.specs.Loops.{closes, part_of, Nest, done, one, loop, spell, Proper, depth}
use Rattle.text.specs.Inside.{MayRun, start_of}
use Rattle.text.proofs.Tiles.{Tiled, an_accepted_text_is_tiled}
use Rattle.buffer.specs.declared.course.Mark.{Mark}
use Rattle.buffer.specs.declared.course.Loops.{Loops}
use Rattle.buffer.specs.declared.course.Course.{Course}
use Rattle.buffer.specs.Course.{mark, loops_of, no_loops, pushed, popped, pass_of, reached, opened_of, closed_by, closed_of}
use Rattle.frames.specs.Passes.{passes, unrolled, Ending, Moves, ahead, enters, returns, leaves, went_by, Taken, none, step}

-- where the definitions of the run say a command leads, there it leads
pub a_run_moves_so : (s : Step) (c : Course) (at : ℕ) (m : Loops) → Moves s c.loops at m → went_by (part_of s.command) s.next c ≡ Ok (reached at m c)
unfolding opened_of closed_of closed_by
a_run_moves_so s c at m (ahead is) = rw is
a_run_moves_so s c at m (enters is h) = rw (is, lt-ltb c.loops.depth 4 h)
a_run_moves_so s c at m (returns n p is deep e) = rw (is, ne_eqb c.loops.depth 0 deep, e)
a_run_moves_so s c at m (leaves n is deep e) = rw (is, ne_eqb c.loops.depth 0 deep, e)

-- one stretch behind another
taken_then :
    (at : ℕ) (l : Loops) (xs : List Step) (by_it : ℕ) (m : Loops) (ys : List Step) (to : ℕ) (r : Loops) → Taken at l xs by_it m → Taken by_it m ys to r → Taken at l (xs ++ ys) to r
taken_then at l xs by_it m ys to r (none place loops) q = q
taken_then at l xs by_it m ys to r (step s loops next n others place last moves rest) q = step s l next n (others ++ ys) to r moves (taken_then next n others by_it m ys to r rest q)

-- marks that no open loop uses, as many as further loops may open
record Spare (k : ℕ) (l : Loops) : Type 0 where
  fourth : 1 ≤ k → l.fourth ≡ mark 0 0
  third : 2 ≤ k → l.third ≡ mark 0 0
  second : 3 ≤ k → l.second ≡ mark 0 0
  first : 4 ≤ k → l.first ≡ mark 0 0

fewer : (j k : ℕ) (l : Loops) → j ≤ k → Spare k l → Spare j l
fewer j k l h s = record { fourth = λ e. s.fourth (omega arith); third = λ e. s.third (omega arith); second = λ e. s.second (omega arith); first = λ e. s.first (omega arith) }

inside : (j k : ℕ) (m : Mark) (l : Loops) → j + 1 ≤ k → k ≤ 4 → Spare k l → Spare j (pushed m l)
inside j k m l h most s =
    record { fourth = λ e. s.third (omega arith); third = λ e. s.second (omega arith); second = λ e. s.first (omega arith); first = λ e. absurd (omega arith) }

-- a loop that is left is forgotten
left_again : (m : Mark) (l : Loops) → l.fourth ≡ mark 0 0 → popped (pushed m l) ≡ l
left_again m l free =
    let d : l.depth + 1 - 1 ≡ l.depth = omega arith in
    ap (λ (n : ℕ). loops_of n l.first l.second l.third (mark 0 0)) d ∙
    ap (λ (x : Mark). loops_of l.depth l.first l.second l.third x) (sym free)

-- the passes of a loop, its body being gone through as often as it is entered
module _
    (g end : Step) (inner : List Step) (n : ℕ) (l : Loops) (here behind : ℕ)
    (is : part_of end.command ≡ closes n) (back_to : g.next ≡ here) (on-to : end.next ≡ behind) (free : l.fourth ≡ mark 0 0)
    (through : (p : ℕ) → Taken here (pushed (mark g.next p) l) inner end.at (pushed (mark g.next p) l))
  where
    abbrev round : ℕ → Loops
    round p = pushed (mark g.next p) l

    again : (p : ℕ) → p + 1 < n → pass_of n p ≡ Some (p + 1)
    unfolding pass_of
    again p h = rw (ne_eqb n 0 (λ e. omega arith), lt-ltb (p + 1) n h)

    over : (p : ℕ) → p + 1 ≡ n → pass_of n p ≡ None
    unfolding pass_of
    over p h = rw (ne_eqb n 0 (λ e. omega arith), le-ltb (p + 1) n (omega arith))

    goes_back : (p : ℕ) → p + 1 < n → Taken end.at (round p) (end ∷ []) here (round (p + 1))
    goes_back p h =
        subst (λ (a : ℕ). Taken end.at (round p) (end ∷ []) a (round (p + 1))) back_to
        (step end (round p) g.next (round (p + 1)) [] g.next (round (p + 1)) (returns n (p + 1) is (λ e. omega arith) (again p h)) (none g.next (round (p + 1))))

    goes_on : (p : ℕ) → p + 1 ≡ n → Taken end.at (round p) (end ∷ []) behind l
    goes_on p h =
        subst (λ (a : ℕ). Taken end.at (round p) (end ∷ []) a l) on-to
        (subst (λ (r : Loops). Taken end.at (round p) (end ∷ []) end.next r) (left_again (mark g.next p) l free)
        (step end (round p) end.next (popped (round p)) [] end.next (popped (round p)) (leaves n is (λ e. omega arith) (over p h)) (none end.next (popped (round p)))))

    all_passes : (k p : ℕ) → p + k ≡ n → 0 < k → Taken here (round p) (passes k (inner ++ (end ∷ []))) behind l
    all_passes zero p e h = absurd (omega arith)
    all_passes (suc zero) p e h =
        taken_then here (round p) (inner ++ (end ∷ [])) behind l [] behind l
        (taken_then here (round p) inner end.at (round p) (end ∷ []) behind l (through p) (goes_on p (omega arith)))
        (none behind l)
    all_passes (suc (suc k)) p e h =
        taken_then here (round p) (inner ++ (end ∷ [])) here (round (p + 1)) (passes (suc k) (inner ++ (end ∷ []))) behind l
        (taken_then here (round p) inner end.at (round p) (end ∷ []) here (round (p + 1)) (through p) (goes_back p (omega arith)))
        (all_passes (suc k) (p + 1) (omega arith) (omega arith))

-- commands that stand one behind the other
abbrev Chained : List Step → ℕ → Type 0
Chained [] end = Unit {0}
Chained (s ∷ others) end = (s.next ≡ start_of others end) × Chained others end

chained_behind : (f : Nest) (more : List Step) (end : ℕ) → Chained (spell f more) end → Chained more end
chained_behind done more end c = c
chained_behind (one s f) more end c = chained_behind f more end c.1
chained_behind (loop g inner n close f) more end c = chained_behind f more end (chained_behind inner (close ∷ spell f more) end c.1).1

runs_through :
    (f : Nest) (more : List Step) (end : ℕ) (l : Loops) → Proper f → Ending f → Chained (spell f more) end → depth f + l.depth ≤ 4 → Spare (depth f) l →
    Taken (start_of (spell f more) end) l (unrolled f) (start_of more end) l
runs_through done more end l proper ending chain deep spare = none (start_of more end) l
runs_through (one s f) more end l proper ending chain deep spare =
    step s l s.next l (unrolled f) (start_of more end) l (ahead proper.0)
    (subst (λ (a : ℕ). Taken a l (unrolled f) (start_of more end) l) (sym chain.0) (runs_through f more end l proper.1 ending chain.1 deep spare))
runs_through (loop g inner n close f) more end l proper ending chain deep spare =
    let rest = close ∷ spell f more in
    let here = start_of (spell inner rest) end in
    let behind = start_of (spell f more) end in
    let closing = chained_behind inner rest end chain.1 in
    let through : (p : ℕ) → Taken here (pushed (mark g.next p) l) (unrolled inner) close.at (pushed (mark g.next p) l) =
    λ p.
    runs_through inner rest end (pushed (mark g.next p) l) proper.2 ending.1 chain.1 (omega (arith, deep))
    (inside (depth inner) (max (depth inner + 1) (depth f)) (mark g.next p) l (omega arith) (omega (arith, deep)) spare)
    in
    let rounds = all_passes g close (unrolled inner) n l here behind proper.1 chain.0 closing.0 (spare.fourth (omega arith)) through n 0 (omega arith) ending.0 in
    let after = runs_through f more end l proper.3 ending.2 closing.1 (omega (arith, deep)) (fewer (depth f) (max (depth inner + 1) (depth f)) l (omega arith) spare) in
    step g l g.next (pushed (mark g.next 0) l) (passes n (unrolled inner ++ (close ∷ [])) ++ unrolled f) (start_of more end) l (enters proper.0 (omega (arith, deep)))
    (subst (λ (a : ℕ). Taken a (pushed (mark g.next 0) l) (passes n (unrolled inner ++ (close ∷ [])) ++ unrolled f) (start_of more end) l) (sym chain.0)
    (taken_then here (pushed (mark g.next 0) l) (passes n (unrolled inner ++ (close ∷ []))) behind l (unrolled f) (start_of more end) l rounds after))

tiled_is_chained : (t : List ℕ) (from : ℕ) (steps : List Step) (to : ℕ) → Tiled t from steps to → (start_of steps to ≡ from) × Chained steps to
tiled_is_chained t from [] to w = (sym w, tt)
tiled_is_chained t from (s ∷ steps) to w = let (starts, chain) = tiled_is_chained t s.next steps to w.2 in (w.0, (sym starts, chain))

-- a run of the whole text, from its start to its end
pub a_run_takes_every_loop_as_often_as_its_G_says :
    (t : List ℕ) (may : MayRun t) → Ending may.tree.nest → Taken 0 no_loops (unrolled may.tree.nest) (length t) no_loops
a_run_takes_every_loop_as_often_as_its_G_says t may ending =
    let tree = may.tree in
    let (starts, chain) = tiled_is_chained t 0 may.steps (length t) (an_accepted_text_is_tiled t may.steps may.reading) in
    let first : start_of (spell tree.nest []) (length t) ≡ 0 = ap (λ (steps : List Step). start_of steps (length t)) tree.spelt ∙ starts in
    subst (λ (a : ℕ). Taken a no_loops (unrolled tree.nest) (length t) no_loops) first
    (runs_through tree.nest [] (length t) no_loops tree.proper ending (subst (λ (steps : List Step). Chained steps (length t)) (sym tree.spelt) chain) (omega (arith, tree.shallow))
    (record { fourth = λ e. refl; third = λ e. refl; second = λ e. refl; first = λ e. refl }))
