-- Laws of a run's place and its open loops: a run that is on its way stays so behind every command.
use mathlib.Core.Path.{◌≡◌, sym, subst, ◌∙◌}
use mathlib.Core.List.{List, [], ◌∷◌, ◌++◌}
use Prim.Native.Nat.{ℕ, ◌+◌, ◌≤◌, ◌<◌}
use native.Mathlib.Omega.{arith}
use lib.ListN.{length}
use Rattle.text.specs.Loops.{opens, closes, plain, part_of}
use Rattle.text.specs.Inside.{Round, Place}
use Rattle.text.proofs.Inside.{Next, Beginning, Ending, a_place_has_a_next}
use Rattle.buffer.specs.declared.course.Loops.{Loops}
use Rattle.buffer.specs.Course.{mark, pushed, popped, repeated}
use Rattle.machine.specs.OnCourse.{Marked, starts_of, OnWay, Ahead}

-- only as many starts count as loops are open
fewer : (rs : List Round) (ss : List ℕ) (s : ℕ) → length rs ≤ length ss → Marked rs (ss ++ s ∷ []) → Marked rs ss
fewer [] ss s h m = tt
fewer (r ∷ rs) [] s h m = absurd (omega arith)
fewer (r ∷ rs) (a ∷ ss) s h m = (m.0, fewer rs ss s (omega arith) m.1)

more : (rs : List Round) (ss : List ℕ) (s : ℕ) → Marked rs ss → Marked rs (ss ++ s ∷ [])
more [] ss s m = tt
more (r ∷ rs) [] s m = absurd m
more (r ∷ rs) (a ∷ ss) s m = (m.0, more rs ss s m.1)

pub ahead_of : (t : List ℕ) (at : ℕ) (l : Loops) → (a : Ahead t at l) → Next t a.way.may at a.way.rounds
ahead_of t at l a = a_place_has_a_next t a.way.may at a.way.rounds a.way.place a.left

-- a run goes on its way, over its next command
module _ (t : List ℕ) (at : ℕ) (l : Loops) (w : OnWay t at l) (n : Next t w.may at w.rounds) where
  -- one that is neither g nor G
  pub way_on : part_of n.command ≡ plain → OnWay t n.next l
  way_on e = record { may = w.may; rounds = w.rounds; place = rw e at n.after; deep = w.deep; marked = w.marked }

  -- a g
  module _ (o : part_of n.command ≡ opens) where
    begins : Beginning t w.may (record { at = at; command = n.command; next = n.next }) w.rounds
    begins = rw o at n.after

    pub way_room : l.depth < 4
    way_room = omega (arith, w.deep, begins.room)

    pub way_open : OnWay t n.next (pushed (mark n.next 0) l)
    way_open =
        record {
          may = w.may;
          rounds = begins.round ∷ w.rounds;
          place = begins.place;
          deep = omega (arith, w.deep);
          marked = (
            sym (rw begins.opens_it),
            fewer w.rounds (l.first.start ∷ l.second.start ∷ l.third.start ∷ []) l.fourth.start (omega (arith, begins.room)) w.marked,
          );
        }

  -- a G: back at the start of the innermost loop, or on behind it
  module _ (k : ℕ) (is : part_of n.command ≡ closes k) where
    pub way_ends : Ending t w.may (record { at = at; command = n.command; next = n.next }) k w.rounds
    way_ends = rw is at n.after

    marks : Marked (way_ends.round ∷ way_ends.outer) (starts_of l)
    marks = subst (λ (rs : List Round). Marked rs (starts_of l)) way_ends.innermost w.marked

    pub way_deep : l.depth ≡ length way_ends.outer + 1
    way_deep = subst (λ (rs : List Round). l.depth ≡ length rs) way_ends.innermost w.deep ∙ omega arith

    pub way_start : l.first.start ≡ way_ends.round.opening.next
    way_start = marks.0

    pub way_back : (p : ℕ) → OnWay t l.first.start (repeated p l)
    way_back p =
        record {
          may = w.may;
          rounds = way_ends.round ∷ way_ends.outer;
          place = subst (λ (i : ℕ). Place t w.may i (way_ends.round ∷ way_ends.outer)) (sym way_start) way_ends.back;
          deep = omega (arith, way_deep);
          marked = marks;
        }

    pub way_out : OnWay t n.next (popped l)
    way_out =
        record {
          may = w.may;
          rounds = way_ends.outer;
          place = way_ends.out;
          deep = omega (arith, way_deep);
          marked = more way_ends.outer (l.second.start ∷ l.third.start ∷ l.fourth.start ∷ []) 0 marks.1;
        }
