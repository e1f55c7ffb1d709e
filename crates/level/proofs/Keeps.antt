-- What holds of every search is kept by its ticks, and its plunger stays within travel.
use mathlib.Core.Path.{◌≡◌}
use Prim.Native.Nat.{ℕ, ◌+◌, min, ◌≤◌}
use native.Mathlib.Omega.{arith}
use borrow.Author.Tests.{eqb-false}
use lib.Dec.{eqb}
use Rattle.std.specs.Prelude.{Option}
use Rattle.basics.proofs.Choice.{by}
use Rattle.settings.specs.declared.Detection.{Detection}
use Rattle.settings.proofs.Motion.{under_way}
use Rattle.level.specs.declared.Search.{Search}
use Rattle.level.specs.declared.Finding.TheVariants.{On}
use Rattle.level.specs.Level.{begun, later_of, counted_of, left_of, limit_of, gone_in, plunger_in, finding_of, SearchOk}
use Rattle.level.specs.Trail.{is_far}
use Rattle.level.proofs.Way.{gone_up}
use Rattle.level.proofs.Ends.{count_at, found_shows}

pub a_search_that_begins : (from z : ℕ) → from ≤ 44000 → SearchOk (begun from z)
a_search_that_begins from z h = record { from = h; ticks = omega arith; count = omega arith }

short : (d : Detection) (from : ℕ) → from ≤ 44000 → limit_of d from ≤ 44000
unfolding limit_of left_of
short d from h = by (λ (left : ℕ). min d.most left ≤ 44000) (eqb d.mode 1) (λ e. omega arith) (λ e. omega arith)

slow_enough : (d : Detection) (s : Search) → 1000 ≤ d.speed → s.from ≤ 44000 → (gone_in d s ≡ limit_of d s.from → ⊥) → s.ticks ≤ 44000
unfolding gone_in
slow_enough d s slow h = under_way s.ticks d.speed (limit_of d s.from) slow (short d s.from h)

counted_ok : (d : Detection) (s : Search) (p : Option ℕ) → SearchOk s → s.ticks + 1 ≤ 44000 → SearchOk (counted_of (count_at d (later_of s) p) (later_of s))
counted_ok d s p ok h =
    let c = ok.count in
    record { from = ok.from; ticks = h; count = by (λ (n : ℕ). n ≤ s.ticks + 1) (is_far d s.zero p) (λ e. omega arith) (λ e. omega arith) }

pub a_search_that_goes_on : (d : Detection) (s t : Search) (p : Option ℕ) → 1000 ≤ d.speed → SearchOk s → finding_of d (later_of s) p ≡ On t → SearchOk t
a_search_that_goes_on d s t p slow ok e =
    let on = found_shows d (later_of s) p (On t) e in
    rw on.next (counted_ok d s p ok (slow_enough d (later_of s) slow ok.from on.under_way))

pub the_plunger_stays_in_travel : (d : Detection) (s : Search) → s.from ≤ 44000 → plunger_in d s ≤ 44000
unfolding plunger_in
the_plunger_stays_in_travel d s h =
    by (λ (p : ℕ). p ≤ 44000) (eqb d.mode 1) (λ e. omega arith) (λ e. gone_up d s (eqb-false d.mode 1 e) h)
