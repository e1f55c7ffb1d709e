-- What a tick shows by what it finds.
use mathlib.Core.Path.{◌≡◌, refl, subst}
use Prim.Native.Nat.{ℕ, ◌+◌, ◌*◌, ◌≤◌, ◌<◌}
use native.Mathlib.Omega.{arith}
use borrow.Author.Tests.{leb-true, leb-false, eqb-true, eqb-false}
use lib.Dec.{leb, eqb}
use Rattle.std.specs.Prelude.{if◌then◌else◌, None, Option, Some}
use Rattle.basics.proofs.Choice.{by}
use Rattle.basics.proofs.Rules.{tests}
use Rattle.settings.specs.declared.Detection.{Detection}
use Rattle.level.specs.declared.Search.{Search}
use Rattle.level.specs.declared.Finding.{Finding}
use Rattle.level.specs.declared.Finding.TheVariants.{TooMuch, Found, Missed, On}
use Rattle.level.specs.Level.{limit_of, gone_in, counted_of, count_with, counted_as, finding_of}
use Rattle.level.specs.Trail.{is_far}

-- the count after any reading
abbrev pub count_at : Detection → Search → Option ℕ → ℕ
count_at d s p = if is_far d s.zero p then s.count + 1 else 0

pub record NoWay (d : Detection) (s : Search) (p : Option ℕ) : Type 0 where
  pub inside : p ≡ None → ⊥
  pub few : 10 * count_at d s p < d.duration
  pub arrived : gone_in d s ≡ limit_of d s.from

pub record GoesOn (d : Detection) (s : Search) (p : Option ℕ) (t : Search) : Type 0 where
  pub few : 10 * count_at d s p < d.duration
  pub under_way : gone_in d s ≡ limit_of d s.from → ⊥
  pub next : t ≡ counted_of (count_at d s p) s

abbrev pub Shown : Detection → Search → Option ℕ → Finding → Type 0
Shown d s p TooMuch = p ≡ None
Shown d s p Found = d.duration ≤ 10 * count_at d s p
Shown d s p Missed = NoWay d s p
Shown d s p (On t) = GoesOn d s p t

counts_inside : (r : ℕ) → Some r ≡ None → ⊥
counts_inside r h = let z : ◌≡◌ {A = ℕ} 0 1 = cc in omega arith

shown : (d : Detection) (s : Search) (p : Option ℕ) → Shown d s p (finding_of d s p)
unfolding finding_of counted_as count_with
shown d s None = refl
shown d s (Some r) =
    let n = count_at d s (Some r) in
    by (Shown d s (Some r)) (leb d.duration (10 * n))
    (λ e. leb-true d.duration (10 * n) e)
    (λ e. by (Shown d s (Some r)) (eqb (gone_in d s) (limit_of d s.from))
    (λ f. record { inside = counts_inside r; few = leb-false d.duration (10 * n) e; arrived = eqb-true _ _ f })
    (λ f. record { few = leb-false d.duration (10 * n) e; under_way = eqb-false _ _ f; next = refl }))

pub found_shows : (d : Detection) (s : Search) (p : Option ℕ) (f : Finding) → finding_of d s p ≡ f → Shown d s p f
found_shows d s p f e = subst (Shown d s p) e (shown d s p)

-- and the other way round
pub found_by : (d : Detection) (s : Search) (p : Option ℕ) → 1 ≤ d.duration → d.duration ≤ 10 * count_at d s p → finding_of d s p ≡ Found
unfolding finding_of counted_as count_with
found_by d s None some h = absurd (omega arith)
found_by d s (Some r) some h = simp tests

pub missed_by : (d : Detection) (s : Search) (p : Option ℕ) → NoWay d s p → finding_of d s p ≡ Missed
unfolding finding_of counted_as count_with
missed_by d s None h = absurd (h.inside refl)
missed_by d s (Some r) h = simp (h.few, h.arrived, tests)

pub too_much_by : (d : Detection) (s : Search) (p : Option ℕ) → p ≡ None → finding_of d s p ≡ TooMuch
unfolding finding_of
too_much_by d s p h = rw h
