-- A search over all its readings: what a find means, when it ends, and how far the plunger goes.
use Rattle.std.specs.Prelude.{ℕ, zero, suc, ◌+◌, ◌*◌, ◌/◌, max, ◌≤◌, ◌<◌, ◌≡◌, Bool, true, false, List, [], ◌∷◌, length, drop, None, Option, Some}
use Rattle.basics.specs.Exactly.{Exactly}
use Rattle.settings.specs.declared.Detection.{Detection}
use Rattle.settings.specs.Units.{ticks_for}
use Rattle.level.specs.declared.Search.{Search}
use Rattle.level.specs.declared.Finding.TheVariants.{TooMuch, Found, Missed, On}
use Rattle.level.specs.Level.{begun, later_of, limit_of, gone_in, plunger_in, far, finding_of}

-- a search that began at a place, with z for the zero, and has gone on through these readings, the last one first
pub data Through (d : Detection) (from z : ℕ) : List (Option ℕ) → Search → Type 0 where
  begins : Through d from z [] (begun from z)
  goes_on : (p : Option ℕ) (ps : List (Option ℕ)) (s t : Search) → Through d from z ps s → finding_of d (later_of s) p ≡ On t → Through d from z (p ∷ ps) t

abbrev pub is_far : Detection → ℕ → Option ℕ → Bool
is_far d z None = false
is_far d z (Some r) = far d z r

-- the last n readings were all further than p0 from the zero, one after the other
abbrev pub LastFar : Detection → ℕ → ℕ → List (Option ℕ) → Type 0
LastFar d z zero ps = Unit {0}
LastFar d z (suc n) [] = ⊥
LastFar d z (suc n) (p ∷ ps) = (is_far d z p ≡ true) × LastFar d z n ps

-- as many as p1 asks for
abbrev pub asked_by : Detection → ℕ
asked_by d = (d.duration + 9) / 10

-- "p4 increments or the end of travel are reached in a tick without a find"
pub record MissedIn (d : Detection) (from z : ℕ) (p : Option ℕ) (ps : List (Option ℕ)) (s : Search) : Type 0 where
  pub inside : p ≡ None → ⊥
  pub no_find : LastFar d z (asked_by d) (p ∷ ps) → ⊥
  pub no_way_left : gone_in d (later_of s) ≡ limit_of d from

pub record Promises (d : Detection) (from z : ℕ) : Type 0 where
  -- ten times as many reach p1, and no fewer do
  pub as_many_as_p1_asks_for : d.duration ≤ 10 * asked_by d
  pub and_no_fewer : (n : ℕ) → n < asked_by d → 10 * n < d.duration
  -- each end of a search exactly when
  pub a_find_means_that_the_last_readings_were_far :
      (p : Option ℕ) (ps : List (Option ℕ)) (s : Search) → Through d from z ps s → Exactly (finding_of d (later_of s) p ≡ Found) (LastFar d z (asked_by d) (p ∷ ps))
  pub no_earlier_tick_had_that : (ps : List (Option ℕ)) (s : Search) → Through d from z ps s → (i : ℕ) → i < length ps → LastFar d z (asked_by d) (drop i ps) → ⊥
  pub too_much_is_a_reading_outside : (p : Option ℕ) (ps : List (Option ℕ)) (s : Search) → Through d from z ps s → Exactly (finding_of d (later_of s) p ≡ TooMuch) (p ≡ None)
  pub a_miss_is_the_end_of_the_way : (p : Option ℕ) (ps : List (Option ℕ)) (s : Search) → Through d from z ps s → Exactly (finding_of d (later_of s) p ≡ Missed) (MissedIn d from z p ps s)
  -- every search ends, whatever the readings: one that goes on has had fewer ticks than this
  pub every_search_ends : (ps : List (Option ℕ)) (s : Search) → Through d from z ps s → length ps < max 1 (ticks_for d.speed (limit_of d from))
  -- "In its k-th tick the plunger has gone" as far as k ticks at p3 take it
  pub a_tick_for_each_reading : (ps : List (Option ℕ)) (s : Search) → Through d from z ps s → s.ticks ≡ length ps
  pub it_began_there : (ps : List (Option ℕ)) (s : Search) → Through d from z ps s → (s.from ≡ from) × (s.zero ≡ z)
  -- the plunger never goes further than p4 from where the search began, nor out of travel
  pub never_further_than_p4 : (s : Search) → s.from ≡ from → (plunger_in d s ≤ from + d.most) × (from ≤ plunger_in d s + d.most)
  pub nor_out_of_travel : (s : Search) → s.from ≡ from → from ≤ 44000 → plunger_in d s ≤ 44000
