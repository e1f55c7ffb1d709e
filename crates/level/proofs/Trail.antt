-- The promises of a search are kept.
use mathlib.Core.Path.{◌≡◌, refl, sym, ap, subst, ◌∙◌}
use mathlib.Core.Bool.{true, false, false≢true}
use mathlib.Core.List.{List, [], ◌∷◌}
use Prim.Native.Nat.{ℕ, zero, suc, ◌+◌, max, ◌≤◌, ◌<◌}
use native.Mathlib.Omega.{arith}
use lib.Dec.{eqb}
use lib.ListN.{length, drop}
use Rattle.std.specs.Prelude.{if◌then◌else◌, Option}
use Rattle.basics.specs.Exactly.{Exactly}
use Rattle.basics.proofs.Choice.{by}
use Rattle.settings.specs.declared.Detection.{Detection}
use Rattle.settings.specs.Limits.{Detected}
use Rattle.settings.specs.Units.{ticks_for}
use Rattle.settings.proofs.Motion.{distance_gone_never_falls, distance_gone_is_at_most_the_distance, movement_arrives}
use Rattle.level.specs.declared.Search.{Search}
use Rattle.level.specs.declared.Finding.TheVariants.{TooMuch, Found, Missed, On}
use Rattle.level.specs.Level.{later_of, limit_of, gone_in, plunger_in, finding_of}
use Rattle.level.specs.Trail.{Through, begins, goes_on, is_far, LastFar, asked_by, MissedIn, Promises}
use Rattle.level.proofs.Way.{gone_at_most_p4}
use Rattle.level.proofs.Ends.{count_at, found_shows, found_by, missed_by, too_much_by}
use Rattle.level.proofs.Keeps.{the_plunger_stays_in_travel}

-- as many readings were far, one after the other, as the count says, and no more
abbrev Counted : Detection → ℕ → ℕ → List (Option ℕ) → Type 0
Counted d z count ps = (n : ℕ) → Exactly (n ≤ count) (LastFar d z n ps)

none_yet : (d : Detection) (z : ℕ) → Counted d z 0 []
none_yet d z zero = record { only = λ h. tt; always = λ h. omega arith }
none_yet d z (suc n) = record { only = λ h. absurd (omega arith); always = λ h. absurd h }

-- a far reading counts, any other ends the row
module _ (d : Detection) (z count : ℕ) (p : Option ℕ) (ps : List (Option ℕ)) (before : Counted d z count ps) where
  far_counts : is_far d z p ≡ true → Counted d z (count + 1) (p ∷ ps)
  far_counts e zero = record { only = λ h. tt; always = λ h. omega arith }
  far_counts e (suc n) = record { only = λ h. (e, (before n).only (omega arith)); always = λ h. omega (arith, (before n).always h.1) }

  near_ends : is_far d z p ≡ false → Counted d z 0 (p ∷ ps)
  near_ends e zero = record { only = λ h. tt; always = λ h. omega arith }
  near_ends e (suc n) = record { only = λ h. absurd (omega arith); always = λ h. absurd (false≢true (sym e ∙ h.0)) }

  counted_on : Counted d z (if is_far d z p then count + 1 else 0) (p ∷ ps)
  counted_on = by (λ (n : ℕ). Counted d z n (p ∷ ps)) (is_far d z p) far_counts near_ends

-- what holds of a search that has gone on through these readings
record Gone (d : Detection) (from z : ℕ) (ps : List (Option ℕ)) (s : Search) : Type 0 where
  began : s.from ≡ from
  zeroed : s.zero ≡ z
  ticks : s.ticks ≡ length ps
  counted : Counted d s.zero s.count ps

-- a search under way has not had the ticks that its way takes
soon : (d : Detection) (s : Search) → 1000 ≤ d.speed → (gone_in d s ≡ limit_of d s.from → ⊥) → s.ticks < ticks_for d.speed (limit_of d s.from)
unfolding gone_in
soon d s moving under_way =
    let limit = limit_of d s.from in
    let enough = ticks_for d.speed limit in
    let there = movement_arrives d.speed limit (omega arith) in
    let most = distance_gone_is_at_most_the_distance s.ticks d.speed limit in
    let late : enough ≤ s.ticks → ⊥ = λ h. under_way (omega (arith, distance_gone_never_falls enough s.ticks d.speed limit h)) in
    omega arith

module _ (d : Detection) (from z : ℕ) where
  gone : (ps : List (Option ℕ)) (s : Search) → Through d from z ps s → Gone d from z ps s
  gone x u begins = record { began = refl; zeroed = refl; ticks = refl; counted = none_yet d z }
  gone x u (goes_on p ps s t th e) =
      let g = gone ps s th in
      rw (found_shows d (later_of s) p (On t) e).next
      (record { began = g.began; zeroed = g.zeroed; ticks = omega (arith, g.ticks); counted = counted_on d s.zero s.count p ps g.counted })

  -- the count reaches as many as p1 asks for where as many were far
  asked : (p : Option ℕ) (ps : List (Option ℕ)) (s : Search) → Gone d from z ps s → Exactly (asked_by d ≤ count_at d (later_of s) p) (LastFar d z (asked_by d) (p ∷ ps))
  asked p ps s g =
      subst (λ (y : ℕ). Exactly (asked_by d ≤ count_at d (later_of s) p) (LastFar d y (asked_by d) (p ∷ ps))) g.zeroed
      (counted_on d s.zero s.count p ps g.counted (asked_by d))

  found : 1 ≤ d.duration → (p : Option ℕ) (ps : List (Option ℕ)) (s : Search) → Gone d from z ps s → Exactly (finding_of d (later_of s) p ≡ Found) (LastFar d z (asked_by d) (p ∷ ps))
  found some p ps s g =
      let far = asked p ps s g in
      record {
        only = λ e. far.only (omega (arith, found_shows d (later_of s) p Found e));
        always = λ l. found_by d (later_of s) p some (omega (arith, far.always l));
      }

  missed : (p : Option ℕ) (ps : List (Option ℕ)) (s : Search) → Gone d from z ps s → Exactly (finding_of d (later_of s) p ≡ Missed) (MissedIn d from z p ps s)
  missed p ps s g =
      let far = asked p ps s g in
      record {
        only = λ e.
            let m = found_shows d (later_of s) p Missed e in
            record { inside = m.inside; no_find = λ l. omega (arith, m.few, far.always l); no_way_left = m.arrived ∙ ap (limit_of d) g.began };
        always = λ m.
            let few : asked_by d ≤ count_at d (later_of s) p → ⊥ = λ h. m.no_find (far.only h) in
            missed_by d (later_of s) p (record { inside = m.inside; few = omega arith; arrived = m.no_way_left ∙ sym (ap (limit_of d) g.began) });
      }

  no_earlier : (ps : List (Option ℕ)) (s : Search) → Through d from z ps s → (i : ℕ) → i < length ps → LastFar d z (asked_by d) (drop i ps) → ⊥
  no_earlier x u begins i h l = omega arith
  no_earlier x u (goes_on p ps s t th e) zero h l = omega (arith, (found_shows d (later_of s) p (On t) e).few, (asked p ps s (gone ps s th)).always l)
  no_earlier x u (goes_on p ps s t th e) (suc i) h l = no_earlier ps s th i (omega arith) l

  ends : 1000 ≤ d.speed → (ps : List (Option ℕ)) (s : Search) → Through d from z ps s → length ps < max 1 (ticks_for d.speed (limit_of d from))
  ends moving x u begins = omega arith
  ends moving x u (goes_on p ps s t th e) =
      let g = gone ps s th in
      let h = subst (λ (f : ℕ). s.ticks + 1 < ticks_for d.speed (limit_of d f)) g.began (soon d (later_of s) moving (found_shows d (later_of s) p (On t) e).under_way) in
      omega (arith, g.ticks)

within_p4 : (d : Detection) (s : Search) → (plunger_in d s ≤ s.from + d.most) × (s.from ≤ plunger_in d s + d.most)
unfolding plunger_in
within_p4 d s =
    let most = gone_at_most_p4 d s in
    by (λ (p : ℕ). (p ≤ s.from + d.most) × (s.from ≤ p + d.most)) (eqb d.mode 1) (λ e. omega arith) (λ e. omega arith)

pub a_search_keeps_its_promises : (d : Detection) (from z : ℕ) → Detected d → Promises d from z
a_search_keeps_its_promises d from z ok =
    record {
      as_many_as_p1_asks_for = omega arith;
      and_no_fewer = λ n h. omega arith;
      a_find_means_that_the_last_readings_were_far = λ p ps s th. found d from z ok.duration.least p ps s (gone d from z ps s th);
      no_earlier_tick_had_that = no_earlier d from z;
      too_much_is_a_reading_outside = λ p ps s th. record { only = found_shows d (later_of s) p TooMuch; always = too_much_by d (later_of s) p };
      a_miss_is_the_end_of_the_way = λ p ps s th. missed d from z p ps s (gone d from z ps s th);
      every_search_ends = ends d from z ok.speed.least;
      a_tick_for_each_reading = λ ps s th. (gone d from z ps s th).ticks;
      it_began_there = λ ps s th. let g = gone d from z ps s th in (g.began, g.zeroed);
      never_further_than_p4 = λ s e. subst (λ (f : ℕ). (plunger_in d s ≤ f + d.most) × (f ≤ plunger_in d s + d.most)) e (within_p4 d s);
      nor_out_of_travel = λ s e h. the_plunger_stays_in_travel d s (omega arith);
    }
