-- Theorems: what reports say in every state, and which numbers none of them has. 01, "Reports".
use mathlib.Core.Path.{◌≡◌, refl}
use mathlib.Core.Bool.{Bool, true, false, true≢false, ◌&&◌, ◌||◌}
use mathlib.Core.List.{List, [], ◌∷◌}
use Prim.Native.Nat.{ℕ}
use lib.Dec.{eqb, leb}
use Rattle.std.specs.Prelude.{if◌then◌else◌, None, Option, Some}
use Rattle.line.specs.declared.Report.{Report}
use Rattle.basics.proofs.Choice.{by}
use Rattle.settings.specs.declared.Settings.{Settings}
use Rattle.settings.specs.declared.Detection.{Detection}
use Rattle.level.specs.declared.Search.{Search}
use Rattle.motion.specs.declared.Travel.{Travel}
use Rattle.text.specs.declared.Question.TheVariants as Q
use Rattle.text.specs.declared.Data.TheVariants as D
use Rattle.text.specs.Data.{received_of}
use Rattle.line.specs.declared.Report.TheVariants.{Whole, Tenths}
use Rattle.motion.specs.declared.Body.{Body}
use Rattle.motion.specs.declared.Activity.TheVariants.{Initialising, Moving, Delaying, Approaching, Searching, Ejecting, Between}
use Rattle.buffer.specs.declared.course.State.{State}
use Rattle.buffer.specs.declared.course.State.TheVariants.{Empty, Stored, Running, Stopped, Done}
use Rattle.machine.specs.declared.Device.{Device}
use Rattle.machine.specs.Run.{ready_in, ready_of}
use Rattle.machine.specs.History.{moving}
use Rattle.reports.specs.Reports.{goal_in, busy_in, tip_in, setting_of, aspect_in, value_of, query_of, tell_of}
use Rattle.pipettor.specs.declared.address.Address.{Address}
use Rattle.pipettor.specs.Byte.{told_of}
use Rattle.frames.specs.Refused.{number_for, refusal_of}
use Rattle.frames.specs.Grammar.{is_among}

-- the numbers of 01's list for ?, and 02's 31 to 38
abbrev pub values : List ℕ
values = 0 ∷ 1 ∷ 3 ∷ 4 ∷ 6 ∷ 7 ∷ 8 ∷ 9 ∷ 10 ∷ 16 ∷ 17 ∷ 18 ∷ 19 ∷ 20 ∷ 29 ∷ 31 ∷ 32 ∷ 33 ∷ 34 ∷ 35 ∷ 36 ∷ 37 ∷ 38 ∷ 67 ∷ []

none_of : (t : Bool) (x others : Option Report) (m : Bool) → (m ≡ false → others ≡ None) → (t || m) ≡ false → (if t then x else others) ≡ None
none_of true x others m f h = absurd (true≢false h)
none_of false x others m f h = f h

later : (t m : Bool) → (t || m) ≡ false → m ≡ false
later true m h = absurd (true≢false h)
later false m h = h

no_setting : (n : ℕ) (s : Settings) (m : List ℕ) → is_among n (4 ∷ 6 ∷ 7 ∷ 8 ∷ 9 ∷ 10 ∷ 16 ∷ 17 ∷ 18 ∷ 19 ∷ 20 ∷ m) ≡ false → setting_of n s ≡ None
unfolding setting_of
no_setting n s m =
    none_of (eqb n 4) _ _ _
    (none_of (eqb n 6) _ _ _
    (none_of (eqb n 7) _ _ _
    (none_of (eqb n 8) _ _ _
    (none_of (eqb n 9) _ _ _
    (none_of (eqb n 10) _ _ _
    (none_of (eqb n 16) _ _ _
    (none_of (eqb n 17) _ _ _ (none_of (eqb n 18) _ _ _ (none_of (eqb n 19) _ _ _ (none_of (eqb n 20) _ _ _ (λ h. refl)))))))))))

behind_settings : (n : ℕ) (m : List ℕ) → is_among n (4 ∷ 6 ∷ 7 ∷ 8 ∷ 9 ∷ 10 ∷ 16 ∷ 17 ∷ 18 ∷ 19 ∷ 20 ∷ m) ≡ false → is_among n m ≡ false
behind_settings n m h =
    later (eqb n 20) _
    (later (eqb n 19) _
    (later (eqb n 18) _
    (later (eqb n 17) _
    (later (eqb n 16) _
    (later (eqb n 10) _ (later (eqb n 9) _ (later (eqb n 8) _ (later (eqb n 7) _ (later (eqb n 6) _ (later (eqb n 4) _ h))))))))))

no_aspect : (n : ℕ) (d : Detection) (m : List ℕ) → is_among n (32 ∷ 33 ∷ 34 ∷ 35 ∷ 36 ∷ 37 ∷ 38 ∷ m) ≡ false → aspect_in n d ≡ None
unfolding aspect_in
no_aspect n d m =
    none_of (eqb n 32) _ _ _
    (none_of (eqb n 33) _ _ _
    (none_of (eqb n 34) _ _ _
    (none_of (eqb n 35) _ _ _
    (none_of (eqb n 36) _ _ _
    (none_of (eqb n 37) _ _ _
    (none_of (eqb n 38) _ _ _ (λ h. refl)))))))

behind_aspects : (n : ℕ) (m : List ℕ) → is_among n (32 ∷ 33 ∷ 34 ∷ 35 ∷ 36 ∷ 37 ∷ 38 ∷ m) ≡ false → is_among n m ≡ false
behind_aspects n m h =
    later (eqb n 38) _ (later (eqb n 37) _ (later (eqb n 36) _ (later (eqb n 35) _ (later (eqb n 34) _ (later (eqb n 33) _ (later (eqb n 32) _ h))))))

no_value : (n : ℕ) (tip : Bool) (b : Body) (s : State) → is_among n values ≡ false → value_of n tip b s ≡ None
unfolding value_of
no_value n tip b s =
    none_of (eqb n 0) _ _ _
    (none_of (eqb n 1) _ _ _
    (none_of (eqb n 3) _ _ _
    (λ h.
    by (λ (t : Option Report). t ≡ None) (leb 4 n && leb n 20)
    (λ e. no_setting n b.settings behind h)
    (λ e.
    none_of (eqb n 29) _ _ _
    (none_of (eqb n 31) _ _ _
    (λ k.
    by (λ (t : Option Report). t ≡ None) (leb 32 n && leb n 38)
    (λ e. no_aspect n b.settings.detection (67 ∷ []) k)
    (λ e. none_of (eqb n 67) _ _ _ (λ q. refl) (behind_aspects n (67 ∷ []) k))))
    (behind_settings n behind h)))))
  where
    behind : List ℕ
    behind = 29 ∷ 31 ∷ 32 ∷ 33 ∷ 34 ∷ 35 ∷ 36 ∷ 37 ∷ 38 ∷ 67 ∷ []

no_query : (n error column : ℕ) → is_among n (0 ∷ 1 ∷ 2 ∷ []) ≡ false → query_of n error column ≡ None
unfolding query_of
no_query n error column = none_of (eqb n 0) _ _ _ (none_of (eqb n 1) _ _ _ (none_of (eqb n 2) _ _ _ (λ h. refl)))

module _ (a : Address) (d : Device) where
  -- "Others 3, Q's too."
  pub any_other_number_is_3 : (ds : List ℕ) (n : ℕ) → received_of ds ≡ D.Report (Q.Value n) → is_among n values ≡ false → refusal_of ds a d ≡ 3
  unfolding refusal_of number_for tell_of
  any_other_number_is_3 ds n e h = rw (e, no_value n d.tip d.core.body d.core.course.state h)

  -- 02, W-202: "Q2 reports the column"; "Q3 and above stay 3"
  pub any_other_number_of_Q_is_3 : (ds : List ℕ) (n : ℕ) → received_of ds ≡ D.Report (Q.Query n) → is_among n (0 ∷ 1 ∷ 2 ∷ []) ≡ false → refusal_of ds a d ≡ 3
  unfolding refusal_of number_for tell_of
  any_other_number_of_Q_is_3 ds n e h = rw (e, no_query n d.core.course.error d.core.course.misread h)

  pub Q2_tells_the_column : told_of (Q.Query 2) a d.tip d.core ≡ Some (Whole d.core.course.misread)
  unfolding tell_of query_of
  Q2_tells_the_column = refl

  -- "0 goal (the plunger when none pending)": whenever nothing moves
  pub the_goal_at_rest_is_the_plunger : moving d.core.course.state ≡ false → told_of (Q.Value 0) a d.tip d.core ≡ Some (Whole d.core.body.plunger)
  unfolding tell_of value_of goal_in
  the_goal_at_rest_is_the_plunger = go d.core.course.state
    where
      go : (s : State) → moving s ≡ false → Some (Whole (goal_in s d.core.body.plunger)) ≡ Some (Whole d.core.body.plunger)
      go (Running (Initialising t)) h = absurd (true≢false h)
      go (Running (Moving t)) h = absurd (true≢false h)
      go (Running (Delaying k)) h = refl
      go (Running (Approaching t z)) h = absurd (true≢false h)
      go (Running (Searching f)) h = absurd (true≢false h)
      go (Running Ejecting) h = refl
      go (Running Between) h = refl
      go Empty h = refl
      go Stored h = refl
      go Stopped h = refl
      go Done h = refl

  -- 02, W-203: "?31 reports the tip of the last tick"
  pub q31_tells_the_tip : told_of (Q.Value 31) a d.tip d.core ≡ Some (Whole (if d.tip then 1 else 0))
  unfolding tell_of value_of
  q31_tells_the_tip = go d.tip
    where
      go : (t : Bool) → Some (Whole (tip_in t)) ≡ Some (Whole (if t then 1 else 0))
      go true = refl
      go false = refl

  -- 02, W-206: p0 to p6 "reported by ?32 to ?38"
  abbrev told : ℕ → Option Report
  told n = told_of (Q.Value n) a d.tip d.core

  pub q32_to_q38_tell_p0_to_p6 :
      (let p = d.core.body.settings.detection in
      told 32 ∷ told 33 ∷ told 34 ∷ told 35 ∷ told 36 ∷ told 37 ∷ told 38 ∷ []
      ≡ Some (Whole p.threshold)
      ∷ Some (Whole p.duration)
      ∷ Some (Whole p.place)
      ∷ Some (Tenths p.speed)
      ∷ Some (Whole p.most)
      ∷ Some (Whole p.mode)
      ∷ Some (Whole p.interval)
      ∷ [])
  unfolding tell_of value_of aspect_in
  q32_to_q38_tell_p0_to_p6 = refl

  -- ?0 is p2 while B moves there
  pub the_goal_of_B_is_p2 : (t : Travel) (z : ℕ) → d.core.course.state ≡ Running (Approaching t z) → told 0 ≡ Some (Whole t.goal)
  unfolding tell_of value_of goal_in
  the_goal_of_B_is_p2 t z e = rw e

  -- and the plunger while it searches
  pub a_search_has_no_goal : (f : Search) → d.core.course.state ≡ Running (Searching f) → told 0 ≡ Some (Whole d.core.body.plunger)
  unfolding tell_of value_of goal_in
  a_search_has_no_goal f e = rw e

  -- "29 .. `0` or `1`: busy": wherever it isn't ready
  pub busy_is_not_ready : told_of (Q.Value 29) a d.tip d.core ≡ Some (Whole (if ready_of d.core then 0 else 1))
  unfolding tell_of value_of
  busy_is_not_ready = go d.core.course.state
    where
      go : (s : State) → Some (Whole (busy_in s)) ≡ Some (Whole (if ready_in s then 0 else 1))
      go (Running k) = refl
      go Empty = refl
      go Stored = refl
      go Stopped = refl
      go Done = refl
