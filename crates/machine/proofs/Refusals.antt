-- Theorems: each refusal is given exactly where 01's table says, and changes nothing but the last error.
use mathlib.Core.Path.{◌≡◌, refl, sym}
use mathlib.Core.Logic.{◌⊎◌, inl, inr}
use mathlib.Core.Bool.{Bool, true, false, true≢false, false≢true}
use mathlib.Core.List.{List, [], ◌++◌}
use Prim.Native.Nat.{ℕ, ◌≤◌, ◌<◌}
use native.Mathlib.Omega.{arith}
use borrow.Author.Tests.{ltb-true, ltb-false, lt-ltb, le-ltb}
use lib.Dec.{ltb}
use lib.ListN.{length, take}
use Rattle.std.specs.Prelude.{if◌then◌else◌, Err, Ok}
use Rattle.command.specs.Verdict.{Verdict}
use Rattle.basics.specs.Exactly.{Exactly}
use Rattle.command.specs.declared.refusal.Refusal.{Refusal}
use Rattle.command.specs.declared.refusal.Refusal.TheVariants as R
use Rattle.command.specs.Numbers.{refusal_number, verdict_number}
use Rattle.text.specs.Text.{Reading, reads, wrong, read_of}
use Rattle.text.specs.Loops.{loops_ok, loops_in}
use Rattle.text.proofs.Trees.{every_tree_is_accepted, what_is_accepted_is_a_tree}
use Rattle.buffer.specs.declared.course.Column.{Column}
use Rattle.buffer.specs.declared.course.Column.TheVariants as K
use Rattle.buffer.specs.declared.order.Action.{Action}
use Rattle.buffer.specs.declared.order.Action.TheVariants as A
use Rattle.buffer.specs.declared.order.Loading.{Loading}
use Rattle.buffer.specs.declared.order.Change.{Change}
use Rattle.buffer.specs.declared.order.Change.TheVariants.{Begin, Resume, EndDelay, Repeat, Erase, Halt, Reset}
use Rattle.buffer.specs.declared.order.Order.{Order}
use Rattle.buffer.specs.declared.order.Order.TheVariants as O
use Rattle.buffer.specs.Course.{column_of}
use Rattle.buffer.specs.Order.{cell_of, kept_of, length_by, loops_by, sized, verdict_of, stored_by}
use Rattle.machine.specs.declared.Device.{Device}
use Rattle.machine.specs.Act.{core_error, acted_of, acted, act_of}
use Rattle.machine.specs.Refusals.{stored_in, verdict_for, number_for, NothingToRun, run_empty, run_done, again_empty, again_stored, again_stopped, again_delaying, Busy, store, store_delaying, clear, clear_delaying, launch, run, again, TooMuch, busy, long, Treeless, Tree, WrongLoops}

-- "a refusal changes nothing but the last error"
module _ (a : Action) (added : List ℕ) (d : Device) (why : Refusal) (refused : verdict_for a added d ≡ Err why) where
  pub a_refusal_sets_the_error_only : (act_of a added d).next ≡ acted d.text d.tip (core_error (refusal_number why) 0 d.core) (Err why)
  unfolding act_of acted_of stored_by
  a_refusal_sets_the_error_only = rw refused

  pub a_refusal_adds_no_event : (act_of a added d).events ≡ []
  unfolding act_of acted_of
  a_refusal_adds_no_event = rw refused

-- a cell of the table
data Cell (a : Action) (k : Column) : Order → Type 0 where
  none : NothingToRun a k → Cell a k (O.Refuse R.NothingToRun)
  full : Busy a k → Cell a k (O.Refuse R.Busy)
  loads : (l : Loading) (run : Bool) → Cell a k (O.Load l run)
  changes : (c : Change) → Cell a k (O.Change c)

cell : (a : Action) (k : Column) → Cell a k (cell_of a k)
unfolding cell_of
cell A.Store K.Empty = loads _ _
cell A.Store K.Stored = loads _ _
cell A.Store K.Busy = full store
cell A.Store K.Delaying = full store_delaying
cell A.Store K.Stopped = loads _ _
cell A.Store K.Done = loads _ _
cell A.Launch K.Empty = loads _ _
cell A.Launch K.Stored = loads _ _
cell A.Launch K.Busy = full launch
cell A.Launch K.Delaying = loads _ _
cell A.Launch K.Stopped = loads _ _
cell A.Launch K.Done = loads _ _
cell A.Run K.Empty = none run_empty
cell A.Run K.Stored = changes _
cell A.Run K.Busy = full run
cell A.Run K.Delaying = changes _
cell A.Run K.Stopped = changes _
cell A.Run K.Done = none run_done
cell A.Again K.Empty = none again_empty
cell A.Again K.Stored = none again_stored
cell A.Again K.Busy = full again
cell A.Again K.Delaying = none again_delaying
cell A.Again K.Stopped = none again_stopped
cell A.Again K.Done = changes _
cell A.Clear K.Empty = changes _
cell A.Clear K.Stored = changes _
cell A.Clear K.Busy = full clear
cell A.Clear K.Delaying = full clear_delaying
cell A.Clear K.Stopped = changes _
cell A.Clear K.Done = changes _
cell A.Stop k = changes _
cell A.Reset k = changes _

-- what is answered, with the reason: the cell, then the length, then the loops
data Told (a : Action) (k : Column) (o : Order) (stored added : List ℕ) : Verdict → Type 0 where
  nothing : NothingToRun a k → Told a k o stored added (Err R.NothingToRun)
  at_work : Busy a k → Told a k o stored added (Err R.Busy)
  too_long : 256 < length_by o (length stored) (length added) → Told a k o stored added (Err R.TooLong)
  loops : length_by o (length stored) (length added) ≤ 256 → loops_by o stored added ≡ false → Told a k o stored added (Err R.Loops)
  fine : length_by o (length stored) (length added) ≤ 256 → loops_by o stored added ≡ true → Told a k o stored added (Ok tt)

module _ (a : Action) (k : Column) (stored added : List ℕ) where
  told_loops : (o : Order) (b : Bool) → loops_by o stored added ≡ b → length_by o (length stored) (length added) ≤ 256 → Told a k o stored added (if b then Ok tt else Err R.Loops)
  told_loops o true e h = fine h e
  told_loops o false e h = loops h e

  told_sized : (o : Order) → Told a k o stored added (sized (length_by o (length stored) (length added)) (loops_by o stored added))
  unfolding sized
  told_sized o = go (ltb 256 (length_by o (length stored) (length added))) refl
    where
      go : (x : Bool) → ltb 256 (length_by o (length stored) (length added)) ≡ x → Told a k o stored added (if x then Err R.TooLong else if loops_by o stored added then Ok tt else Err R.Loops)
      go true q = too_long (ltb-true 256 _ q)
      go false q = told_loops o (loops_by o stored added) refl (ltb-false 256 _ q)

  told : (o : Order) → Cell a k o → Told a k o stored added (verdict_of o stored added)
  unfolding verdict_of
  told o (none h) = nothing h
  told o (full h) = at_work h
  told o (loads l runs) = told_sized (O.Load l runs)
  told o (changes c) = told_loops (O.Change c) (loops_by (O.Change c) stored added) refl (omega arith)

  -- a number only with its reason
  module _ (o : Order) where
    only_14 : (v : Verdict) → Told a k o stored added v → verdict_number v ≡ 14 → NothingToRun a k
    only_14 v (nothing h) e = h
    only_14 v (at_work h) e = absurd (omega arith)
    only_14 v (too_long h) e = absurd (omega arith)
    only_14 v (loops h w) e = absurd (omega arith)
    only_14 v (fine h w) e = absurd (omega arith)

    only_15 : (v : Verdict) → Told a k o stored added v → verdict_number v ≡ 15 → Busy a k ⊎ (256 < length_by o (length stored) (length added))
    only_15 v (nothing h) e = absurd (omega arith)
    only_15 v (at_work h) e = inl h
    only_15 v (too_long h) e = inr h
    only_15 v (loops h w) e = absurd (omega arith)
    only_15 v (fine h w) e = absurd (omega arith)

    only_3 : (v : Verdict) → Told a k o stored added v → verdict_number v ≡ 3 → (length_by o (length stored) (length added) ≤ 256) × (loops_by o stored added ≡ false)
    only_3 v (nothing h) e = absurd (omega arith)
    only_3 v (at_work h) e = absurd (omega arith)
    only_3 v (too_long h) e = absurd (omega arith)
    only_3 v (loops h w) e = (h, w)
    only_3 v (fine h w) e = absurd (omega arith)

    only_0 : (v : Verdict) → Told a k o stored added v → v ≡ Ok tt → (length_by o (length stored) (length added) ≤ 256) × (loops_by o stored added ≡ true)
    only_0 v (nothing h) e = let z : ◌≡◌ {A = ℕ} 0 1 = cc in absurd (omega arith)
    only_0 v (at_work h) e = let z : ◌≡◌ {A = ℕ} 0 1 = cc in absurd (omega arith)
    only_0 v (too_long h) e = let z : ◌≡◌ {A = ℕ} 0 1 = cc in absurd (omega arith)
    only_0 v (loops h w) e = let z : ◌≡◌ {A = ℕ} 0 1 = cc in absurd (omega arith)
    only_0 v (fine h w) e = (h, w)

    known : (v : Verdict) → Told a k o stored added v → (verdict_number v ≡ 0) ⊎ (verdict_number v ≡ 3) ⊎ (verdict_number v ≡ 14) ⊎ (verdict_number v ≡ 15)
    known v (nothing h) = inr (inr (inl refl))
    known v (at_work h) = inr (inr (inr refl))
    known v (too_long h) = inr (inr (inr refl))
    known v (loops h w) = inr (inl refl)
    known v (fine h w) = inl refl

  -- and always with it
  long_always : (o : Order) → 256 < length_by o (length stored) (length added) → verdict_of o stored added ≡ Err R.TooLong
  unfolding verdict_of sized
  long_always (O.Refuse why) h = absurd (omega arith)
  long_always (O.Load l runs) h = rw (lt-ltb 256 _ h)
  long_always (O.Change c) h = absurd (omega arith)

  wrong_always : (o : Order) → length_by o (length stored) (length added) ≤ 256 → loops_by o stored added ≡ false → verdict_of o stored added ≡ Err R.Loops
  unfolding verdict_of sized loops_by
  wrong_always (O.Refuse why) h e = absurd (false≢true (sym e))
  wrong_always (O.Load l runs) h e = rw (le-ltb 256 _ h, e)
  wrong_always (O.Change c) h e = rw e

nothing_always : (a : Action) (k : Column) (stored added : List ℕ) → NothingToRun a k → verdict_of (cell_of a k) stored added ≡ Err R.NothingToRun
unfolding cell_of verdict_of
nothing_always a k stored added run_empty = refl
nothing_always a k stored added run_done = refl
nothing_always a k stored added again_empty = refl
nothing_always a k stored added again_stored = refl
nothing_always a k stored added again_stopped = refl
nothing_always a k stored added again_delaying = refl

busy_always : (a : Action) (k : Column) (stored added : List ℕ) → Busy a k → verdict_of (cell_of a k) stored added ≡ Err R.Busy
unfolding cell_of verdict_of
busy_always a k stored added store = refl
busy_always a k stored added store_delaying = refl
busy_always a k stored added clear = refl
busy_always a k stored added clear_delaying = refl
busy_always a k stored added launch = refl
busy_always a k stored added run = refl
busy_always a k stored added again = refl

-- loops are wrong exactly without a tree
no_tree : {A : Type 0} (t : Bool) → (t ≡ true → A) → (A → t ≡ true) → Exactly (t ≡ false) (A → ⊥)
no_tree true there back = record { only = λ e h. true≢false e; always = λ h. absurd (h (there refl)) }
no_tree false there back = record { only = λ e h. false≢true (back h); always = λ h. refl }

loops_without_a_tree : (x y : Reading) → Exactly (loops_in x y ≡ false) (Tree x y → ⊥)
loops_without_a_tree (reads a) (reads b) = no_tree (loops_ok (a ++ b)) (what_is_accepted_is_a_tree (a ++ b)) (every_tree_is_accepted (a ++ b))
loops_without_a_tree (reads a) (wrong r) = record { only = λ e h. h; always = λ h. refl }
loops_without_a_tree (wrong r) y = record { only = λ e h. h; always = λ h. refl }

never : Exactly (true ≡ false) ⊥
never = record { only = λ e. true≢false e; always = λ h. absurd h }

wrong_without_a_tree : (o : Order) (stored added : List ℕ) → Exactly (loops_by o stored added ≡ false) (Treeless o stored added)
unfolding loops_by
wrong_without_a_tree (O.Load loading true) stored added = loops_without_a_tree (read_of (take (kept_of loading (length stored)) stored)) (read_of added)
wrong_without_a_tree (O.Load loading false) stored added = never
wrong_without_a_tree (O.Change Begin) stored added = loops_without_a_tree (read_of stored) (read_of [])
wrong_without_a_tree (O.Change Resume) stored added = never
wrong_without_a_tree (O.Change EndDelay) stored added = never
wrong_without_a_tree (O.Change Repeat) stored added = never
wrong_without_a_tree (O.Change Erase) stored added = never
wrong_without_a_tree (O.Change Halt) stored added = never
wrong_without_a_tree (O.Change Reset) stored added = never
wrong_without_a_tree (O.Refuse why) stored added = never

-- "14", "15" and "3", each exactly where the table says
module _ (a : Action) (added : List ℕ) (d : Device) where
  abbrev column : Column
  column = column_of d.core.course.state

  answered : Told a column (cell_of a column) (stored_in d) added (verdict_for a added d)
  answered = told a column (stored_in d) added (cell_of a column) (cell a column)

  treeless : Exactly (loops_by (cell_of a column) (stored_in d) added ≡ false) (Treeless (cell_of a column) (stored_in d) added)
  treeless = wrong_without_a_tree (cell_of a column) (stored_in d) added

  pub nothing_to_run_is_14 : Exactly (number_for a added d ≡ 14) (NothingToRun a column)
  nothing_to_run_is_14 =
      record {
        only = only_14 a column (stored_in d) added (cell_of a column) (verdict_for a added d) answered;
        always = λ h. rw (nothing_always a column (stored_in d) added h);
      }

  pub busy_or_too_long_is_15 : Exactly (number_for a added d ≡ 15) (TooMuch a d.core.course.state (stored_in d) added)
  busy_or_too_long_is_15 = record { only = λ e. only (only_15 a column (stored_in d) added (cell_of a column) (verdict_for a added d) answered e); always = always }
    where
      only : Busy a column ⊎ (256 < length_by (cell_of a column) (length (stored_in d)) (length added)) → TooMuch a d.core.course.state (stored_in d) added
      only (inl h) = busy h
      only (inr h) = long h

      always : TooMuch a d.core.course.state (stored_in d) added → number_for a added d ≡ 15
      always (busy h) = rw (busy_always a column (stored_in d) added h)
      always (long h) = rw (long_always a column (stored_in d) added (cell_of a column) h)

  pub wrong_loops_are_3 : Exactly (number_for a added d ≡ 3) (WrongLoops a d.core.course.state (stored_in d) added)
  wrong_loops_are_3 =
      record {
        only = λ e. let w = only_3 a column (stored_in d) added (cell_of a column) (verdict_for a added d) answered e in record { fits = w.0; wrong = treeless.only w.1 };
        always = λ w. rw (wrong_always a column (stored_in d) added (cell_of a column) w.fits (treeless.always w.wrong));
      }

  -- and what is accepted fits, and its loops are right
  pub what_is_accepted_fits : verdict_for a added d ≡ Ok tt → length_by (cell_of a column) (length (stored_in d)) (length added) ≤ 256
  what_is_accepted_fits e = (only_0 a column (stored_in d) added (cell_of a column) (verdict_for a added d) answered e).0

  pub what_is_accepted_loops : verdict_for a added d ≡ Ok tt → loops_by (cell_of a column) (stored_in d) added ≡ true
  what_is_accepted_loops e = (only_0 a column (stored_in d) added (cell_of a column) (verdict_for a added d) answered e).1

  -- and there is no other refusal
  pub no_other_refusal : (number_for a added d ≡ 0) ⊎ (number_for a added d ≡ 3) ⊎ (number_for a added d ≡ 14) ⊎ (number_for a added d ≡ 15)
  no_other_refusal = known a column (stored_in d) added (cell_of a column) (verdict_for a added d) answered
