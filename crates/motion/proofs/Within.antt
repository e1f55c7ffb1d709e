-- A target is within travel.
use mathlib.Core.Path.{◌≡◌, refl}
use mathlib.Core.Bool.{Bool, true, false}
use Prim.Native.Nat.{ℕ, ◌+◌, ◌-◌, ◌≤◌}
use native.Mathlib.Omega.{arith}
use borrow.Author.Tests.{ltb-false}
use lib.Dec.{ltb}
use Rattle.std.specs.Prelude.{if◌then◌else◌, None, Some}
use Rattle.command.specs.declared.Way.{Way}
use Rattle.command.specs.declared.Way.TheVariants.{To, Up, Down}
use Rattle.motion.specs.Motion.{within, target_of}

no_target : {A : Type 0} (e : ℕ) → None ≡ Some e → A
no_target e h = let z : ◌≡◌ {A = ℕ} 0 1 = cc in absurd (omega arith)

within_travel : (e exact : ℕ) → within e ≡ Some exact → exact ≤ 44000000000
unfolding within
within_travel e exact h = go (ltb 44000000000 e) refl h
  where
    go : (t : Bool) → ltb 44000000000 e ≡ t → (if t then None else Some e) ≡ Some exact → exact ≤ 44000000000
    go true q h = no_target exact h
    go false q h = let s : e ≡ exact = cc in omega (arith, ltb-false 44000000000 e q)

pub target_within : (way : Way) (by from exact : ℕ) → target_of way by from ≡ Some exact → exact ≤ 44000000000
unfolding target_of
target_within To by from exact h = within_travel by exact h
target_within Up by from exact h = within_travel (from + by) exact h
target_within Down by from exact h = go (ltb from by) h
  where
    go : (t : Bool) → (if t then None else within (from - by)) ≡ Some exact → exact ≤ 44000000000
    go true h = no_target exact h
    go false h = within_travel (from - by) exact h
