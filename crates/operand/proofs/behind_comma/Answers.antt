use mathlib.Core.Path.{◌≡◌}
use mathlib.Core.List.{List, ◌∷◌}
use Prim.Native.Nat.{ℕ, ◌+◌, ◌^◌, ◌<◌}
use native.Mathlib.Omega.{arith}
use mir.Val.{Fits}
use mir.Syntax.{w64}
use borrow.Author.Rules.{rules}
use lib.ListN.{length}
use Rattle.basics.proofs.Lists.{empty}
use Rattle.operand.specs.declared.Single.{Single}
use Rattle.operand.specs.declared.Number.TheVariants.{Absent}
use Rattle.operand.specs.Number.{single_of, behind_comma}
use Rattle.operand.specs.Steps.{comma_read, comma_of}
use Rattle.operand.proofs.Counting.{read_short}
use Rattle.operand.proofs.behind_comma.Goals as goal

none : (t : List ℕ) → length t ≡ 0 → ◌≡◌ {A = Single} (record { number = Absent; read = 0 }) (comma_of t)
unfolding behind_comma comma_read
none t h = rw (empty t h)

module _ (b : ℕ) (t u : List ℕ) (h : t ≡ b ∷ u) (s : Single) (e : s ≡ single_of u) where
  some : ◌≡◌ {A = Single} (record { number = s.number; read = 1 + s.read }) (comma_of t)
  unfolding behind_comma comma_read
  some = rw (h, e)

  room : length t < 2 ^ 64 → Fits w64 (1 + s.read)
  room l = let n : length t ≡ 1 + length u = rw h (omega arith) in rw e (omega (arith, read_short u))

ruleset laws = (rules, none, some, room)

pub returns-in_default : goal.returns-in_default
returns-in_default c = search laws

pub overflow_add-result : goal.overflow_add-result
overflow_add-result c = search laws

pub returns : goal.returns
returns c = search laws
