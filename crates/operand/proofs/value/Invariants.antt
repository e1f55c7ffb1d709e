-- What is read so far is what the digits before this one spell.
use mathlib.Core.List.{List}
use Prim.Native.Nat.{ℕ, ◌^◌, ◌≤◌, ◌<◌}
use mathlib.Core.Path.{◌≡◌}
use lib.ListN.{length, take}
use Rattle.basics.specs.Bytes.{value_of}
use Rattle.operand.proofs.value.Given as goal

pub record Read (t : List ℕ) (v i : ℕ) : Type 0 where
  pub within : i ≤ length t
  pub same : v ≡ value_of (take i t)
  pub small : v < 10 ^ i

abbrev pub invariant-loop-d : goal.invariant-loop-d
invariant-loop-d l = Read l.t l.v l.d-index
