use mathlib.Core.Path.{◌≡◌}
use mathlib.Core.List.{List}
use Prim.Native.Nat.{ℕ}
use borrow.Author.Rules.{rules}
use lib.ListN.{length}
use Rattle.operand.specs.declared.Number.{Number}
use Rattle.operand.specs.declared.Single.{Single}
use Rattle.operand.specs.Number.{number_of, read_of, single_of}
use Rattle.operand.proofs.Counting.{a_number_is_read}
use Rattle.operand.proofs.only.Goals as goal

both : (t : List ℕ) (n : Number) (k : ℕ) → n ≡ number_of t → k ≡ read_of n (length t) → ◌≡◌ {A = Single} (record { number = n; read = k }) (single_of t)
both t n k e q = rw (e, rw (e, a_number_is_read t) at q)

ruleset laws = (rules, both)

pub returns : goal.returns
returns c = search laws
