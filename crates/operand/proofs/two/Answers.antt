use mathlib.Core.Path.{◌≡◌}
use mathlib.Core.List.{List}
use Prim.Native.Nat.{ℕ, ◌+◌, ◌-◌, ◌^◌, ◌<◌}
use native.Mathlib.Omega.{arith}
use mir.Val.{Fits}
use mir.Syntax.{w64}
use borrow.Author.Rules.{rules}
use lib.ListN.{length, take, drop}
use Rattle.operand.specs.declared.Class.TheVariants.{NoComma}
use Rattle.operand.specs.declared.Number.{Number}
use Rattle.operand.specs.declared.Single.{Single}
use Rattle.operand.specs.declared.Pair.{Pair}
use Rattle.operand.specs.Text.{run, rest}
use Rattle.operand.specs.Number.{number_of, read_of, read_in_two, pair_of}
use Rattle.operand.specs.Steps.{comma_of}
use Rattle.operand.proofs.Runs.{counted_run, front, behind, short, counted}
use Rattle.operand.proofs.Counting.{two_numbers_are_read, comma_read_short, rest_length}
use Rattle.operand.proofs.two.Goals as goal

module _ (k : ℕ) (t : List ℕ) (e : k ≡ length (run NoComma t)) (s : Single) (q : s ≡ comma_of (take (length t - k) (drop k t))) where
  both :
      (a : Number) (read : ℕ) → a ≡ number_of (take k t) → read ≡ read_of a (k + s.read) →
      ◌≡◌ {A = Pair} (record { first = a; second = s.number; read = read }) (pair_of t)
  unfolding pair_of
  both a read p r =
      let first : a ≡ number_of (run NoComma t) = rw (front NoComma k t e) at p in
      let second : s ≡ comma_of (rest NoComma t) = rw (behind NoComma k t e) at q in
      let far : read ≡ read_in_two t = rw (first, second, e, two_numbers_are_read t) at r in
      rw (first, second, far)

  room : length t < 2 ^ 64 → Fits w64 (k + s.read)
  room l = rw (q, behind NoComma k t e) (omega (arith, e, comma_read_short (rest NoComma t), rest_length NoComma t))

ruleset laws = (rules, short, counted, both, room)

pub slice_bounds-one-end : goal.slice_bounds-one-end
slice_bounds-one-end c = let e = counted_run NoComma c.args.t.now _ c.run_length-k.ensures in search (laws, e)

pub slice_bounds-behind_comma-count : goal.slice_bounds-behind_comma-count
slice_bounds-behind_comma-count c = let e = counted_run NoComma c.args.t.now _ c.run_length-k.ensures in search (laws, e)

pub slice_bounds-behind_comma-start : goal.slice_bounds-behind_comma-start
slice_bounds-behind_comma-start c = let e = counted_run NoComma c.args.t.now _ c.run_length-k.ensures in search (laws, e)

pub overflow_add-k : goal.overflow_add-k
overflow_add-k c = let e = counted_run NoComma c.args.t.now _ c.run_length-k.ensures in search (laws, e)

pub returns : goal.returns
returns c = let e = counted_run NoComma c.args.t.now _ c.run_length-k.ensures in search (laws, e)
