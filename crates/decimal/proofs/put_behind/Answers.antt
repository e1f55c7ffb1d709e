use Rattle.std.proofs.Common.{rules, ◌≡◌, sym, ℕ, ◌+◌, ◌-◌, ◌<◌, List, length, set, arith}
use Rattle.basics.specs.Bytes.{point}
use Rattle.basics.specs.Lay.{over}
use Rattle.basics.proofs.Over.{over_none, over_front}
use Rattle.decimal.specs.Digits.{last_digits}
use Rattle.decimal.specs.Written.{behind}
use Rattle.decimal.proofs.Written.{behind_none, behind_some, size_some}
use Rattle.decimal.proofs.put_behind.Goals as goal

pointed :
    (d n at first : ℕ) (buf laid : List ℕ) → (d ≡ 0 → ⊥) → at < length buf → first ≡ at + 1 → laid ≡ over (last_digits d n) (first + d - d) buf →
    set laid at point ≡ over (behind d n) at buf
pointed d n at first buf laid some room f e =
    let back : first + d - d ≡ at + 1 = omega arith in
    rw (e, back, behind_some d n some) (over_front point (last_digits d n) at buf room)

pub returns-then-decimals-eq0 : goal.returns-then-decimals-eq0
returns-then-decimals-eq0 c = rw (behind_none _ c.args.n c.if-decimals-eq0.true) (sym (over_none _ _))

pub overflow_add-first-2 : goal.overflow_add-first-2
overflow_add-first-2 c = let size = size_some _ c.if-decimals-eq0.false in search rules

pub put_last-requires : goal.put_last-requires
put_last-requires c = let size = size_some _ c.if-decimals-eq0.false in (omega arith, omega arith)

pub bounds-buf-at : goal.bounds-buf-at
bounds-buf-at c = let size = size_some _ c.if-decimals-eq0.false in omega arith

pub returns : goal.returns
returns c = let size = size_some _ c.if-decimals-eq0.false in search (rules, pointed)
