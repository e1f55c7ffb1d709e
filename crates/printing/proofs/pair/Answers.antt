use Rattle.printing.proofs.Output.{first_pair, next_pair}
use Rattle.printing.proofs.pair.Goals as goal
use Rattle.printing.proofs.pair.Goals.{then-first, else-first}

pub returns : goal.returns
returns c =
    elim c.if-first.branch [
      | then-first w ↦ first_pair _ _ _ c.high.ensures c.low.ensures _ _ _ c.requires _ _ w.if-first.true (rw (w.out-is, w.start-is) at c.put.ensures)
      | else-first w ↦
          next_pair _ _ _ c.high.ensures c.low.ensures _ _ _ c.requires _ _ _ _ w.if-first.false w.put-start.ensures (rw (w.out-is, w.start-is) at c.put.ensures)
    ]
