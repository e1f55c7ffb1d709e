use Rattle.std.proofs.Common.{arith}
use Rattle.printing.proofs.Output.{placed}
use Rattle.printing.proofs.place.Goals as goal

pub returns : goal.returns
returns c =
    placed _ _ _ _ _ _ _ _ _ _ _ _ _ c.requires (rw c.from.ensures at (c.number-one.ensures.short (omega arith))) c.put-two.ensures c.number-three.ensures.long c.last.ensures
