use Rattle.std.proofs.Common.{refl}
use Rattle.printing.proofs.Output.{pairs_begin, pairs_end, pair_room, pairs_go_on}
use Rattle.printing.proofs.pairs.Goals as goal

pub loop-i-init : goal.loop-i-init
loop-i-init c = pairs_begin _ _ _

pub pair-end-requires : goal.pair-end-requires
pair-end-requires c = pair_room _ _ _ c.requires _ _ _ c.loop-i.invariant c.loop-i-test.true

pub loop-i-preserved : goal.loop-i-preserved
loop-i-preserved c = pairs_go_on _ _ _ c.requires _ _ _ c.loop-i.invariant c.loop-i-test.true _ _ _ refl c.pair-end.ensures

pub returns : goal.returns
returns c = pairs_end _ _ _ c.requires _ _ _ c.loop-i.invariant c.loop-i-test.false
