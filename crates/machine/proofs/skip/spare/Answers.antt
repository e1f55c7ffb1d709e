use Rattle.std.proofs.Common.{arith}
use Rattle.machine.proofs.Skipping.{a_spare}
use Rattle.machine.proofs.skip.spare.Goals as goal

pub returns : goal.returns
returns c = a_spare _ c.requires _ _ _ c.time.ensures (omega (arith, c.min.ensures, c.from-2.ensures, c.saturating_sub-left.ensures, c.from.ensures))
