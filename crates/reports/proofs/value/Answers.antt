use Rattle.std.proofs.Common.{arith}
use Rattle.reports.proofs.Telling.{rate_least}
use Rattle.reports.proofs.value.Goals as goal

pub volume-requires : goal.volume-requires
volume-requires c = (c.requires.plunger, omega (arith, rate_least c.args.b c.requires))
