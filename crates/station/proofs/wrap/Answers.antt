use Rattle.std.proofs.Common.{rules}
use Rattle.station.proofs.Wrapping.{laid_out}
use Rattle.station.proofs.wrap.Goals as goal

ruleset laws = (rules, laid_out)

pub returns : goal.returns
returns c = search laws
