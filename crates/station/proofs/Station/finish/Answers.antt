use Rattle.std.proofs.Common.{rules}
use Rattle.station.proofs.Serving.{finished}
use Rattle.station.proofs.Station.finish.Goals as goal

ruleset laws = (rules, finished)

pub returns : goal.returns
returns c = search laws
