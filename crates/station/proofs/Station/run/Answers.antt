use Rattle.std.proofs.Common.{rules}
use Rattle.station.proofs.Serving.{runs}
use Rattle.station.proofs.Station.run.Goals as goal

ruleset laws = (rules, runs)

pub returns : goal.returns
returns c = search laws
