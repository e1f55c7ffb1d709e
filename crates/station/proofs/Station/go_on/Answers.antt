use Rattle.std.proofs.Common.{rules}
use Rattle.station.proofs.Serving.{goes_on}
use Rattle.station.proofs.Station.go_on.Goals as goal

ruleset laws = (rules, goes_on)

pub returns : goal.returns
returns c = search laws
