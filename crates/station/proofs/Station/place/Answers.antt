use Rattle.std.proofs.Common.{rules}
use Rattle.station.proofs.Serving.{places}
use Rattle.station.proofs.Station.place.Goals as goal

ruleset laws = (rules, places)

pub returns : goal.returns
returns c = search laws
