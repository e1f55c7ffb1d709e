use Rattle.std.proofs.Common.{rules}
use Rattle.station.proofs.Serving.{tells}
use Rattle.station.proofs.Station.tell.Goals as goal

ruleset laws = (rules, tells)

pub returns : goal.returns
returns c = search laws
