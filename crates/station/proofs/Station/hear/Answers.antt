use Rattle.std.proofs.Common.{rules}
use Rattle.station.proofs.Serving.{heard}
use Rattle.station.proofs.Station.hear.Goals as goal

ruleset laws = (rules, heard)

pub returns : goal.returns
returns c = search laws
