use Rattle.std.proofs.Common.{rules}
use Rattle.station.proofs.Serving.{in_DT, in_OEM}
use Rattle.station.proofs.Station.frame.Goals as goal

ruleset laws = (rules, in_DT, in_OEM)

pub returns-in-Dt : goal.returns-in-Dt
returns-in-Dt c = search laws
