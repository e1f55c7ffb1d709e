use Rattle.std.proofs.Common.{rules}
use Rattle.station.proofs.Serving.{sensed_so}
use Rattle.station.proofs.Station.tip.Goals as goal

ruleset laws = (rules, sensed_so)

pub returns : goal.returns
returns c = rw (← c.self.view_is) (search laws)
