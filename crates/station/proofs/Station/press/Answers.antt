use Rattle.std.proofs.Common.{rules}
use Rattle.station.proofs.Serving.{pressed_so}
use Rattle.station.proofs.Station.press.Goals as goal

ruleset laws = (rules, pressed_so)

pub returns : goal.returns
returns c = rw (← c.self.view_is) (search laws)
