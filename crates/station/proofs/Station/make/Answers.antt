use Rattle.std.proofs.Common.{rules}
use Rattle.station.proofs.Serving.{makes, makes_none}
use Rattle.station.proofs.Station.make.Goals as goal

ruleset laws = (rules, makes, makes_none)

pub returns-in_default : goal.returns-in_default
returns-in_default c = search laws

pub returns : goal.returns
returns c = search laws
