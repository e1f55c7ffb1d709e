use Rattle.std.proofs.Common.{rules}
use Rattle.station.proofs.Serving.{sends_on, refused}
use Rattle.station.proofs.Station.send.Goals as goal

ruleset laws = (rules, sends_on, refused)

pub returns-in-Ok : goal.returns-in-Ok
returns-in-Ok c = search laws

pub returns-in-Err : goal.returns-in-Err
returns-in-Err c = search laws
