use Rattle.std.proofs.Common.{rules}
use Rattle.station.proofs.Serving.{answers_frame, answers_number, answers_stop, answers_bytes, answers_other}
use Rattle.station.proofs.Station.answer.Goals as goal

ruleset laws = (rules, answers_frame, answers_number, answers_stop, answers_bytes, answers_other)

pub returns-in-Send : goal.returns-in-Send
returns-in-Send c = search laws

pub returns-in-Number : goal.returns-in-Number
returns-in-Number c = search laws

pub returns-in-Stop : goal.returns-in-Stop
returns-in-Stop c = search laws

pub returns-in-Raw : goal.returns-in-Raw
returns-in-Raw c = search laws

pub returns-in-Wrong : goal.returns-in-Wrong
returns-in-Wrong c = search laws
