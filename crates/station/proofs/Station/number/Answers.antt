use Rattle.std.proofs.Common.{rules}
use Rattle.station.proofs.Serving.{numbered_ticks, numbered_run, numbered_lend, numbered_new, numbered_oem, numbered_tip, numbered_press, numbered_minus}
use Rattle.station.proofs.Station.number.Goals as goal

ruleset laws = (rules, numbered_ticks, numbered_run, numbered_lend, numbered_new, numbered_oem, numbered_tip, numbered_press, numbered_minus)

pub returns-in-Ticks : goal.returns-in-Ticks
returns-in-Ticks c = search laws

pub returns-in-Run : goal.returns-in-Run
returns-in-Run c = search laws

pub returns-in-Lend : goal.returns-in-Lend
returns-in-Lend c = search laws

pub returns-in-New : goal.returns-in-New
returns-in-New c = search laws

pub returns-in-Oem : goal.returns-in-Oem
returns-in-Oem c = search laws

pub returns-in-Tip : goal.returns-in-Tip
returns-in-Tip c = search laws

pub returns-in-Press : goal.returns-in-Press
returns-in-Press c = search laws

pub returns-in-Minus : goal.returns-in-Minus
returns-in-Minus c = search laws
