use Rattle.std.proofs.Common.{rules, arith}
use Rattle.printing.proofs.Output.{too_long_a_run, ran}
use Rattle.printing.proofs.used.Goals as goal

ruleset laws = (rules, too_long_a_run)

pub returns-in-Ok : goal.returns-in-Ok
returns-in-Ok c =
    ran _ _ _ _ _ _ c.requires _ _ _ _ _ _ _ c.in-Ok.is (rw c.from.ensures at (c.number-one.ensures.short (omega arith))) c.put-two.ensures c.place.ensures

pub returns-in-Err : goal.returns-in-Err
returns-in-Err c = search laws
