use Rattle.std.proofs.Common.{rules}
use Rattle.machine.proofs.Leaping.{begins, is_ready, is_over, fits, falls, goes_on}
use Rattle.machine.proofs.step.run.Goals as goal

ruleset laws = (rules, begins, is_ready, is_over, fits, falls, goes_on)

pub loop-used-init : goal.loop-used-init
loop-used-init c = search laws

pub overflow_add-used : goal.overflow_add-used
overflow_add-used c = search laws

pub loop-used-smaller : goal.loop-used-smaller
loop-used-smaller c = search laws

pub loop-used-preserved : goal.loop-used-preserved
loop-used-preserved c = search laws

pub returns-else-not-ready : goal.returns-else-not-ready
returns-else-not-ready c = search laws

pub returns-after-loop-used : goal.returns-after-loop-used
returns-after-loop-used c = search laws
