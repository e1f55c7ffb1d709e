use Rattle.std.proofs.Common.{rules}
use Rattle.machine.proofs.Skipping.{ready_to_step, few_ticks}
use Rattle.machine.proofs.step.Stepped.leap.Goals as goal

ruleset laws = (rules, ready_to_step, few_ticks)

pub next-requires : goal.next-requires
next-requires c = search laws

pub overflow_add-result : goal.overflow_add-result
overflow_add-result c = search laws
