use Rattle.std.proofs.Common.{rules}
use Rattle.machine.proofs.Acting.{part_of_text, judged_fits}
use Rattle.machine.proofs.KeepsActs.{acts_again}
use Rattle.machine.proofs.step.Core.act.Goals as goal

pub returns : goal.returns
returns c = search (rules, part_of_text, judged_fits, acts_again)
