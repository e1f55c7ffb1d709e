use Rattle.std.proofs.Common.{rules}
use Rattle.settings.specs.declared.Quantity.TheVariants.{Compensation}
use Rattle.command.proofs.Within.{small}
use Rattle.command.proofs.compensation.Goals as goal

pub overflow_cast-result : goal.overflow_cast-result
overflow_cast-result c = search (rules, small Compensation)
