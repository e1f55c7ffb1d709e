use Rattle.std.proofs.Common.{rules}
use Rattle.settings.specs.declared.Quantity.TheVariants.{Home}
use Rattle.command.proofs.Within.{small_required}
use Rattle.command.proofs.form.Goals as goal

pub overflow_cast-result : goal.overflow_cast-result
overflow_cast-result c = search (rules, small_required Home)
