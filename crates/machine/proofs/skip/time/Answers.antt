use Rattle.std.proofs.Common.{◌∙◌}
use Rattle.machine.proofs.Skipping.{takes}
use Rattle.machine.proofs.skip.time.Goals as goal

pub returns : goal.returns
returns c = takes _ _ _ (c.from-way.ensures ∙ c.abs_diff.ensures) c.from-speed.ensures
