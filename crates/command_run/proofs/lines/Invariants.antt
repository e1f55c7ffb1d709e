-- The loop ends: each line leaves less of the text.
use Rattle.std.proofs.Common.{◌-◌, length}
use Rattle.command_run.proofs.lines.Given as goal

abbrev pub decreases-loop-from : goal.decreases-loop-from
decreases-loop-from l = length l.t - l.from
