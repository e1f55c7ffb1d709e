-- The loop ends: each line leaves less of the data.
use Rattle.std.proofs.Common.{◌-◌, length}
use Rattle.text_run.proofs.lines.Given as goal

abbrev pub decreases-loop-from : goal.decreases-loop-from
decreases-loop-from l = length l.initial.t - l.from
