-- at most one pair alike for each seed
use Rattle.std.proofs.Common.{◌≤◌}
use Rattle.noise_run.proofs.count_alike.Given as goal

abbrev pub invariant-loop-seed : goal.invariant-loop-seed
invariant-loop-seed l = l.alike_so_far ≤ l.seed
