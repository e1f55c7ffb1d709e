use Rattle.pipettor.specs.Valid.{Valid}
use Rattle.ticks_run.proofs.runs.Given as goal

abbrev pub invariant-loop : goal.invariant-loop
invariant-loop l = Valid l.c
