use Rattle.pipettor.specs.Valid.{Valid}
use Rattle.byte_run.proofs.hear.Given as goal

abbrev pub invariant-loop : goal.invariant-loop
invariant-loop l = Valid l.c

abbrev pub invariant-loop-b : goal.invariant-loop-b
invariant-loop-b l = Valid l.c
