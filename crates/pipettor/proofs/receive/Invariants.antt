use Rattle.pipettor.proofs.Listening.{Along}
use Rattle.pipettor.proofs.receive.Given as goal

abbrev pub invariant-loop-n : goal.invariant-loop-n
invariant-loop-n l = Along l.fn.start l.initial.frame l.bytes l.line l.frame l.n
