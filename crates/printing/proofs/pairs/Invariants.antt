use Rattle.printing.proofs.Output.{Pairing}
use Rattle.printing.proofs.pairs.Given as goal

abbrev pub invariant-loop-i : goal.invariant-loop-i
invariant-loop-i l = Pairing l.bytes l.at l.initial.out l.i l.end l.out
