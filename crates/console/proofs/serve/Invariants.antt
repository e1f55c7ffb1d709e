use Rattle.console.proofs.Program.{Served}
use Rattle.console.proofs.serve.Given as goal

abbrev pub invariant-loop-reads : goal.invariant-loop-reads
invariant-loop-reads g l =
    Served l.fn.desk (g.R.Read.remaining l.initial.input) (g.R.Read.remaining l.input) (g.W.Write.contents l.initial.output) (g.W.Write.contents l.output)
    l.memory.station l.memory.line l.reads
