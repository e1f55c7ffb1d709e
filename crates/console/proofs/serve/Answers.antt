use Rattle.std.proofs.Common.{arith, rules}
use Rattle.console.proofs.Program.{opens, where_ok, goes_on, ended_over, ended_unwritten, no_more_reads, whole_program}
use Rattle.console.proofs.serve.Goals as goal
use Rattle.console.proofs.serve.Goals.{then-over-via-then-over, then-over-via-else-over+then-not-wrote}

pub loop-reads-init : goal.loop-reads-init
loop-reads-init g c = opens _ _ _ _ _ c.new.ensures (search rules)

pub loop-reads-preserved : goal.loop-reads-preserved
loop-reads-preserved g c =
    goes_on _ _ _ _ _ _ _ _ _ _ _ _ _ _ _ c.loop-reads.invariant c.read_chunk-over.ensures _ (where_ok _ _ _ c.is_ok-wrote.ensures.value (rw c.as_slice.ensures at c.write_out.ensures)) c.if-over.false c.if-not-wrote.false

pub returns-then-over-clause-ended : goal.returns-then-over-clause-ended
returns-then-over-clause-ended g c =
    elim c.then-over.branch [
      | then-over-via-then-over w ↦
          ended_over _ _ _ _ _ _ _ _ _ _ _ _ _ _ _ c.loop-reads.invariant c.read_chunk-over.ensures _ (where_ok _ _ _ c.is_ok-wrote.ensures.value (rw c.as_slice.ensures at c.write_out.ensures)) w.if-over.true
      | then-over-via-else-over+then-not-wrote w ↦
          ended_unwritten _ _ _ _ _ _ _ _ _ _ _ _ _ _ _ c.loop-reads.invariant c.read_chunk-over.ensures _ (where_ok _ _ _ c.is_ok-wrote.ensures.value (rw c.as_slice.ensures at c.write_out.ensures))
          w.if-not-wrote.true
    ]

pub returns-then-over-clause-whole : goal.returns-then-over-clause-whole
returns-then-over-clause-whole g c = whole_program _ _ _ _ _ _ (returns-then-over-clause-ended g c)

pub returns-clause-ended : goal.returns-clause-ended
returns-clause-ended g c = no_more_reads _ _ _ _ _ _ _ _ c.loop-reads.invariant (omega arith)
