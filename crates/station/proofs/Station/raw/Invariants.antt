use Rattle.std.proofs.Common.{length}
use Rattle.station.proofs.Raw.{Hearing}
use Rattle.station.proofs.Station.raw.Given as goal

abbrev pub invariant-loop-rest : goal.invariant-loop-rest
invariant-loop-rest l = Hearing l.t l.initial.station l.fn.start l.initial.out l.station l.at l.rest l.out

abbrev pub decreases-loop-rest : goal.decreases-loop-rest
decreases-loop-rest l = length l.rest
