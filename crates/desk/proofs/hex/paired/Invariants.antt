-- what is left decides
use Rattle.std.proofs.Common.{◌≡◌, length}
use Rattle.desk.specs.Hex.{paired}
use Rattle.desk.proofs.hex.paired.Given as goal

abbrev pub invariant-loop-rest : goal.invariant-loop-rest
invariant-loop-rest l = paired l.rest ≡ paired l.t

abbrev pub decreases-loop-rest : goal.decreases-loop-rest
decreases-loop-rest l = length l.rest
