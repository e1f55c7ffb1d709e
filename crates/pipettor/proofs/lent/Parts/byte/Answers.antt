use Rattle.std.proofs.Common.{rules}
use Rattle.pipettor.proofs.Returning.{short_returns}
use Rattle.pipettor.proofs.lent.Parts.byte.Goals as goal

pub returns-then-buf-lt32 : goal.returns-then-buf-lt32
returns-then-buf-lt32 c = search (rules, short_returns)
