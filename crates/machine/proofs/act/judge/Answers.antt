use Rattle.std.proofs.Common.{rules}
use Rattle.machine.proofs.Acting.{judged}
use Rattle.machine.proofs.act.judge.Goals as goal

pub returns : goal.returns
returns c = search (rules, judged)
