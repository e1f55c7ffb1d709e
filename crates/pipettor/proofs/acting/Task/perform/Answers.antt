use Rattle.std.proofs.Common.{rules}
use Rattle.pipettor.proofs.Tasks.{leaves, notes, performs}
use Rattle.pipettor.proofs.acting.Task.perform.Goals as goal

ruleset laws = (rules, leaves, notes, performs)

pub returns-in-Leave : goal.returns-in-Leave
returns-in-Leave c = search laws

pub returns-in-Refuse : goal.returns-in-Refuse
returns-in-Refuse c = search laws

pub returns-in-Act : goal.returns-in-Act
returns-in-Act c = search laws
