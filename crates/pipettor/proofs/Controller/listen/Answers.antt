use Rattle.std.proofs.Common.{rules}
use Rattle.pipettor.proofs.Listening.{is_listened}
use Rattle.pipettor.proofs.Returning.{listen_keeps}
use Rattle.pipettor.proofs.Controller.listen.Goals as goal

ruleset laws = (rules, is_listened, listen_keeps)

pub returns : goal.returns
returns c = search laws
