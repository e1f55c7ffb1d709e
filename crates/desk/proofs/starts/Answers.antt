use Rattle.std.proofs.Common.{◌∙◌}
use Rattle.desk.proofs.Lines.{begins_listed}
use Rattle.desk.proofs.starts.Goals as goal

pub returns : goal.returns
returns c = c.starts_with.ensures.value ∙ begins_listed c.args.word.now c.args.t.now
