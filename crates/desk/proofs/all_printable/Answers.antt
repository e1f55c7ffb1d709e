use Rattle.std.proofs.Common.{rules, tests, ◌∙◌}
use Rattle.std.proofs.lemmas.Iterator.{YieldsList-from_slice}
use Rattle.std.proofs.lemmas.Iterator.Search.{all_from_yields_List}
use Rattle.line.specs.Bytes.{printable}
use Rattle.desk.proofs.Lines.{every_listed}
use Rattle.desk.proofs.all_printable.Goals as goal

pub returns : goal.returns
returns c =
    all_from_yields_List printable _ _ _ c.all.ensures.ran (YieldsList-from_slice c.args.t.now cc) (λ x b q k. search (rules, tests))
    ∙ every_listed printable c.args.t.now
