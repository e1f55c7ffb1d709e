use Rattle.std.proofs.Common.{rules}
use Rattle.station.specs.Serve.{served_of}
use Rattle.console.proofs.Filling.{laid_behind}
use Rattle.console.proofs.bytes.Bytes.answer.Goals as goal

pub returns-clause-printed : goal.returns-clause-printed
returns-clause-printed g c =
    let p = c.answer-replied.ensures.prints in
    laid_behind g.row.N c.self.inside.filled c.answer-replied.result.end _ c.self.inside.array c.answer-replied.new.out c.args.self.now (served_of c.args.line.now c.args.station).text c.self.invariant (search rules) (search rules) c.requires
    p.short p.ends p.left
