use Rattle.std.proofs.Common.{rules}
use Rattle.console.proofs.Filling.{as_many}
use Rattle.console.proofs.bytes.Bytes.put.Goals as goal

pub returns : goal.returns
returns g c = as_many g.row.N c.self.inside.filled c.min-n.result c.self.inside.array c.args.self.now c.args.more.now _ c.self.invariant (search rules) (search rules) c.min-n.ensures c.copy_from_slice.ensures.after
