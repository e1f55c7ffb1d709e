use Rattle.std.proofs.Common.{rules}
use Rattle.console.proofs.Program.{brought_short, some_read}
use Rattle.console.proofs.Memory.read_chunk.Goals as goal

pub take_in-requires-clause-bytes_len_bound : goal.take_in-requires-clause-bytes_len_bound
take_in-requires-clause-bytes_len_bound g c = brought_short _ _ _ _ c.read-got.ensures.bound c.brought-bytes.ensures (search rules)

pub returns : goal.returns
returns g c = some_read _ _ _ _ _ _ _ _ _ (search rules) c.read-got.ensures.bytes c.brought-bytes.ensures c.take_in.ensures c.is_empty.ensures c.is_ok.ensures.value
