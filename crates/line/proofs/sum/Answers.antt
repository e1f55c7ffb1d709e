use Rattle.std.proofs.Common.{rules, ◌≡◌, ◌∙◌, bit_xor}
use Rattle.std.specs.List.{fold}
use Rattle.line.proofs.Lines.{sum_folded}
use Rattle.line.proofs.sum.Goals as goal

pub returns : goal.returns
returns c = let folded : c.fold.result ≡ fold bit_xor 0 c.args.bytes.now = search rules in folded ∙ sum_folded 0 c.args.bytes.now
