use Rattle.std.proofs.Common.{rules, ◌+◌, ◌≤◌, length, refl, arith}
use Rattle.decimal.specs.Digits.{digits_of, long_of}
use Rattle.decimal.proofs.PlaceValue.{digits_at_most_ten, long_at_most_twenty}
use Rattle.printing.proofs.Output.{counted_fits, counted_prints, digits_laid}
use Rattle.printing.proofs.number.Goals as goal

pub overflow_add-result : goal.overflow_add-result
overflow_add-result c =
    counted_fits 20 (long_of c.args.n) (long_at_most_twenty c.args.n) _ c.args.out.now _ _ c.requires (c.put.ensures.whole refl) _ c.unwrap_or.ensures (search rules)

pub returns : goal.returns
returns c = record {
  long = counted_prints 20 (long_of c.args.n) (long_at_most_twenty c.args.n) _ _ _ _ c.requires (c.put.ensures.whole refl) _ c.unwrap_or.ensures;
  short = λ h.
      let room : c.args.at + 10 ≤ length c.args.out.now = omega arith in
      counted_prints 10 (digits_of c.args.n) (digits_at_most_ten c.args.n) _ _ _ _ room (digits_laid _ _ _ _ _ (c.put.ensures.fixed h)) _ c.unwrap_or.ensures;
}
