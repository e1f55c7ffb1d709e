use Rattle.std.proofs.Common.{rules, ◌-◌}
use native.Mathlib.Nat.{pow-le-pow_right}
use lib.Dec.{lit<}
use Rattle.command.proofs.allow.Goals as goal

pub nonzero_div-thousandths : goal.nonzero_div-thousandths
nonzero_div-thousandths c = search (rules, pow-le-pow_right {n = 10} (lit< tt) {i = 0} {j = 3 - c.args.k})
