use Rattle.std.proofs.Common.{◌∙◌, arith}
use Rattle.desk.proofs.Pairs.{two_digits_left, too_few_left, no_space, no_digits, next_left}
use Rattle.desk.proofs.hex.paired.Goals as goal
use Rattle.desk.proofs.hex.paired.Goals.{then-space-ne32-via-then-space-ne32, then-space-ne32-via-else-space-ne32+then-not-are_hex}

pub loop-rest-preserved : goal.loop-rest-preserved
loop-rest-preserved c =
    next_left _ _ c.loop-rest.invariant c.in-len3-up.len_at_least c.are_hex.result c.are_hex.ensures c.if-not-are_hex.false c.if-space-ne32.false

pub returns-then-space-ne32 : goal.returns-then-space-ne32
returns-then-space-ne32 c =
    elim c.then-space-ne32.branch [
      | then-space-ne32-via-then-space-ne32 w ↦ no_space _ _ c.loop-rest.invariant c.in-len3-up.len_at_least w.if-space-ne32.true
      | then-space-ne32-via-else-space-ne32+then-not-are_hex w ↦
          no_digits _ _ c.loop-rest.invariant c.in-len3-up.len_at_least w.are_hex.result w.are_hex.ensures w.if-not-are_hex.true
    ]

pub returns-in-len2 : goal.returns-in-len2
returns-in-len2 c = c.are_hex-in-len2.ensures ∙ two_digits_left _ _ c.loop-rest.invariant (omega (arith, c.in-len2.len_at_least, c.in-len2.len_below))

pub returns-in_default-rest : goal.returns-in_default-rest
returns-in_default-rest c = too_few_left _ _ c.loop-rest.invariant c.in_default-rest.len_below
