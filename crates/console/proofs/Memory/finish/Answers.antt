use Rattle.console.proofs.Lines.{line_served}
use Rattle.console.proofs.Memory.finish.Goals as goal

pub returns-then-ended : goal.returns-then-ended
returns-then-ended c =
    rw c.clear.ensures (
    line_served _ _ _ _ c.requires.sound _ _ _ c.as_slice.ensures c.if-ended.true c.answer-self.ensures.station c.answer-self.ensures.printed c.answer-self.ensures.short)
