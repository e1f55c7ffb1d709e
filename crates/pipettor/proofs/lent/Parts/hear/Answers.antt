use Rattle.pipettor.proofs.Bytes.{part_fits, heard}
use Rattle.pipettor.proofs.lent.Parts.hear.Goals as goal

pub perform-done-requires-clause-n_in_bounds : goal.perform-done-requires-clause-n_in_bounds
perform-done-requires-clause-n_in_bounds c = part_fits _ _ _ _ _ _ (search c.keep.array_long) c.get-got.ensures c.size-n.ensures

pub returns : goal.returns
returns c =
    record {
      is =
          heard _ _ _ _ _ _ _ _ _ _ _ _ _ _ _ _ _ c.requires.room c.letter.ensures c.hear-heard.ensures c.keep.ensures c.get-got.ensures
          c.asked-task.ensures c.size-n.ensures c.perform-done.ensures.is c.outcome-outcome.ensures c.ready.ensures c.framing.ensures c.say-said.ensures;
      again = record { core = c.perform-done.ensures.again };
    }
