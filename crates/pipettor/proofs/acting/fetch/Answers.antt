use Rattle.std.proofs.Common.{rules}
use Rattle.pipettor.proofs.Frames.{fetches_none, part_count, kept_fits, kept_count, fetches}
use Rattle.pipettor.proofs.acting.fetch.Goals as goal

ruleset laws = (rules, fetches_none, part_count, kept_fits, kept_count, fetches)

pub returns-then-n-gt320 : goal.returns-then-n-gt320
returns-then-n-gt320 c = search laws

pub slice_bounds-read-end : goal.slice_bounds-read-end
slice_bounds-read-end c = search laws

pub slice_bounds-read-end-2 : goal.slice_bounds-read-end-2
slice_bounds-read-end-2 c = search laws

pub returns : goal.returns
returns c = search laws
