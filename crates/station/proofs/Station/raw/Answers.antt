use Rattle.std.proofs.Common.{rules}
use Rattle.station.proofs.Raw.{listens, hears, all_heard}
use Rattle.station.proofs.Station.raw.Goals as goal

pub loop-rest-init : goal.loop-rest-init
loop-rest-init c = listens _ _ _ _

pub loop-rest-preserved : goal.loop-rest-preserved
loop-rest-preserved c = hears _ _ _ _ _ _ _ _ c.loop-rest.invariant c.in-len2-up.len_at_least _ _ _ _ c.requires.t_in_bounds c.byte.ensures (search rules) c.hear-heard.ensures _ c.min.ensures

pub returns : goal.returns
returns c = search (rules, all_heard)
