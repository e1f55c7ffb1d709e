use Rattle.std.proofs.Common.{rules, sym, ◌∙◌}
use borrow.Author.Tests.{eqb-true, eqb-false}
use Rattle.station.proofs.Serving.{no_address}
use Rattle.station.proofs.Wrapping.{all_there, sends_it, can_be_wrapped}
use Rattle.station.proofs.Station.send_oem.Goals as goal

pub returns-then-is_empty : goal.returns-then-is_empty
returns-then-is_empty c = no_address _ _ _ _ _ _ (eqb-true _ _ (sym c.is_empty.ensures ∙ c.if-is_empty.true)) c.says.ensures

pub returns : goal.returns
returns c =
    sends_it _ _ _ _ (can_be_wrapped _ (eqb-false _ _ (sym c.is_empty.ensures ∙ c.if-is_empty.false)) c.requires.text_len_bound) c.wrap-n.ensures _ _ _ _ _ _ c.sum.ensures c.send.ensures

pub slice_bounds-send-end : goal.slice_bounds-send-end
slice_bounds-send-end c =
    let fits = all_there _ _ _ _ (can_be_wrapped _ (eqb-false _ _ (sym c.is_empty.ensures ∙ c.if-is_empty.false)) c.requires.text_len_bound) c.wrap-n.ensures in
    search rules
