use Rattle.std.proofs.Common.{rules, tests, ◌≡◌, ◌∙◌, sym, drop}
use Rattle.std.specs.List.{position}
use Rattle.std.proofs.lemmas.Iterator.{YieldsList-from_slice}
use Rattle.std.proofs.lemmas.Iterator.Adapters.{YieldsList-from_skip}
use Rattle.std.proofs.lemmas.Iterator.Search.{position_from_yields_List}
use lib.Dec.{eqb}
use Rattle.desk.proofs.Lines.{line_found, text_over}
use Rattle.desk.proofs.line_end.Goals as goal

pub returns-in-Some : goal.returns-in-Some
returns-in-Some c =
    let p : c.position.result ≡ position (λ b. eqb b 10) (drop c.args.from c.args.t.now)
    = position_from_yields_List (λ b. eqb b 10) _ _ c.position.result c.position.ensures.ran
    (YieldsList-from_skip c.args.from (YieldsList-from_slice c.args.t.now cc) c.skip.ensures.count) (λ x b q k. search (rules, tests)) in
    line_found _ _ _ (sym p ∙ c.in-Some.is)

pub returns-in-None : goal.returns-in-None
returns-in-None c =
    let p : c.position.result ≡ position (λ b. eqb b 10) (drop c.args.from c.args.t.now)
    = position_from_yields_List (λ b. eqb b 10) _ _ c.position.result c.position.ensures.ran
    (YieldsList-from_skip c.args.from (YieldsList-from_slice c.args.t.now cc) c.skip.ensures.count) (λ x b q k. search (rules, tests)) in
    text_over _ _ _ c.max.ensures (sym p ∙ c.in-None.is)
