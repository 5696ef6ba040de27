-- `visible::is_visible`: a row says so, or none does.
use Rattle.std.proofs.Common.{◌&&◌, eqb, ◌∙◌, arith, rules, tests}
use Rattle.std.proofs.lemmas.Iterator.{YieldsList-from_range}
use Rattle.std.proofs.lemmas.Iterator.Search.{any_from_yields_List}
use Rattle.base.specs.Back.{presence_shown}
use Rattle.type_set.specs.Set.{bit}
use Rattle.visible.specs.Shown.{gathered}
use Rattle.visible.proofs.ShownLaws.{any_presence}
use Rattle.visible.proofs.is_visible.Goals as goal

pub returns : goal.returns
unfolding gathered
returns c =
    let b = c.args.base.now in
    any_from_yields_List (λ i. bit c.args.sdss (presence_shown b i).sds && eqb c.args.t (presence_shown b i).type) _ _ _ c.any.ensures.ran
    (YieldsList-from_range 0 c.count.result c.count.result (cc) (omega arith)) (λ x r q k. search (rules, tests))
    ∙ any_presence b (λ p. bit c.args.sdss p.sds && eqb c.args.t p.type) c.count.ensures.is
