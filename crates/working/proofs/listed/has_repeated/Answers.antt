-- `working::listed::has_repeated`: a number that was met is there twice.
use Rattle.std.proofs.Common.{ℕ, ◌||◌, eqb, sym, ap, ◌∙◌, arith}
use Rattle.type_set.specs.Set.{has}
use Rattle.working.proofs.ListedLaws.{met_none, met_twice, met_more, met_all}
use Rattle.working.proofs.listed.has_repeated.Goals as goal

pub loop-d-init : goal.loop-d-init
loop-d-init c = met_none _ c.empty-met.ensures

pub returns-then-test : goal.returns-then-test
returns-then-test c =
    let l = c.loop-d in
    sym (met_twice l.invariant c.loop-d-test.true (ap (has l.met) (sym c.from-d.ensures) ∙ sym c.test.ensures ∙ c.if-test.true))

pub loop-d-preserved : goal.loop-d-preserved
loop-d-preserved c =
    let l = c.loop-d in
    let d = sym c.from-d.ensures in
    met_more l.invariant _ c.loop-d-test.true (ap (has l.met) d ∙ sym c.test.ensures ∙ c.if-test.false)
    (λ k. c.add-met.ensures k ∙ ap (λ (x : ℕ). eqb k x || has l.met k) (sym d))

pub returns : goal.returns
returns c = sym (met_all c.loop-d.invariant (omega arith))
