-- A type is in some SDS where it has a row.
use Rattle.std.proofs.Common.{arith, sym, eqb, ◌∙◌}
use borrow.Author.Count.{below_more}
use borrow.Author.Tests.{eq-eqb, ne_eqb}
use Rattle.lookup.proofs.Walked.{some_presence, no_presence}
use Rattle.conditions.proofs.is_elsewhere.Goals as goal

pub returns-then-presence_type-t : goal.returns-then-presence_type-t
returns-then-presence_type-t c =
    let x = c.args in
    some_presence x.base.now (λ p. eqb p.type x.t) c.loop-i.i (omega (arith, c.loop-i-test.true, c.presence_count-i-end.ensures.is))
    (eq-eqb _ x.t (sym c.presence_type.ensures.is ∙ c.if-presence_type-t.true))

pub loop-i-preserved : goal.loop-i-preserved
loop-i-preserved c =
    below_more _ _ c.loop-i.invariant (ne_eqb _ c.args.t (λ e. c.if-presence_type-t.false (c.presence_type.ensures.is ∙ e)))

pub returns : goal.returns
returns c =
    let x = c.args in
    no_presence x.base.now (λ p. eqb p.type x.t)
    (λ i h. c.loop-i.invariant i (omega (arith, c.loop-i-test.false, c.presence_count-i-end.ensures.is)))
