-- A type is a parent where one of the places holds it.
use Rattle.std.proofs.Common.{arith, ◌∙◌}
use borrow.Author.Count.{below_none, below_more}
use Rattle.base.proofs.Kept.{sound_long}
use Rattle.lookup.proofs.Parents.{good_parental, count_few}
use Rattle.conditions.proofs.ConditionLaws.{parent_here, parent_nowhere}
use Rattle.conditions.proofs.is_parent.Goals as goal

pub parent_count-i-end-requires : goal.parent_count-i-end-requires
parent_count-i-end-requires c = (sound_long c.requires.0, c.requires.1)

pub loop-i-init : goal.loop-i-init
loop-i-init c = (omega (arith, c.parent_count-i-end.ensures.is, count_few (good_parental c.requires.0) c.args.t c.requires.1), below_none _)

pub parent-requires : goal.parent-requires
parent-requires c = (sound_long c.requires.0, (c.requires.1, omega (arith, c.loop-i.invariant.0, c.loop-i-test.true)))

pub returns-then-parent-a : goal.returns-then-parent-a
returns-then-parent-a c =
    parent_here c.requires.0 c.requires.1 c.parent_count-i-end.ensures.is c.args.a c.loop-i.i _ c.loop-i-test.true c.parent.ensures.is c.if-parent-a.true

pub loop-i-preserved : goal.loop-i-preserved
loop-i-preserved c =
    let l = c.loop-i in
    (l.invariant.0, below_more _ _ l.invariant.1 (λ e. c.if-parent-a.false (c.parent.ensures.is ∙ e)))

pub returns : goal.returns
returns c =
    parent_nowhere c.requires.0 c.requires.1 c.parent_count-i-end.ensures.is c.args.a
    (λ i h. c.loop-i.invariant.1 i (omega (arith, c.loop-i-test.false)))
