-- `kin::has_parent_in`: each place below the count holds a parent.
use Rattle.std.proofs.Common.{sym, ap, ◌∙◌, arith}
use Rattle.type_set.specs.Set.{has}
use Rattle.lookup.proofs.Parents.{count_few, parent_at, parent_below}
use Rattle.kin.proofs.KinLaws.{finds_none, finds_here, finds_more, finds_all}
use Rattle.kin.proofs.has_parent_in.Goals as goal

pub loop-i-init : goal.loop-i-init
loop-i-init c = finds_none c.requires.0 c.args.t c.requires.1 _

pub parent-requires : goal.parent-requires
parent-requires c = (c.requires.0.long, (c.requires.1, omega (arith, count_few c.requires.0 c.args.t c.requires.1)))

pub test-requires : goal.test-requires
test-requires c = omega (arith, parent_below c.requires.0 (parent_at c.requires.0 c.args.t c.requires.1 c.loop-i.i (omega arith)))

pub returns-then-test : goal.returns-then-test
returns-then-test c =
    finds_here c.requires.0 c.args.t c.requires.1 _ c.loop-i.invariant (omega arith)
    (ap (has c.args.s) (sym c.parent.ensures.is) ∙ sym c.test.ensures ∙ c.if-test.true)

pub loop-i-preserved : goal.loop-i-preserved
loop-i-preserved c =
    finds_more c.requires.0 c.args.t c.requires.1 _ c.loop-i.invariant (omega arith)
    (ap (has c.args.s) (sym c.parent.ensures.is) ∙ sym c.test.ensures ∙ c.if-test.false)

pub returns : goal.returns
returns c = finds_all c.requires.0 c.args.t c.requires.1 _ c.loop-i.invariant (omega arith)
