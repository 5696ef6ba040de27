-- `graph::unsettled_parent`: the places below the count hold the parents and nothing else.
use Rattle.std.proofs.Common.{sym, ◌∙◌, arith}
use Rattle.type_set.specs.Set.{has}
use Rattle.lookup.proofs.Parents.{count_few, parent_at, parent_below}
use Rattle.graph.proofs.Laws.{unsettled_at, unsettled_none}
use Rattle.graph.proofs.unsettled_parent.Goals as goal

pub parent-a-requires : goal.parent-a-requires
parent-a-requires c = (c.requires.0.long, (c.requires.1, omega (arith, count_few c.requires.0 c.args.t c.requires.1)))

pub test-requires : goal.test-requires
test-requires c =
    omega (arith, parent_below c.requires.0 (parent_at c.requires.0 c.args.t c.requires.1 c.loop-i.i (omega arith)))

pub returns-then-not-test : goal.returns-then-not-test
returns-then-not-test c =
    unsettled_at c.requires.0 (has c.args.settled) c.args.t c.requires.1 c.loop-i.i _ (omega arith) c.parent-a.ensures.is
    (sym c.test.ensures ∙ c.if-not-test.true)

pub returns : goal.returns
returns c =
    unsettled_none c.requires.0 (has c.args.settled) c.args.t c.requires.1 (λ k h. c.loop-i.invariant k (omega arith))
