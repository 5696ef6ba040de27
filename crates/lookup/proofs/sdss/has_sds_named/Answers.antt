-- A name is taken where an SDS has it, and nowhere else.
use Rattle.std.proofs.Common.{sym, ◌∙◌, arith}
use Rattle.lookup.proofs.SdsShown.{taken_at, taken_nowhere}
use Rattle.lookup.proofs.sdss.has_sds_named.Goals as goal

pub returns-then-is_same : goal.returns-then-is_same
returns-then-is_same c =
    taken_at c.args.base.now c.loop-d.d c.args.name.now _ c.loop-d-test.true c.sds_name.ensures c.requires.1
    (sym c.is_same.ensures ∙ c.if-is_same.true)

pub returns : goal.returns
returns c = taken_nowhere c.args.base.now c.args.name.now (λ d h. c.loop-d.invariant d (omega (arith, c.loop-d-test.false)))
