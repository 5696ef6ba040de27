-- `kin::with_descendants`: where the set has no more types than a pass ago, it has the children of its own.
use Rattle.std.proofs.Common.{arith}
use Rattle.rules.proofs.05-Descent.{members_most}
use Rattle.base.proofs.Back.{sound_good}
use Rattle.type_set.specs.Set.{bit, has}
use Rattle.kin.proofs.KinLaws.{has_below}
use Rattle.kin.proofs.PassLaws.{span_all}
use Rattle.kin.proofs.ReachLaws.{growing_none, passed_more, descendants_all}
use Rattle.kin.proofs.with_descendants.Goals as goal

pub trimmed-requires : goal.trimmed-requires
trimmed-requires c = (c.requires, span_all _ _ _ c.count.ensures.is)

pub trimmed-rows-requires : goal.trimmed-rows-requires
trimmed-rows-requires c = (c.requires, rw (c.turned.ensures.0, c.turned.ensures.1) c.trimmed.ensures.0)

pub loop-n-init : goal.loop-n-init
loop-n-init c = record { span = c.trimmed-rows.ensures.0; growing = growing_none _ _ }

pub loop-n-smaller : goal.loop-n-smaller
loop-n-smaller c = omega (arith, members_most (has c.loop-n.r))

pub loop-n-preserved : goal.loop-n-preserved
loop-n-preserved c = record {
  span = rw (c.turned-rows.ensures.0, c.turned-rows.ensures.1) c.loop-n.invariant.span;
  growing = passed_more (sound_good c.requires) (bit c.args.sdss) c.loop-n.invariant.growing _ c.count-n.result c.pass-r.ensures c.count-n.ensures;
}

pub returns : goal.returns
returns c =
    let l = c.loop-n in
    descendants_all (sound_good c.requires) (bit c.args.sdss) l.invariant.growing (omega arith) (has_below c.args.s) (has_below l.r)
