-- `kin::parents_of`: each type is taken out of the set that is left when its parents are added.
use Rattle.type_set.specs.Set.{has}
use Rattle.kin.proofs.KinLaws.{fewer_left, parents_none, parents_more, parents_all}
use Rattle.kin.proofs.parents_of.Goals as goal

pub loop-t-init : goal.loop-t-init
loop-t-init c = parents_none _ _ _ c.empty-r.ensures

pub loop-t-smaller : goal.loop-t-smaller
loop-t-smaller c =
    let one = c.in-Some.ensures in
    fewer_left (has c.loop-t.left) _ c.in-Some.t one.below one.passes c.less-left.ensures

pub loop-t-preserved : goal.loop-t-preserved
loop-t-preserved c =
    let one = c.in-Some.ensures in
    parents_more c.loop-t.invariant _ _ c.in-Some.t one.below one.passes c.less-left.ensures c.add_parents-r.ensures

pub returns : goal.returns
returns c = parents_all c.loop-t.invariant c.in_default.ensures
