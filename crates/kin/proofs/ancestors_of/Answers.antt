-- `kin::ancestors_of`: with nothing left all are found.
use Rattle.std.proofs.Common.{arith}
use Rattle.rules.proofs.05-Descent.{members_most}
use Rattle.base.proofs.Back.{sound_good}
use Rattle.type_set.specs.Set.{has}
use Rattle.lookup.proofs.Parents.{good_parental}
use Rattle.kin.proofs.ReachLaws.{taking_none, more_found, taking_more, ancestors_all}
use Rattle.kin.proofs.ancestors_of.Goals as goal

pub parents_of-left-requires : goal.parents_of-left-requires
parents_of-left-requires c = good_parental c.requires

pub loop-t-init : goal.loop-t-init
loop-t-init c = taking_none _ _ _ c.empty-found.ensures

pub add_parents-requires : goal.add_parents-requires
add_parents-requires c = (good_parental c.requires, c.in-Some.ensures.below)

pub loop-t-smaller : goal.loop-t-smaller
loop-t-smaller c =
    let one = c.in-Some.ensures in
    let more = more_found c.loop-t.invariant _ c.in-Some.t one.passes c.add-found.ensures one.below in
    omega (arith, members_most (has c.add-found.result))

pub loop-t-preserved : goal.loop-t-preserved
loop-t-preserved c =
    taking_more c.loop-t.invariant _ c.in-Some.t c.in-Some.ensures.passes c.add-found.ensures _ _ c.add_parents.ensures c.without-left.ensures

pub returns : goal.returns
returns c = ancestors_all (sound_good c.requires) _ _ c.parents_of-left.ensures c.loop-t.invariant c.in_default.ensures
