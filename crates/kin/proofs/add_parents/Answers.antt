-- `kin::add_parents`: each place below the count holds a parent.
use Rattle.std.proofs.Common.{ℕ, ◌||◌, eqb, ap, ◌∙◌, arith}
use Rattle.type_set.specs.Set.{has}
use Rattle.lookup.proofs.Parents.{count_few, parent_at, parent_below}
use Rattle.kin.proofs.KinLaws.{adds_none, adds_more, adds_all}
use Rattle.kin.proofs.add_parents.Goals as goal

pub loop-i-init : goal.loop-i-init
loop-i-init c = adds_none _ _ _

pub parent-requires : goal.parent-requires
parent-requires c = (c.requires.0.long, (c.requires.1, omega (arith, count_few c.requires.0 c.args.t c.requires.1)))

pub add-r-requires : goal.add-r-requires
add-r-requires c = omega (arith, parent_below c.requires.0 (parent_at c.requires.0 c.args.t c.requires.1 c.loop-i.i (omega arith)))

pub loop-i-preserved : goal.loop-i-preserved
loop-i-preserved c =
    let l = c.loop-i in
    adds_more c.requires.0 c.args.t c.requires.1 l.invariant _ (omega arith)
    (λ k. c.add-r.ensures k ∙ ap (λ (a : ℕ). eqb k a || has l.r k) c.parent.ensures.is)

pub returns : goal.returns
returns c = adds_all c.requires.0 c.args.t c.requires.1 c.loop-i.invariant (omega arith)
