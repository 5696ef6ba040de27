-- `kin::pass`: each look is at another row, and all are looked at.
use Rattle.std.proofs.Common.{ℕ, ◌||◌, ap, ◌∙◌, arith}
use Rattle.base.specs.Back.{schema_of, presence_shown}
use Rattle.base.proofs.Back.{sound_good}
use Rattle.type_set.specs.Set.{bit, has}
use Rattle.lookup.proofs.RowBytes.{few_presences}
use Rattle.kin.specs.Kin.{child_there}
use Rattle.kin.proofs.KinLaws.{has_below}
use Rattle.kin.proofs.PassLaws.{looked_none, looked_more, looked_all}
use Rattle.kin.proofs.pass.Goals as goal

pub loop-i-init : goal.loop-i-init
loop-i-init c = looked_none _ _ _ _ _ _

pub at-requires : goal.at-requires
at-requires c = (omega arith, omega (arith, few_presences c.args.base.now))

pub add_child-r-requires : goal.add_child-r-requires
add_child-r-requires c = (c.requires.0, omega arith)

pub loop-i-preserved : goal.loop-i-preserved
loop-i-preserved c =
    let l = c.loop-i in
    let b = c.args.base.now in
    looked_more _ _ _ _ _ _ l.invariant _ (has_below l.r) (omega arith)
    (λ k. c.add_child-r.ensures k
    ∙ ap (λ (j : ℕ). has l.r k || child_there (schema_of b) (bit c.args.sdss) (has l.r) (presence_shown b j) k) c.at.ensures.1)

pub returns : goal.returns
returns c = looked_all _ _ _ _ _ _ c.loop-i.invariant (sound_good c.requires.0) c.requires.1 (omega arith) (has_below c.args.s)
