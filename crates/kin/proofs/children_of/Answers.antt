-- `kin::children_of`: a round over the types.
use Rattle.std.proofs.Common.{Bool, ◌||◌, eqb, sym, ap, ◌∙◌, arith}
use Rattle.type_set.specs.declared.TypeSet.{TypeSet}
use Rattle.type_set.specs.Set.{has}
use Rattle.type_set.proofs.Round.{grow_none, grow_add, grow_skip}
use Rattle.kin.proofs.KinLaws.{children_all}
use Rattle.kin.proofs.children_of.Goals.{then-has_parent_in, else-has_parent_in}
use Rattle.kin.proofs.children_of.Goals as goal

pub loop-k-init : goal.loop-k-init
loop-k-init c = grow_none _ _

pub loop-k-preserved : goal.loop-k-preserved
loop-k-preserved c =
    let l = c.loop-k in
    let child = sym c.has_parent_in.ensures in
    λ n. elim c.if-has_parent_in.branch [
      | then-has_parent_in w ↦
          ap (λ (x : TypeSet). has x n) w.r-is ∙ w.add-r.ensures n ∙ ap (λ (x : Bool). eqb n l.k || x) (l.invariant n)
          ∙ grow_add _ _ l.k (child ∙ w.if-has_parent_in.true) n
      | else-has_parent_in w ↦
          ap (λ (x : TypeSet). has x n) w.r-is ∙ l.invariant n ∙ grow_skip _ _ l.k (child ∙ w.if-has_parent_in.false) n
    ]

pub returns : goal.returns
returns c =
    children_all c.args.base.now (has c.args.s) _ _ c.loop-k.k (omega arith) c.empty-r.ensures c.loop-k.invariant
