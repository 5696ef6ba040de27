-- `visible::gather`: a row that passes puts its type in, and one that does not puts none in.
use Rattle.std.proofs.Common.{◌≡◌, arith, ap, ◌∙◌}
use Rattle.type_set.specs.declared.TypeSet.{TypeSet}
use Rattle.type_set.specs.Set.{has}
use Rattle.visible.proofs.ShownLaws.{gathers_more, gathers_skip}
use Rattle.visible.proofs.gather.Goals.{then-passes, else-passes}
use Rattle.visible.proofs.gather.Goals as goal

pub loop-i-preserved : goal.loop-i-preserved
loop-i-preserved g c =
    let l = c.loop-i in
    elim c.if-passes.branch [
      | then-passes w ↦
          gathers_more _ _ l.i (has l.r) l.invariant w.value.result _ (rw w.if-passes.true at c.passes.ensures) w.value.ensures
          (λ k. ap (λ (x : TypeSet). has x k) w.r-is ∙ w.add-r.ensures k)
      | else-passes w ↦ rw w.r-is (gathers_skip _ _ l.i (has l.r) l.invariant (rw w.if-passes.false at c.passes.ensures))
    ]

pub returns : goal.returns
returns g c =
    let l = c.loop-i in
    let e : l.i ≡ c.args.n = omega arith in
    rw e at l.invariant
