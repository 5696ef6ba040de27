-- `visible::gather`: the set has what the rows so far put in.
use Rattle.type_set.specs.Set.{has}
use Rattle.visible.specs.Shown.{Gathers}
use Rattle.visible.proofs.gather.Given as goal

abbrev pub invariant-loop-i : goal.invariant-loop-i
invariant-loop-i g l = Gathers l.i (λ i x. goal.P-post g l.passes i x) (λ i t. goal.V-post g l.value i t) (has l.r)
