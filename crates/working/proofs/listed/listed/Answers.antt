-- `working::listed::listed`: each number of the list marks its bit.
use Rattle.std.proofs.Common.{arith, ◌∙◌}
use mathlib.Core.Bool.{or_comm}
use Rattle.type_set.specs.Set.{bit}
use Rattle.type_set.proofs.Bit.{bit_zero, bit_set}
use Rattle.working.proofs.ListedLaws.{gathered_none, gathered_more, gathered_all}
use Rattle.working.proofs.listed.listed.Goals as goal

pub loop-d-init : goal.loop-d-init
loop-d-init c = gathered_none _ bit_zero

pub loop-d-preserved : goal.loop-d-preserved
loop-d-preserved c =
    let l = c.loop-d in
    gathered_more l.invariant _ c.loop-d-test.true
    (λ k. bit_set 16 l.sdss _ k (c.requires l.d-index c.loop-d-test.true) ∙ or_comm (bit l.sdss k) _)

pub returns : goal.returns
returns c = gathered_all c.loop-d.invariant (omega arith)
