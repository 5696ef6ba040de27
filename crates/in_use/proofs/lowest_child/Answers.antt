-- The lowest that the rows of the table tell.
use Rattle.std.proofs.Common.{rules}
use Rattle.base.specs.Back.{schema_of, presence_shown}
use Rattle.in_use.specs.Held.{child_told}
use Rattle.in_use.proofs.HeldLaws.{children_lowest}
use Rattle.in_use.proofs.lowest_child.Goals as goal

pub returns : goal.returns
returns c =
    let x = c.args in
    children_lowest _ _ _ c.count.ensures.is
    (c.lowest_of.ensures (λ i. child_told (schema_of x.base.now) x.d x.t (presence_shown x.base.now i)) (λ i r h told. search rules))
