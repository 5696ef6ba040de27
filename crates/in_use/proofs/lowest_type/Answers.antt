-- The lowest that the rows of the table tell.
use Rattle.std.proofs.Common.{rules}
use Rattle.rules.specs.04-Schema.{holds_type}
use Rattle.base.specs.Back.{presence_shown}
use Rattle.in_use.proofs.HeldLaws.{types_lowest}
use Rattle.in_use.proofs.lowest_type.Goals as goal

pub returns : goal.returns
returns c =
    let x = c.args in
    types_lowest _ _ c.count.ensures.is
    (c.lowest_of.ensures (λ i k. holds_type x.d k (presence_shown x.base.now i)) (λ i r h told. search rules))
