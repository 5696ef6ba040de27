-- `rows::order::folded` meets its contract: the bytes are read as one number, then folded.
use Rattle.rows.proofs.OrderLaws.{half_folded}
use Rattle.rows.proofs.order.folded.Goals as goal

pub returns : goal.returns
returns c =
    half_folded c.args.base.now c.args.at (λ i. (c.type_inv.base i).fits) c.requires.0 c.requires.1 c.word.ensures c.fold8.ensures
