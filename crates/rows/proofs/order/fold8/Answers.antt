-- `rows::order::fold8` meets its contract: no byte carries into the next, so that each is folded by itself.
use Rattle.std.proofs.Common.{refl}
use Rattle.rows.proofs.FoldLaws.{folded_word}
use Rattle.rows.proofs.order.fold8.Goals as goal

pub returns : goal.returns
returns c = folded_word c.args.w _ refl
