-- Whether two categories make no pair: each of 0 to 3, and not both implicit.
use Rattle.change_pairs.proofs.PairLaws.{forward_unfit, reverse_unfit, forward_not_implicit, forward_implicit}
use Rattle.change_pairs.proofs.is_no_pair.Goals as goal

pub returns-then-category-gt3 : goal.returns-then-category-gt3
returns-then-category-gt3 c = forward_unfit _ _ c.if-category-gt3.true

pub returns-then-back-gt3 : goal.returns-then-back-gt3
returns-then-back-gt3 c = reverse_unfit _ _ c.if-category-gt3.false c.if-back-gt3.true

pub returns-then-category-eq-IMPLICIT : goal.returns-then-category-eq-IMPLICIT
returns-then-category-eq-IMPLICIT c = forward_implicit _ _ c.if-category-gt3.false c.if-back-gt3.false c.if-category-eq-IMPLICIT.true

pub returns-else-category-eq-IMPLICIT : goal.returns-else-category-eq-IMPLICIT
returns-else-category-eq-IMPLICIT c = forward_not_implicit _ _ c.if-category-gt3.false c.if-back-gt3.false c.if-category-eq-IMPLICIT.false
