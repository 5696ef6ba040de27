-- The lower of the two types, each told where the other is one of the pair.
use Rattle.std.proofs.Common.{◌&&◌, eqb}
use Rattle.in_use.proofs.HeldLaws.{lowest_same, only_if}
use Rattle.in_use.proofs.other_of.Goals as goal

pub returns : goal.returns
returns c =
    let x = c.args in
    c.lower.ensures _ _ (lowest_same (λ k i. c.is_either.ensures i && eqb x.two k) (only_if _ _ c.requires.1 _ c.then_some-second.ensures))
    (lowest_same (λ k i. c.is_either-2.ensures i && eqb x.one k) (only_if _ _ c.requires.0 _ c.then_some-first.ensures))
