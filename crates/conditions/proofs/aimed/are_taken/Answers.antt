-- Whether a new name of two is taken: the first, the second, or one by the other.
use Rattle.std.proofs.Common.{sym, ◌∙◌}
use Rattle.rules.proofs.NameTests.{first_taken, second_taken, two_as_told}
use Rattle.lookup.proofs.NamedLaws.{found_bears}
use Rattle.conditions.proofs.aimed.are_taken.Goals as goal

pub returns-then-is_some : goal.returns-then-is_some
returns-then-is_some c =
    sym (first_taken _ _ _ _ (sym (found_bears _ c.type_in.ensures.named c.type_in.ensures.below) ∙ sym c.is_some.ensures ∙ c.if-is_some.true))

pub returns-then-is_some-2 : goal.returns-then-is_some-2
returns-then-is_some-2 c =
    sym (second_taken _ _ _ _
    (sym (found_bears _ c.type_in.ensures.named c.type_in.ensures.below) ∙ sym c.is_some.ensures ∙ c.if-is_some.false)
    (sym (found_bears _ c.type_in-2.ensures.named c.type_in-2.ensures.below) ∙ sym c.is_some-2.ensures ∙ c.if-is_some-2.true))

pub returns : goal.returns
returns c = c.is_same.ensures
    ∙ two_as_told _ _ _ _
    (sym (found_bears _ c.type_in.ensures.named c.type_in.ensures.below) ∙ sym c.is_some.ensures ∙ c.if-is_some.false)
    (sym (found_bears _ c.type_in-2.ensures.named c.type_in-2.ensures.below) ∙ sym c.is_some-2.ensures ∙ c.if-is_some-2.false)
