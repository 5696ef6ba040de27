-- The reverse of a type by the bytes of its row: its kind, and then its category.
use Rattle.base.proofs.Kept.{sound_long}
use Rattle.conditions.proofs.ReverseLaws.{no_link_no_reverse, no_reverse, its_reverse, reverse_below}
use Rattle.conditions.proofs.reverse_of.Goals as goal

pub kind-requires : goal.kind-requires
kind-requires c = (sound_long c.requires.0, c.requires.1)

pub returns-then-kind-ne-LINK-clause-reverse : goal.returns-then-kind-ne-LINK-clause-reverse
returns-then-kind-ne-LINK-clause-reverse c = no_link_no_reverse c.requires.0 c.requires.1 c.kind.ensures c.if-kind-ne-LINK.true

pub value-requires : goal.value-requires
value-requires c = (sound_long c.requires.0, c.requires.1)

pub returns-then-value-eq-DESIGNATION-clause-reverse : goal.returns-then-value-eq-DESIGNATION-clause-reverse
returns-then-value-eq-DESIGNATION-clause-reverse c =
    no_reverse c.requires.0 c.requires.1 c.kind.ensures c.if-kind-ne-LINK.false c.value.ensures c.if-value-eq-DESIGNATION.true

pub reverse-requires : goal.reverse-requires
reverse-requires c = (sound_long c.requires.0, c.requires.1)

pub returns-clause-reverse : goal.returns-clause-reverse
returns-clause-reverse c =
    its_reverse c.requires.0 c.requires.1 c.kind.ensures c.if-kind-ne-LINK.false c.value.ensures c.if-value-eq-DESIGNATION.false c.reverse.ensures

pub returns-clause-below : goal.returns-clause-below
returns-clause-below c =
    reverse_below c.requires.0 c.requires.1 c.kind.ensures c.if-kind-ne-LINK.false c.value.ensures c.if-value-eq-DESIGNATION.false c.reverse.ensures
