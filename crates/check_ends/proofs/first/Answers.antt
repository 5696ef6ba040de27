-- The link type of a designation is asked, since it has no mirrors.
use Rattle.std.proofs.Common.{arith}
use Rattle.check_ends.proofs.GroupLaws.{link_small, first_none}
use Rattle.check_ends.proofs.first.Goals as goal

pub value-requires : goal.value-requires
value-requires c = (c.requires.reached.0.long, omega (arith, c.end_link-link.ensures.is, link_small c.requires.reached.0))

pub returns : goal.returns
returns c =
    first_none c.requires.reached.0 c.requires.number_value c.end_link-link.ensures.is (c.link_fine.ensures.holds c.if-not-link_fine.false)
    c.value.ensures.is c.if-value-ne-DESIGNATION.false
