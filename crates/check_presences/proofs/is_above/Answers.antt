-- The halves stand in the order of pairs.
use Rattle.std.proofs.Common.{sym, ◌∙◌}
use Rattle.check_presences.proofs.FloorLaws.{pair_before, above_is}
use Rattle.check_presences.proofs.is_above.Goals as goal

pub returns : goal.returns
returns c = let x = c.args in c.lt.ensures ∙ pair_before x.floor x.key ∙ sym (above_is x.floor x.key)
