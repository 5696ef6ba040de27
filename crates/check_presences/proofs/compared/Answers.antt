-- A row above its floor follows, and else one that is nameless may.
use Rattle.std.proofs.Common.{sym, ◌∙◌}
use Rattle.check_presences.proofs.HalfLaws.{field_low}
use Rattle.check_presences.proofs.FloorLaws.{met, row_above, row_nameless}
use Rattle.check_presences.proofs.compared.Goals as goal

pub presence_key-key-requires-clause-low_name : goal.presence_key-key-requires-clause-low_name
presence_key-key-requires-clause-low_name c =
    let x = c.requires in field_low c.args.base.now c.args.i x.base_len.0 x.base_len.1.1 x.field_fine.1

pub returns-then-is_above : goal.returns-then-is_above
returns-then-is_above c =
    let x = c.requires in
    let m = met x.base_len x.field_fine (λ j. (c.type_inv.base j).fits) c.presence_key-key.ensures c.in_ok-under.ensures in
    row_above m (sym c.is_above.ensures ∙ c.if-is_above.true) c.named.ensures

pub returns : goal.returns
returns c =
    let x = c.requires in
    let m = met x.base_len x.field_fine (λ j. (c.type_inv.base j).fits) c.presence_key-key.ensures c.in_ok-under.ensures in
    row_nameless m (sym c.is_above.ensures ∙ c.if-is_above.false) (c.nameless_follows.ensures.holds c.if-not-nameless_follows.false)
    c.bottom.ensures
