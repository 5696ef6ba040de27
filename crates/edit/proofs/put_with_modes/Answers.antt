-- `edit::put_with_modes` meets its contract: the row goes in at its place among the presences.
use Rattle.std.proofs.Common.{length, sym, ap, ◌∙◌, arith}
use Rattle.rules.specs.04-Schema.{Presence, new_presence, with_modes}
use Rattle.rules.proofs.03-Names.{name_fits}
use Rattle.rules.proofs.07-Picture.{wide_presence}
use Rattle.base.proofs.Shown.{presences_long}
use Rattle.base.proofs.StoredLaws.{stored_long}
use Rattle.base.proofs.Tables.{keeps_presences}
use Rattle.edit.proofs.EditLaws.{row_put, presence_unlike}
use Rattle.edit.proofs.put_with_modes.Goals as goal

pub presence_bytes-row-requires-clause-d_bound : goal.presence_bytes-row-requires-clause-d_bound
presence_bytes-row-requires-clause-d_bound c = (c.requires.fact.1.0, (c.requires.fact.1.1, (name_fits c.args.name.now c.requires.name_value).short))

pub presence_count-n-requires : goal.presence_count-n-requires
presence_count-n-requires c = stored_long c.requires.stored

pub put_row-requires : goal.put_row-requires
put_row-requires c =
    let row : Presence = with_modes c.args.usage c.args.definition (new_presence c.args.d c.args.name.now c.args.t) in
    let many = c.presence_count-n.ensures.is ∙ sym (presences_long c.args.base.now) in
    (stored_long c.requires.stored, (omega (arith, many, c.requires.base_len_bound), ap length c.presence_bytes-row.ensures ∙ wide_presence row))

pub returns : goal.returns
returns c =
    let row : Presence = with_modes c.args.usage c.args.definition (new_presence c.args.d c.args.name.now c.args.t) in
    let many = c.presence_count-n.ensures.is ∙ sym (presences_long c.args.base.now) in
    row_put keeps_presences c.requires.stored row c.requires.base_len_bound many c.presence_bytes-row.ensures c.requires.fact.0 c.requires.name_value
    (presence_unlike c.requires.stored.rows row c.requires.name_value c.requires.fact_2) c.put_row.ensures
