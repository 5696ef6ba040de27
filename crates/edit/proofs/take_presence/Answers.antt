-- `edit::take_presence` meets its contract: the row is taken out from among the presences.
use Rattle.std.proofs.Common.{sym, ◌∙◌, arith}
use Rattle.base.proofs.Shown.{presences_long}
use Rattle.base.proofs.StoredLaws.{stored_long}
use Rattle.base.proofs.Tables.{keeps_presences}
use Rattle.edit.proofs.EditLaws.{row_taken}
use Rattle.edit.proofs.take_presence.Goals as goal

pub presence_count-n-requires : goal.presence_count-n-requires
presence_count-n-requires c = stored_long c.requires.stored

pub take_row-requires : goal.take_row-requires
take_row-requires c = (stored_long c.requires.stored, (omega arith, omega arith))

pub returns : goal.returns
returns c =
    let many = c.presence_count-n.ensures.is ∙ sym (presences_long c.args.base.now) in
    row_taken keeps_presences c.requires.stored many c.args.i (omega arith) c.take_row.ensures
