-- `edit::take_end` meets its contract: the row is taken out from among the ends.
use Rattle.std.proofs.Common.{sym, ◌∙◌, arith}
use Rattle.base.proofs.Shown.{ends_long}
use Rattle.base.proofs.StoredLaws.{stored_long}
use Rattle.base.proofs.Tables.{keeps_ends}
use Rattle.edit.proofs.EditLaws.{row_taken}
use Rattle.edit.proofs.take_end.Goals as goal

pub end_count-n-requires : goal.end_count-n-requires
end_count-n-requires c = stored_long c.requires.stored

pub take_row-requires : goal.take_row-requires
take_row-requires c = (stored_long c.requires.stored, (omega arith, omega arith))

pub returns : goal.returns
returns c =
    let many = c.end_count-n.ensures.is ∙ sym (ends_long c.args.base.now) in
    row_taken keeps_ends c.requires.stored many c.args.i (omega arith) c.take_row.ensures
