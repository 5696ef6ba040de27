-- `edit::take_application` meets its contract: the row is taken out from among the applications.
use Rattle.std.proofs.Common.{sym, ◌∙◌, arith}
use Rattle.base.proofs.Shown.{applications_long}
use Rattle.base.proofs.StoredLaws.{stored_long}
use Rattle.base.proofs.Tables.{keeps_applications}
use Rattle.edit.proofs.EditLaws.{row_taken}
use Rattle.edit.proofs.take_application.Goals as goal

pub application_count-n-requires : goal.application_count-n-requires
application_count-n-requires c = stored_long c.requires.stored

pub take_row-requires : goal.take_row-requires
take_row-requires c = (stored_long c.requires.stored, (omega arith, omega arith))

pub returns : goal.returns
returns c =
    let many = c.application_count-n.ensures.is ∙ sym (applications_long c.args.base.now) in
    row_taken keeps_applications c.requires.stored many c.args.i (omega arith) c.take_row.ensures
