-- `edit::put_application` meets its contract: the row goes in at its place among the applications.
use Rattle.std.proofs.Common.{sym, ◌∙◌}
use Rattle.rules.specs.04-Schema.{Application}
use Rattle.base.proofs.Shown.{applications_long}
use Rattle.base.proofs.StoredLaws.{stored_long}
use Rattle.base.proofs.Tables.{keeps_applications}
use Rattle.edit.proofs.EditLaws.{ready, row_put, application_built, application_unlike}
use Rattle.edit.proofs.put_application.Goals as goal

pub application_count-n-requires : goal.application_count-n-requires
application_count-n-requires c = stored_long c.requires.stored

pub put_in-requires-clause-row_in_bounds : goal.put_in-requires-clause-row_in_bounds
put_in-requires-clause-row_in_bounds c =
    let row : Application = record { sds = c.args.d; to = c.args.t; attribute = c.args.a } in
    let many = c.application_count-n.ensures.is ∙ sym (applications_long c.args.base.now) in
    (ready keeps_applications c.requires.stored row c.requires.base_len_bound many (application_built c.args.d c.args.t c.args.a)).1

pub returns : goal.returns
returns c =
    let row : Application = record { sds = c.args.d; to = c.args.t; attribute = c.args.a } in
    let many = c.application_count-n.ensures.is ∙ sym (applications_long c.args.base.now) in
    row_put keeps_applications c.requires.stored row c.requires.base_len_bound many (application_built c.args.d c.args.t c.args.a)
    c.requires.fact.0 tt (application_unlike c.requires.stored.rows row c.requires.a_value) c.put_in.ensures
