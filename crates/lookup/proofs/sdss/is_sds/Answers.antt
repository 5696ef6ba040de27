-- An SDS is used exactly where its field has a first byte.
use Rattle.std.proofs.Common.{◌∙◌}
use borrow.Author.Tests.{le-ltb}
use Rattle.lookup.proofs.SdsShown.{used_first, used_past}
use Rattle.lookup.proofs.sdss.is_sds.Goals as goal

pub returns-then-d-lt-SDSS : goal.returns-then-d-lt-SDSS
returns-then-d-lt-SDSS c = used_first c.args.base.now c.requires c.args.d c.if-d-lt-SDSS.true c.sds_field.result.now c.sds_field.ensures

pub returns-else-d-lt-SDSS : goal.returns-else-d-lt-SDSS
returns-else-d-lt-SDSS c =
    let d = c.args.d in
    let past = c.if-d-lt-SDSS.false in
    le-ltb d 16 past ∙ used_past c.args.base.now c.requires d past
