-- Whether one of two SDSs is unknown: each test is the contrary of what `is_sds` says.
use Rattle.std.proofs.Common.{not, ap, ◌∙◌}
use Rattle.rules.proofs.Bools.{or_first, or_next}
use Rattle.change_imports.proofs.ImportLaws.{unknown_is}
use Rattle.change_imports.proofs.is_one_unknown.Goals as goal

pub returns-then-not-is_sds : goal.returns-then-not-is_sds
returns-then-not-is_sds c =
    let e = ap not c.if-not-is_sds.true in
    e ∙ or_first _ (unknown_is _ c.requires _ c.is_sds.ensures) e

pub returns-else-not-is_sds : goal.returns-else-not-is_sds
returns-else-not-is_sds c =
    or_next (unknown_is _ c.requires _ c.is_sds.ensures) (ap not c.if-not-is_sds.false)
    (unknown_is _ c.requires _ c.is_sds-else-not-is_sds.ensures)
