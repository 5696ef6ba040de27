-- Whether one of the three names is malformed: one test after the other.
use Rattle.std.proofs.Common.{not, ap, ◌∙◌}
use Rattle.rules.proofs.Bools.{or_first, or_next}
use Rattle.change_imports.proofs.ImportLaws.{malformed_is}
use Rattle.change_imports.proofs.is_one_malformed.Goals as goal

pub returns-then-not-is_well_formed : goal.returns-then-not-is_well_formed
returns-then-not-is_well_formed c =
    let e = ap not c.if-not-is_well_formed.true in
    e ∙ or_first _ (malformed_is _ c.is_well_formed.ensures) e

pub returns-else-is_malformed_new : goal.returns-else-is_malformed_new
returns-else-is_malformed_new c =
    or_next (malformed_is _ c.is_well_formed.ensures) (ap not c.if-not-is_well_formed.false)
    (or_next c.is_malformed_new.ensures c.if-is_malformed_new.false c.is_malformed_new-else-is_malformed_new.ensures)
