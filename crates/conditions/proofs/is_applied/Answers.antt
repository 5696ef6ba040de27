-- An attribute type is applied where there is a row of it.
use Rattle.std.proofs.Common.{refl, ◌∙◌}
use Rattle.lookup.proofs.Found.{found_below}
use Rattle.conditions.proofs.ConditionLaws.{applied_row}
use Rattle.conditions.proofs.is_applied.Goals as goal

pub returns : goal.returns
returns c =
    let x = c.args in
    let found = c.application_row.ensures in
    c.is_some.ensures ∙ found_below _ _ found.below ∙ applied_row x.base.now x.d x.t x.a refl found.first
