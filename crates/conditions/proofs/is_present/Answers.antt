-- A type is present where it has a row.
use Rattle.std.proofs.Common.{refl, ◌∙◌}
use Rattle.lookup.proofs.Found.{found_below}
use Rattle.conditions.proofs.ConditionLaws.{present_row}
use Rattle.conditions.proofs.is_present.Goals as goal

pub returns : goal.returns
returns c =
    let found = c.presence_row.ensures in
    c.is_some.ensures ∙ found_below _ _ found.below ∙ present_row refl found.first
