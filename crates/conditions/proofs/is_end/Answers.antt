-- There is such an end where it has a row.
use Rattle.std.proofs.Common.{refl, ◌∙◌}
use Rattle.base.proofs.StoredLaws.{sound_stored}
use Rattle.lookup.proofs.Found.{found_below}
use Rattle.conditions.proofs.ConditionLaws.{end_place_has}
use Rattle.conditions.proofs.is_end.Goals as goal

pub end_row-requires-clause-stored : goal.end_row-requires-clause-stored
end_row-requires-clause-stored c = sound_stored c.requires.sound

pub returns : goal.returns
returns c =
    let found = c.end_row.ensures in
    c.is_some.ensures ∙ found_below _ _ found.below ∙ end_place_has refl found.place
