-- An SDS removed: what was told of it, the lowest type in it, and its name taken away.
use Rattle.std.proofs.Common.{arith, refl, sym, ap, ◌∙◌, []}
use Rattle.rules.specs.09-Refusals.{telling}
use Rattle.rules.proofs.09-Refusals.{passes, stops, ends}
use Rattle.base.proofs.Kept.{sound_long, kept_refused, kept_done, sds_changed}
use Rattle.base.proofs.TestedLaws.{begun_stops, positive, answer_on, tested_sound}
use Rattle.conditions.proofs.AimedLaws.{aimed_well}
use Rattle.in_use.proofs.HeldLaws.{sds_held, sds_empty}
use Rattle.change_sdss.proofs.Laws.{remove_sds_left, types_left}
use Rattle.change_sdss.proofs.remove_sds.Goals as goal

pub returns-in_err-aimed_at : goal.returns-in_err-aimed_at
returns-in_err-aimed_at c =
    begun_stops _ c.in_err-aimed_at.ensures (positive _) (remove_sds_left _ _) (answer_on _ _ c.from_residual.ensures)

pub lowest_type-requires : goal.lowest_type-requires
lowest_type-requires c = tested_sound c.in_ok-aimed_at.ensures refl

pub returns-in-Some : goal.returns-in-Some
returns-in-Some c =
    let (stands, is) = sds_held _ _ c.in-Some.ensures in
    kept_refused (tested_sound c.in_ok-aimed_at.ensures refl) (stops (types_left _ c.in_ok-aimed_at.ensures) stands) (ap (telling 12) (sym is))

pub write_sds-requires : goal.write_sds-requires
write_sds-requires c = let aim = aimed_well _ c.in_ok-aimed_at.ensures refl in (sound_long aim.sound, (aim.below, omega arith))

pub returns : goal.returns
returns c =
    let aim = aimed_well _ c.in_ok-aimed_at.ensures refl in
    kept_done aim.sound (ends (passes (types_left _ c.in_ok-aimed_at.ensures) (sds_empty _ _ c.in_default.ensures))) refl
    (c.write_sds.ensures ∙ sds_changed aim.sound _ [] aim.below)
