-- A rename by number: what its tests told, then the name.
use Rattle.std.proofs.Common.{refl, sym, ◌∙◌}
use Rattle.rules.specs.declared.Refused.TheVariants.{NoSuchType}
use Rattle.rules.proofs.NameTests.{type_there, type_missing}
use Rattle.base.proofs.Kept.{sound_long, kept_like}
use Rattle.base.proofs.TestedLaws.{begun_stops, tested_stops, come_next, come_stops, come_through, positive, answer_on, tested_sound}
use Rattle.conditions.proofs.AimedLaws.{come_aimed}
use Rattle.change_presences.proofs.RenameLaws.{number_left, nameable_number, number_on}
use Rattle.change_presences.proofs.rename.rename_number.Goals as goal

pub returns-in_err-aimed : goal.returns-in_err-aimed
returns-in_err-aimed c = begun_stops _ c.in_err-aimed.ensures (positive _) (number_left _ _ _ _) (answer_on _ _ c.from_residual.ensures)

pub is_present-requires : goal.is_present-requires
is_present-requires c = sound_long (tested_sound c.in_ok-aimed.ensures refl)

pub returns-then-not-is_present : goal.returns-then-not-is_present
returns-then-not-is_present c =
    tested_stops
    (come_stops (come_aimed _ c.in_ok-aimed.ensures refl _) (type_missing _ _ _ (sym c.is_present.ensures ∙ c.if-not-is_present.true)) refl)
    (positive NoSuchType) (number_left _ _ _ _) refl

pub give_name-requires : goal.give_name-requires
give_name-requires c =
    nameable_number _ _ _
    (come_through
    (come_next (come_aimed _ c.in_ok-aimed.ensures refl _) (type_there _ _ _ (sym c.is_present.ensures ∙ c.if-not-is_present.false))))

pub returns : goal.returns
returns c =
    kept_like
    (number_on _ _ _
    (come_through
    (come_next (come_aimed _ c.in_ok-aimed.ensures refl _) (type_there _ _ _ (sym c.is_present.ensures ∙ c.if-not-is_present.false)))))
    c.give_name.ensures
