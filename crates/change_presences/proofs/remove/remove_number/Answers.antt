-- A removal by number: what its tests told, then the type.
use Rattle.std.proofs.Common.{refl, sym, ◌∙◌}
use Rattle.rules.specs.declared.Refused.TheVariants.{NoSuchType}
use Rattle.rules.specs.01-Lists.{all}
use Rattle.rules.proofs.NameTests.{type_there, type_missing}
use Rattle.base.proofs.Kept.{sound_long, kept_like}
use Rattle.base.proofs.TestedLaws.{begun_stops, tested_stops, come_next, come_stops, come_through, positive, answer_on, tested_sound}
use Rattle.conditions.proofs.AimedLaws.{come_on}
use Rattle.change_presences.proofs.RemoveLaws.{number_left, remove_there}
use Rattle.change_presences.proofs.remove.remove_number.Goals as goal

pub returns-in_err-aimed_at : goal.returns-in_err-aimed_at
returns-in_err-aimed_at c = begun_stops _ c.in_err-aimed_at.ensures (positive _) (number_left _ _ _) (answer_on _ _ c.from_residual.ensures)

pub is_present-requires : goal.is_present-requires
is_present-requires c = sound_long (tested_sound c.in_ok-aimed_at.ensures refl)

pub returns-then-not-is_present : goal.returns-then-not-is_present
unfolding all
returns-then-not-is_present c =
    tested_stops
    (come_stops (come_on c.in_ok-aimed_at.ensures refl refl _) (type_missing _ _ _ (sym c.is_present.ensures ∙ c.if-not-is_present.true)) refl)
    (positive NoSuchType) (number_left _ _ _) refl

pub remove-requires : goal.remove-requires
remove-requires c = (tested_sound c.in_ok-aimed_at.ensures refl, sym c.is_present.ensures ∙ c.if-not-is_present.false)

pub returns : goal.returns
unfolding all
returns c =
    kept_like
    (remove_there _ _
    (come_through
    (come_next (come_on c.in_ok-aimed_at.ensures refl refl _) (type_there _ _ _ (sym c.is_present.ensures ∙ c.if-not-is_present.false)))))
    c.remove.ensures
