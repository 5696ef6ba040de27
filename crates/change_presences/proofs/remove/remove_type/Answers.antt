-- A removal by name: what its tests told, then the type.
use Rattle.std.proofs.Common.{refl}
use Rattle.rules.specs.01-Lists.{all}
use Rattle.rules.proofs.08-Working.{named_present}
use Rattle.base.proofs.Kept.{kept_like}
use Rattle.base.proofs.TestedLaws.{begun_stops, come_rest, positive, answer_on, tested_sound}
use Rattle.conditions.proofs.AimedLaws.{all_passed, come_aimed, name_borne}
use Rattle.change_presences.proofs.RemoveLaws.{remove_left, remove_named}
use Rattle.change_presences.proofs.remove.remove_type.Goals as goal

pub returns-in_err-aimed : goal.returns-in_err-aimed
returns-in_err-aimed c = begun_stops _ c.in_err-aimed.ensures (positive _) (remove_left _ _ _) (answer_on _ _ c.from_residual.ensures)

pub named-requires : goal.named-requires
named-requires c = tested_sound c.in_ok-aimed.ensures refl

pub returns-in_err-t : goal.returns-in_err-t
returns-in_err-t c =
    begun_stops _ (come_rest (come_aimed _ c.in_ok-aimed.ensures refl _) c.in_err-t.ensures.told) (positive _) (remove_left _ _ _)
    (answer_on _ _ c.from_residual-in_err-t.ensures)

pub remove-requires : goal.remove-requires
unfolding all
remove-requires c =
    let missing = (all_passed c.in_ok-t.ensures.told refl refl).fails 6 in
    (tested_sound c.in_ok-aimed.ensures refl, named_present _ _ _ (name_borne _ _ _ missing) c.in_ok-t.ensures.so.named)

pub returns : goal.returns
returns c =
    kept_like (remove_named _ _ (come_rest (come_aimed _ c.in_ok-aimed.ensures refl _) c.in_ok-t.ensures.told) c.in_ok-t.ensures.so)
    c.remove.ensures
