-- A rename: what its tests told, then the name.
use Rattle.std.proofs.Common.{refl}
use Rattle.base.proofs.Kept.{kept_like}
use Rattle.base.proofs.TestedLaws.{begun_stops, come_rest, positive, answer_on, tested_sound}
use Rattle.conditions.proofs.AimedLaws.{come_aimed}
use Rattle.change_presences.proofs.RenameLaws.{rename_left, nameable_named, named_on}
use Rattle.change_presences.proofs.rename.rename.Goals as goal

pub returns-in_err-aimed_two : goal.returns-in_err-aimed_two
returns-in_err-aimed_two c =
    begun_stops _ c.in_err-aimed_two.ensures (positive _) (rename_left _ _ _ _) (answer_on _ _ c.from_residual.ensures)

pub named-requires : goal.named-requires
named-requires c = tested_sound c.in_ok-aimed_two.ensures refl

pub returns-in_err-found : goal.returns-in_err-found
returns-in_err-found c =
    begun_stops _ (come_rest (come_aimed _ c.in_ok-aimed_two.ensures refl _) c.in_err-found.ensures.told) (positive _) (rename_left _ _ _ _)
    (answer_on _ _ c.from_residual-in_err-found.ensures)

pub give_name-requires : goal.give_name-requires
give_name-requires c =
    nameable_named _ _ _ (come_rest (come_aimed _ c.in_ok-aimed_two.ensures refl _) c.in_ok-found.ensures.told) c.in_ok-found.ensures.so

pub returns : goal.returns
returns c =
    kept_like (named_on _ _ _ (come_rest (come_aimed _ c.in_ok-aimed_two.ensures refl _) c.in_ok-found.ensures.told) c.in_ok-found.ensures.so)
    c.give_name.ensures
