-- A type gets a name that no other bears.
use Rattle.std.proofs.Common.{refl, sym, ◌∙◌}
use Rattle.rules.proofs.09-Refusals.{passes, stops, ends}
use Rattle.base.proofs.Kept.{kept_refused, kept_done}
use Rattle.change_presences.proofs.RenameLaws.{renaming_left}
use Rattle.change_presences.proofs.rename.give_name.Goals as goal

pub returns-then-is_borne_by_another : goal.returns-then-is_borne_by_another
returns-then-is_borne_by_another c =
    kept_refused c.requires.aim.sound
    (stops (renaming_left _ _ _ _) (sym c.is_borne_by_another.ensures ∙ c.if-is_borne_by_another.true)) refl

pub put_name-requires : goal.put_name-requires
put_name-requires c = record { nameable = c.requires; free = sym c.is_borne_by_another.ensures ∙ c.if-is_borne_by_another.false }

pub returns : goal.returns
returns c =
    kept_done c.requires.aim.sound
    (ends (passes (renaming_left _ _ _ _) (sym c.is_borne_by_another.ensures ∙ c.if-is_borne_by_another.false))) refl c.put_name.ensures
