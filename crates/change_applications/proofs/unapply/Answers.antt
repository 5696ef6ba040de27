-- Unapply: what was told of its SDS, names and types, its own test, and the row taken out.
use Rattle.std.proofs.Common.{refl, arith}
use Rattle.rules.proofs.09-Refusals.{passes, stops, ends}
use Rattle.base.proofs.Kept.{sound_long, kept_refused, kept_done}
use Rattle.base.proofs.StoredLaws.{sound_stored}
use Rattle.base.proofs.TestedLaws.{tested_sound, begun_stops, positive, answer_on}
use Rattle.change_applications.proofs.ApplyLaws.{unapply_left, past_aimed, past_kinds, row_none, row_some, taken_off}
use Rattle.change_applications.proofs.unapply.Goals as goal

pub returns-in_err-aimed_two : goal.returns-in_err-aimed_two
returns-in_err-aimed_two c = begun_stops _ c.in_err-aimed_two.ensures (positive _) (unapply_left _ _ _ _) (answer_on _ _ c.from_residual.ensures)

pub tested-requires : goal.tested-requires
tested-requires c = tested_sound c.in_ok-aimed_two.ensures refl

pub returns-in_err-a : goal.returns-in_err-a
returns-in_err-a c =
    begun_stops _ c.in_err-a.ensures.told (positive _) (past_aimed _ _ _ c.in_ok-aimed_two.ensures (unapply_left _ _ _ _))
    (answer_on _ _ c.from_residual-in_err-a.ensures)

pub application_row-requires : goal.application_row-requires
application_row-requires c = sound_long (tested_sound c.in_ok-aimed_two.ensures refl)

pub returns-in_default : goal.returns-in_default
returns-in_default c =
    let aimed = c.in_ok-aimed_two.ensures in
    let x = c.in_ok-a.ensures in
    kept_refused (tested_sound aimed refl)
    (stops (past_kinds _ _ _ aimed x.told (unapply_left _ _ _ _)) (row_none x.so c.in_default.ensures.first (omega arith))) refl

pub take_application-requires-clause-stored : goal.take_application-requires-clause-stored
take_application-requires-clause-stored c = sound_stored (tested_sound c.in_ok-aimed_two.ensures refl)

pub returns : goal.returns
returns c =
    let aimed = c.in_ok-aimed_two.ensures in
    let sound = tested_sound aimed refl in
    let x = c.in_ok-a.ensures in
    let found = c.in-Some.ensures in
    kept_done sound
    (ends (passes (past_kinds _ _ _ aimed x.told (unapply_left _ _ _ _)) (row_some x.so found.first found.below))) refl
    (taken_off x.so found.first sound found.below c.take_application.ensures)
