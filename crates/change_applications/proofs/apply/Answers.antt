-- Apply: what was told of its SDS, names and types, its own tests, and the row put in.
use Rattle.std.proofs.Common.{refl, sym, ◌∙◌, arith}
use Rattle.rules.proofs.09-Refusals.{passes, stops, ends}
use Rattle.base.proofs.Kept.{sound_long, kept_refused, kept_done}
use Rattle.base.proofs.StoredLaws.{sound_stored}
use Rattle.base.proofs.TestedLaws.{tested_sound, begun_stops, positive, answer_on}
use Rattle.conditions.proofs.AimedLaws.{aimed_well}
use Rattle.change_applications.proofs.ApplyLaws.{apply_left, past_aimed, past_kinds, same_applied, put_down, full, room, room_left}
use Rattle.change_applications.proofs.apply.Goals as goal

pub returns-in_err-aimed_two : goal.returns-in_err-aimed_two
returns-in_err-aimed_two c = begun_stops _ c.in_err-aimed_two.ensures (positive _) (apply_left _ _ _ _) (answer_on _ _ c.from_residual.ensures)

pub tested-requires : goal.tested-requires
tested-requires c = tested_sound c.in_ok-aimed_two.ensures refl

pub returns-in_err-a : goal.returns-in_err-a
returns-in_err-a c =
    begun_stops _ c.in_err-a.ensures.told (positive _) (past_aimed _ _ _ c.in_ok-aimed_two.ensures (apply_left _ _ _ _))
    (answer_on _ _ c.from_residual-in_err-a.ensures)

pub is_applied-requires : goal.is_applied-requires
is_applied-requires c = sound_long (tested_sound c.in_ok-aimed_two.ensures refl)

pub returns-then-is_applied : goal.returns-then-is_applied
returns-then-is_applied c =
    let aimed = c.in_ok-aimed_two.ensures in
    let x = c.in_ok-a.ensures in
    kept_refused (tested_sound aimed refl)
    (stops (past_kinds _ _ _ aimed x.told (apply_left _ _ _ _)) (sym (same_applied x.so c.is_applied.ensures) ∙ c.if-is_applied.true)) refl

pub application_count-requires : goal.application_count-requires
application_count-requires c = sound_long (tested_sound c.in_ok-aimed_two.ensures refl)

pub returns-then-application_count-ge-APPLICATIONS : goal.returns-then-application_count-ge-APPLICATIONS
returns-then-application_count-ge-APPLICATIONS c =
    let aimed = c.in_ok-aimed_two.ensures in
    let x = c.in_ok-a.ensures in
    kept_refused (tested_sound aimed refl)
    (stops (passes (past_kinds _ _ _ aimed x.told (apply_left _ _ _ _)) (sym (same_applied x.so c.is_applied.ensures) ∙ c.if-is_applied.false))
    (full _ c.application_count.ensures c.if-application_count-ge-APPLICATIONS.true)) refl

pub put_application-requires-clause-stored : goal.put_application-requires-clause-stored
put_application-requires-clause-stored c = sound_stored (tested_sound c.in_ok-aimed_two.ensures refl)

pub put_application-requires-clause-fact : goal.put_application-requires-clause-fact
put_application-requires-clause-fact c =
    let aim = aimed_well _ c.in_ok-aimed_two.ensures refl in
    let both = c.in_ok-a.ensures.so in
    (aim.outside, (omega (arith, aim.below), (omega (arith, both.two.below), omega (arith, both.one.below))))

pub put_application-requires-clause-base_len_bound : goal.put_application-requires-clause-base_len_bound
put_application-requires-clause-base_len_bound c = room_left _ c.application_count.ensures c.if-application_count-ge-APPLICATIONS.false

pub returns : goal.returns
returns c =
    let aimed = c.in_ok-aimed_two.ensures in
    let x = c.in_ok-a.ensures in
    kept_done (tested_sound aimed refl)
    (ends
    (passes (passes (past_kinds _ _ _ aimed x.told (apply_left _ _ _ _)) (sym (same_applied x.so c.is_applied.ensures) ∙ c.if-is_applied.false))
    (room _ c.application_count.ensures c.if-application_count-ge-APPLICATIONS.false)))
    refl (put_down x.so c.put_application.ensures)
