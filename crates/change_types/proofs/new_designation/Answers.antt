-- A new designation link type: what its place tells are its refusals, then its row and its presence.
use Rattle.std.proofs.Common.{refl}
use Rattle.rules.specs.01-Lists.{all}
use Rattle.base.proofs.StoredLaws.{sound_stored, shows_stored}
use Rattle.base.proofs.TestedLaws.{tested_stops, tested_passes, positive, answer_on}
use Rattle.edit.proofs.TypeWritten.{designation_written}
use Rattle.change_types.proofs.CreateLaws.{room_typed, free_typed, made_kept, new_designation_left}
use Rattle.change_types.proofs.new_designation.Goals as goal

pub returns-in_err-t : goal.returns-in_err-t
returns-in_err-t c = tested_stops c.in_err-t.ensures.told (positive _) (new_designation_left _ _ _) (answer_on _ _ c.from_residual.ensures)

pub write_type-requires-clause-stored : goal.write_type-requires-clause-stored
write_type-requires-clause-stored c = sound_stored c.in_ok-t.ensures.so.aim.sound

pub put_presence-requires-clause-stored : goal.put_presence-requires-clause-stored
put_presence-requires-clause-stored c = shows_stored (designation_written c.write_type.ensures)

pub put_presence-requires-clause-base_len_bound : goal.put_presence-requires-clause-base_len_bound
put_presence-requires-clause-base_len_bound c =
    room_typed _ _ _ (designation_written c.write_type.ensures) c.args.sds c.args.name.now c.in_ok-t.ensures.so.room.room

pub put_presence-requires-clause-name_value_2 : goal.put_presence-requires-clause-name_value_2
put_presence-requires-clause-name_value_2 c =
    free_typed _ _ _ (designation_written c.write_type.ensures) _ _ c.in_ok-t.ensures.so.room.free

pub returns : goal.returns
unfolding all
returns c =
    let p = c.in_ok-t.ensures in
    made_kept p.so _ (designation_written c.write_type.ensures)
    (tested_passes p.told refl refl (new_designation_left _ _ _)) refl c.put_presence.ensures
