-- A new pair: what its places tell are its refusals; then each type's row and presence.
use Rattle.std.proofs.Common.{refl, arith}
use Rattle.rules.specs.01-Lists.{all}
use Rattle.base.proofs.StoredLaws.{sound_stored, shows_stored}
use Rattle.base.proofs.TestedLaws.{tested_stops, tested_passes, positive, answer_on}
use Rattle.edit.proofs.TypeWritten.{paired_written}
use Rattle.change_types.proofs.CreateLaws.{room_typed, free_typed}
use Rattle.change_pairs.proofs.PairLaws.{new_pair_left, forward, reverse_room, reverse_unborne, pair_kept}
use Rattle.change_pairs.proofs.new_pair.Goals as goal

pub returns-in_err-t : goal.returns-in_err-t
returns-in_err-t c = tested_stops c.in_err-t.ensures.told (positive _) (new_pair_left _ _ _ _ _ _) (answer_on _ _ c.from_residual.ensures)

pub write_type-requires-clause-stored : goal.write_type-requires-clause-stored
write_type-requires-clause-stored c = sound_stored c.in_ok-t.ensures.so.aim.sound

pub put_presence-requires-clause-stored : goal.put_presence-requires-clause-stored
put_presence-requires-clause-stored c = shows_stored (paired_written c.in_ok-t.ensures.so.categories.0 c.write_type.ensures)

pub put_presence-requires-clause-base_len_bound : goal.put_presence-requires-clause-base_len_bound
put_presence-requires-clause-base_len_bound c =
    let x = c.in_ok-t.ensures.so in
    room_typed _ _ _ (paired_written x.categories.0 c.write_type.ensures) c.args.sds c.args.name.now (omega (arith, x.room.room))

pub put_presence-requires-clause-name_value_2 : goal.put_presence-requires-clause-name_value_2
put_presence-requires-clause-name_value_2 c =
    let x = c.in_ok-t.ensures.so in
    free_typed _ _ _ (paired_written x.categories.0 c.write_type.ensures) _ _ x.free

pub write_type-requires-2-clause-stored : goal.write_type-requires-2-clause-stored
write_type-requires-2-clause-stored c =
    let x = c.in_ok-t.ensures.so in
    shows_stored (forward x (paired_written x.categories.0 c.write_type.ensures) c.put_presence.ensures)

pub put_presence-requires-2-clause-stored : goal.put_presence-requires-2-clause-stored
put_presence-requires-2-clause-stored c = shows_stored (paired_written c.in_ok-t.ensures.so.categories.1 c.write_type-2.ensures)

pub put_presence-requires-2-clause-base_len_bound : goal.put_presence-requires-2-clause-base_len_bound
put_presence-requires-2-clause-base_len_bound c =
    let x = c.in_ok-t.ensures.so in
    reverse_room x (paired_written x.categories.0 c.write_type.ensures) c.put_presence.ensures
    (paired_written x.categories.1 c.write_type-2.ensures)

pub put_presence-requires-2-clause-name_value_2 : goal.put_presence-requires-2-clause-name_value_2
put_presence-requires-2-clause-name_value_2 c =
    let x = c.in_ok-t.ensures.so in
    reverse_unborne x (paired_written x.categories.0 c.write_type.ensures) c.put_presence.ensures
    (paired_written x.categories.1 c.write_type-2.ensures)

pub returns : goal.returns
unfolding all
returns c =
    let p = c.in_ok-t.ensures in
    pair_kept p.so (paired_written p.so.categories.0 c.write_type.ensures) c.put_presence.ensures
    (paired_written p.so.categories.1 c.write_type-2.ensures) (tested_passes p.told refl refl (new_pair_left _ _ _ _ _ _)) refl
    c.put_presence-2.ensures
