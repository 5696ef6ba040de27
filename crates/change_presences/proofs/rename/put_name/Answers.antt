-- A type gets a name: the row is taken out and put in again.
use Rattle.std.proofs.Common.{inl}
use Rattle.base.proofs.Back.{sound_good}
use Rattle.base.proofs.Kept.{sound_long}
use Rattle.base.proofs.StoredLaws.{sound_stored, shows_stored}
use Rattle.change_presences.proofs.HeldLaws.{held, row_some, row_is, row_reads, some_below}
use Rattle.change_presences.proofs.RenameLaws.{room_then, name_free, put_again}
use Rattle.change_presences.proofs.rename.put_name.Goals as goal

pub presence_row-requires : goal.presence_row-requires
presence_row-requires c = sound_long c.requires.nameable.aim.sound

pub unwrap-row-requires : goal.unwrap-row-requires
unwrap-row-requires c =
    let x = c.requires.nameable in
    row_some (held (sound_good x.aim.sound) _ _ x.there) _ c.presence_row.ensures.first

pub presence_usage-usage-requires : goal.presence_usage-usage-requires
presence_usage-usage-requires c = row_reads c.requires.nameable.aim.sound c.presence_row.ensures.below c.unwrap-row.ensures

pub presence_definition-definition-requires : goal.presence_definition-definition-requires
presence_definition-definition-requires c = row_reads c.requires.nameable.aim.sound c.presence_row.ensures.below c.unwrap-row.ensures

pub take_presence-requires-clause-stored : goal.take_presence-requires-clause-stored
take_presence-requires-clause-stored c = sound_stored c.requires.nameable.aim.sound

pub put_with_modes-requires-clause-stored : goal.put_with_modes-requires-clause-stored
put_with_modes-requires-clause-stored c = shows_stored c.take_presence.ensures

pub put_with_modes-requires-clause-base_len_bound : goal.put_with_modes-requires-clause-base_len_bound
put_with_modes-requires-clause-base_len_bound c =
    let row = c.presence_row.ensures in
    let is = c.unwrap-row.ensures in
    room_then c.requires.nameable.aim.sound (row_is row.first is) (some_below row.below is) c.take_presence.ensures

pub put_with_modes-requires-clause-fact_2 : goal.put_with_modes-requires-clause-fact_2
put_with_modes-requires-clause-fact_2 c =
    let row = c.presence_row.ensures in
    let is = c.unwrap-row.ensures in
    let x = c.requires.nameable in
    inl (name_free x.aim.sound (row_is row.first is) (some_below row.below is) c.take_presence.ensures c.args.name.now x.formed c.requires.free)

pub returns : goal.returns
returns c =
    let row = c.presence_row.ensures in
    let is = c.unwrap-row.ensures in
    put_again c.requires.nameable.aim.sound (row_is row.first is) (some_below row.below is) c.take_presence.ensures c.args.name.now
    c.presence_usage-usage.ensures.is c.presence_definition-definition.ensures.is c.put_with_modes.ensures
