-- The presence of a type taken out: its row is the only one.
use Rattle.base.proofs.StoredLaws.{stored_long}
use Rattle.change_presences.proofs.HeldLaws.{row_taken, row_some, row_is}
use Rattle.change_presences.proofs.remove.take_out.Goals as goal

pub presence_row-requires : goal.presence_row-requires
presence_row-requires c = stored_long c.requires.stored

pub unwrap-row-requires : goal.unwrap-row-requires
unwrap-row-requires c = row_some c.requires.held_once _ c.presence_row.ensures.first

pub returns : goal.returns
returns c =
    row_taken c.requires.held_once (row_is c.presence_row.ensures.first c.unwrap-row.ensures) c.requires.stored c.take_presence.ensures
