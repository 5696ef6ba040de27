-- A type that is in no SDS any more: its row is cleared where no presence is left.
use Rattle.std.proofs.Common.{sym, ◌∙◌}
use Rattle.base.proofs.StoredLaws.{stored_long}
use Rattle.edit.proofs.TypeWritten.{unused_written}
use Rattle.change_presences.proofs.RemoveLaws.{stays, gone}
use Rattle.change_presences.proofs.remove.drop_if_gone.Goals as goal

pub is_elsewhere-requires : goal.is_elsewhere-requires
is_elsewhere-requires c = stored_long c.requires.stored

pub returns-then-not-is_elsewhere : goal.returns-then-not-is_elsewhere
returns-then-not-is_elsewhere c = gone _ _ (sym c.is_elsewhere.ensures ∙ c.if-not-is_elsewhere.true) (unused_written c.write_type.ensures)

pub returns-else-not-is_elsewhere : goal.returns-else-not-is_elsewhere
returns-else-not-is_elsewhere c = stays _ _ c.requires.stored (sym c.is_elsewhere.ensures ∙ c.if-not-is_elsewhere.false)
