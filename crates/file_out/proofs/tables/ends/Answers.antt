-- No end is in SDS 0, so that halving by the SDS finds the count. Assumes nothing.
use Rattle.base.proofs.Kept.{sound_long}
use Rattle.file_out.proofs.CopiedLaws.{ends_counted}
use Rattle.file_out.proofs.tables.ends.Goals as goal

pub ends_halved-requires : goal.ends_halved-requires
ends_halved-requires c = sound_long c.requires

pub returns : goal.returns
returns c = ends_counted c.requires c.ends_halved.ensures
