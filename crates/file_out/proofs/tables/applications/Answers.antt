-- No application is in SDS 0, so that halving by the SDS finds the count. Assumes nothing.
use Rattle.base.proofs.Kept.{sound_long}
use Rattle.file_out.proofs.CopiedLaws.{applications_counted}
use Rattle.file_out.proofs.tables.applications.Goals as goal

pub applications_halved-requires : goal.applications_halved-requires
applications_halved-requires c = sound_long c.requires

pub returns : goal.returns
returns c = applications_counted c.requires c.applications_halved.ensures
