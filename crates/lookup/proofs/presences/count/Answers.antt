-- What halving finds is the count, since each used row has a name.
use Rattle.base.proofs.Kept.{sound_long}
use Rattle.lookup.proofs.RowBytes.{presences_counted}
use Rattle.lookup.proofs.presences.count.Goals as goal

pub presences_halved-requires : goal.presences_halved-requires
presences_halved-requires c = sound_long c.requires

pub returns : goal.returns
returns c = presences_counted c.requires c.presences_halved.ensures
