-- `base::write_fresh` meets its contract: a fresh base is zero but for two names, a kind and its modes.
use Rattle.base.proofs.Fresh.{fresh_done}
use Rattle.base.proofs.write_fresh.Goals as goal

pub returns : goal.returns
returns c = fresh_done c.requires c.clear.ensures c.write.ensures c.write-2.ensures
