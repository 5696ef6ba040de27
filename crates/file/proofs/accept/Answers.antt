-- `file::accept` meets its contract: what was loaded decides, and is copied only then. Assumes nothing.
use Rattle.file.proofs.FileLaws.{accepts}
use Rattle.file.proofs.accept.Goals as goal

pub returns : goal.returns
returns c = accepts c.load.ensures c.is_told_by-good.ensures c.copy_if.ensures
