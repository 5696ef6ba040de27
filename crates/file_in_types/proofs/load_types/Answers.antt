-- `file_in_types::load_types` meets its contract: an area of zeros, and into it the three sections, each from where the one before ended.
-- Assumes nothing.
use Rattle.file_in_types.proofs.FileLaws.{types_loaded}
use Rattle.file_in_types.proofs.load_types.Goals as goal

pub returns : goal.returns
returns c =
    types_loaded c.requires c.clear.ensures c.put_section-types_at.ensures c.put_section-parents_at.ensures c.put_section.ensures
