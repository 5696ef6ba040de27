-- `file_sections::entries` meets its contract: as many as are counted are cut out. Assumes nothing.
use Rattle.std.proofs.Common.{arith}
use Rattle.file_sections.proofs.SectionLaws.{entries_some}
use Rattle.file_sections.proofs.entries.Goals as goal

pub returns : goal.returns
returns c = entries_some c.args.file.now c.args.at c.args.w c.args.most (omega arith) c.in_ok-n.n c.in_ok-n.ensures (omega arith)
