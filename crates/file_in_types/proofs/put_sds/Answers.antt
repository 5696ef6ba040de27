-- `file_in_types::put_sds` meets its contract: a number past the last SDS, or a name over its row. Assumes nothing.
use Rattle.std.proofs.Common.{arith}
use Rattle.file_in_types.proofs.StepLaws.{sds_past, sds_done}
use Rattle.file_in_types.proofs.put_sds.Goals as goal

pub returns-then-d-ge-SDSS : goal.returns-then-d-ge-SDSS
returns-then-d-ge-SDSS c = sds_past c.args.entry.now c.args.area.now c.from-d.result c.from-d.ensures (omega arith)

pub returns : goal.returns
returns c = sds_done c.args.entry.now c.args.area.now c.from-d.result c.from-d.ensures (omega arith) c.write.ensures
