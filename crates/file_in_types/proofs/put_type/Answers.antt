-- `file_in_types::put_type` meets its contract: a number past the last type, or a row. Assumes nothing.
use Rattle.std.proofs.Common.{arith}
use Rattle.file_in_types.proofs.StepLaws.{type_past, type_done}
use Rattle.file_in_types.proofs.put_type.Goals as goal

pub returns-then-t-ge-TYPES : goal.returns-then-t-ge-TYPES
returns-then-t-ge-TYPES c = type_past c.args.entry.now c.args.area.now c.from-t.result c.from-t.ensures (omega arith)

pub returns : goal.returns
returns c = type_done c.args.entry.now c.args.area.now c.from-t.result c.from-t.ensures (omega arith) c.write.ensures
