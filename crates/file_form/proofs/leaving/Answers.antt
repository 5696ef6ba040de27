-- `file_form::leaving` meets its contract: what is left decides. Assumes nothing.
use Rattle.std.proofs.Common.{arith}
use Rattle.file_form.proofs.Scan.{within_end, within_less, within_more, within_go}
use Rattle.file_form.proofs.leaving.Goals as goal

pub returns-then-x-z : goal.returns-then-x-z
returns-then-x-z c = within_less c.loop-j.invariant (omega arith) (omega arith)

pub returns-then-z-x : goal.returns-then-z-x
returns-then-z-x c = within_more c.loop-j.invariant (omega arith) (omega arith)

pub loop-j-preserved : goal.loop-j-preserved
loop-j-preserved c = within_go c.loop-j.invariant (omega arith) (omega arith)

pub returns : goal.returns
returns c = within_end c.loop-j.invariant (omega arith)
