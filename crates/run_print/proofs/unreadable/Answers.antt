-- `unreadable`: one byte is put down at the start.
use Rattle.std.proofs.Common.{arith}
use Rattle.run_print.proofs.PrintLaws.{printed_byte}
use Rattle.run_print.proofs.unreadable.Goals as goal

pub returns : goal.returns
returns c = printed_byte c.args.out.now 0 63 (omega (arith, c.requires))
