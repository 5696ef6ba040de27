-- `base::order::end_number` meets its contract: the number of a row, byte by byte.
use Rattle.std.proofs.Common.{arith}
use Rattle.rows.proofs.OrderLaws.{number_four}
use Rattle.base.specs.Rows.{end_at}
use Rattle.base.proofs.order.end_number.Goals as goal

pub returns : goal.returns
returns c = omega (arith, number_four c.args.base.now (end_at c.args.i) (omega arith))
