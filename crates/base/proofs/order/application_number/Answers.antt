-- `base::order::application_number` meets its contract: the number of a row, byte by byte.
use Rattle.std.proofs.Common.{arith}
use Rattle.rows.proofs.OrderLaws.{number_three}
use Rattle.base.specs.Rows.{application_at}
use Rattle.base.proofs.order.application_number.Goals as goal

pub returns : goal.returns
returns c = omega (arith, number_three c.args.base.now (application_at c.args.i) (omega arith))
