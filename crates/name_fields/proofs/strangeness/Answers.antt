-- `name_fields::strangeness` meets its contract, for each of the 256 bytes.
use Rattle.std.proofs.Common.{arith}
use Rattle.name_fields.proofs.StandLaws.{strange}
use Rattle.name_fields.proofs.strangeness.Goals as goal

pub returns : goal.returns
returns c =
    strange c.args.c (omega arith) c.saturating_sub-letter.ensures c.saturating_sub-digit.ensures c.min.ensures c.min-2.ensures c.min-3.ensures
