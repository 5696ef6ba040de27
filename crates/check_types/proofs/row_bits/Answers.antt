-- No bit is set in either number exactly where all eight bytes are 0.
use Rattle.check_types.proofs.NumberLaws.{bits_zero, zero_bits}
use Rattle.check_types.proofs.row_bits.Goals as goal

pub returns-clause-zero : goal.returns-clause-zero
returns-clause-zero c = bits_zero c.requires.0 c.requires.1 c.front.ensures c.places.ensures

pub returns-clause-unused : goal.returns-clause-unused
returns-clause-unused c = zero_bits c.requires.0 c.requires.1 c.front.ensures c.places.ensures
