-- No bit is set in any of the words and numbers.
use Rattle.check_types.proofs.NumberLaws.{four_unheld}
use Rattle.check_types.proofs.four_unused.Goals as goal

pub returns : goal.returns
returns c =
    four_unheld c.args.t _ _ _ _ c.requires.1.1.0 c.row_bits.ensures.zero c.row_bits-2.ensures.zero
    c.row_bits-3.ensures.zero c.row_bits-4.ensures.zero
