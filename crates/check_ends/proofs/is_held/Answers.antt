-- The bit of the word.
use Rattle.check_held.proofs.HeldLaws.{held_bit}
use Rattle.check_ends.proofs.is_held.Goals as goal

pub returns : goal.returns
returns c = held_bit c.args.d c.args.t c.requires.held_len.1 c.requires.t_lt_types
