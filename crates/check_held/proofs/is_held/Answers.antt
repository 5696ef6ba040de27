-- A bit of a word tells what the SDS holds.
use Rattle.check_held.proofs.HeldLaws.{held_bit}
use Rattle.check_held.proofs.is_held.Goals as goal

pub returns-then-t-lt-TYPES : goal.returns-then-t-lt-TYPES
returns-then-t-lt-TYPES c = let within = c.if-t-lt-TYPES.true in held_bit c.args.d c.args.t within.0 within.1
