-- Whether the table of ends is full: for two ends where there is a reverse, and for one.
use Rattle.change_ends.proofs.EndLaws.{full_told}
use Rattle.change_ends.proofs.is_full.Goals as goal

pub returns-then-is_some : goal.returns-then-is_some
returns-then-is_some c = full_told _ c.end_count-n.ensures c.args.reverse c.is_some.ensures c.if-is_some.true

pub returns : goal.returns
returns c = full_told _ c.end_count-n.ensures c.args.reverse c.is_some.ensures c.if-is_some.false
