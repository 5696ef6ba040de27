-- One test, and then the other.
use Rattle.std.proofs.Common.{arith}
use borrow.Author.Tests.{lt-ltb, le-ltb}
use Rattle.rules.specs.09-Refusals.{unknown_mode}
use Rattle.change_presences.proofs.modes.Modes.is_unknown.Goals as goal

pub returns-then-self-gt-ALL_MODES : goal.returns-then-self-gt-ALL_MODES
unfolding unknown_mode
returns-then-self-gt-ALL_MODES c = rw (lt-ltb 31 c.args.self.usage (omega (arith, c.if-self-gt-ALL_MODES.true)))

pub returns-else-self-gt-ALL_MODES : goal.returns-else-self-gt-ALL_MODES
unfolding unknown_mode
returns-else-self-gt-ALL_MODES c = rw (le-ltb 31 c.args.self.usage (omega (arith, c.if-self-gt-ALL_MODES.false)))
