-- The type itself, or its reverse.
use Rattle.std.proofs.Common.{◌∙◌}
use Rattle.in_use.proofs.HeldLaws.{either_first, either_last}
use Rattle.in_use.proofs.is_either.Goals as goal

pub returns-then-x-t : goal.returns-then-x-t
returns-then-x-t c = either_first _ _ _ c.if-x-t.true

pub returns-else-x-t : goal.returns-else-x-t
returns-else-x-t c = c.eq.ensures ∙ either_last _ _ c.args.reverse c.if-x-t.false
