-- Each row is passed by its test.
use Rattle.std.proofs.Common.{sym, ◌∙◌}
use borrow.Author.Count.{below_more}
use Rattle.lookup.proofs.named.row_named.Goals as goal

pub loop-row-preserved : goal.loop-row-preserved
loop-row-preserved c = below_more _ _ c.loop-row.invariant (sym c.is_named.ensures ∙ c.if-is_named.false)
