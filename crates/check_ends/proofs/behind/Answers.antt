-- The mirror is near.
use Rattle.std.proofs.Common.{arith, sym, ◌∙◌}
use Rattle.check_ends.proofs.RowLaws.{row_past_at}
use Rattle.check_ends.proofs.behind.Goals as goal

pub returns-then-end_number-mirror : goal.returns-then-end_number-mirror
returns-then-end_number-mirror c =
    row_past_at (omega (arith, c.requires.near_bound), sym c.end_number.ensures ∙ c.if-end_number-mirror.true)
