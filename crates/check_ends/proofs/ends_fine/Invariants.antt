-- The loop keeps that each row passed is fine, and the balance.
use Rattle.std.proofs.Common.{◌-◌}
use Rattle.check_ends.proofs.PassLaws.{Going}
use Rattle.check_ends.proofs.ends_fine.Given as goal

abbrev pub invariant-loop-before : goal.invariant-loop-before
invariant-loop-before l = Going l.base l.n l.i l.before l.number l.balance l.group

abbrev pub decreases-loop-before : goal.decreases-loop-before
decreases-loop-before l = l.n - l.i
