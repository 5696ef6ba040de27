-- `cases::read::number_at`: the number stays within what `with_digit` takes.
use Rattle.std.proofs.Common.{◌≤◌}
use Rattle.cases.proofs.read.number_at.Given as goal

abbrev pub invariant-loop-c : goal.invariant-loop-c
invariant-loop-c l = l.n ≤ 1000000255
