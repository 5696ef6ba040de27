-- `cases::read::schema_at`: no more are put down than there is room for.
use Rattle.std.proofs.Common.{◌≤◌, length}
use Rattle.cases.proofs.read.schema_at.Given as goal

abbrev pub invariant-loop-c : goal.invariant-loop-c
invariant-loop-c l = l.n ≤ length l.list
