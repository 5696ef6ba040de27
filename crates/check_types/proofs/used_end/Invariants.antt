-- The loop keeps that the types from four times n on are unused.
use Rattle.std.proofs.Common.{◌≤◌, ◌*◌}
use Rattle.check_types.specs.OneType.{UnheldFrom}
use Rattle.check_types.proofs.used_end.Given as goal

abbrev pub invariant-loop-n : goal.invariant-loop-n
invariant-loop-n l = (1 ≤ l.n) × (l.n ≤ 32) × UnheldFrom l.base l.held (l.n * 4)
