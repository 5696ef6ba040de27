-- The rows passed follow each other and are gathered, and the last of them has made the floor.
use Rattle.std.proofs.Common.{◌≡◌, ◌-◌}
use Rattle.base.specs.Rows.{presence_at}
use Rattle.check_presences.proofs.PassedLaws.{Passed}
use Rattle.check_presences.proofs.rows_fine.Given as goal

abbrev pub invariant-loop-i : goal.invariant-loop-i
invariant-loop-i l = record { place : l.at ≡ presence_at l.i; passed : Passed l.base (l.i - 1) l.floor l.held }
