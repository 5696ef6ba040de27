-- The numbers passed rise, and each row passed is fine where the last number is that of an SDS.
use Rattle.std.proofs.Common.{◌≡◌, ℕ, ◌/◌, ◌<◌}
use Rattle.rows.specs.Order.{number_passed}
use Rattle.base.specs.Tables.{applications}
use Rattle.base.specs.Rows.{application_at}
use Rattle.check_applications.specs.Applied.{RowFine}
use Rattle.check_applications.proofs.applications_fine.Given as goal

abbrev pub invariant-loop-i : goal.invariant-loop-i
invariant-loop-i l =
    record {
      place : l.at ≡ application_at l.i;
      small : l.before < 4294967296;
      passed : l.before / 256 ≡ number_passed 65535 l.base applications.start applications.width l.i;
      fine : l.before / 256 < 1048576 → (k : ℕ) → k < l.i → RowFine l.base k;
    }
