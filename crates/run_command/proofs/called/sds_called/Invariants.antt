-- `sds_called`: no SDS passed bears the name.
use Rattle.std.proofs.Common.{◌≡◌, ◌<◌, ℕ, false}
use Rattle.base.specs.Back.{schema_of}
use Rattle.run_command.specs.Called.{called}
use Rattle.run_command.proofs.called.sds_called.Given as goal

abbrev pub invariant-loop-d : goal.invariant-loop-d
invariant-loop-d l = (k : ℕ) → k < l.d → called (schema_of l.base) l.name k ≡ false
