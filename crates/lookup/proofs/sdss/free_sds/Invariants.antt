-- Every number that was passed is used.
use Rattle.std.proofs.Common.{◌≡◌, ℕ, ◌<◌, true}
use Rattle.rules.specs.04-Schema.{used_sds}
use Rattle.base.specs.Back.{schema_of}
use Rattle.lookup.proofs.sdss.free_sds.Given as goal

abbrev pub invariant-loop-d : goal.invariant-loop-d
invariant-loop-d l = (k : ℕ) → k < l.d → used_sds (schema_of l.base) k ≡ true
