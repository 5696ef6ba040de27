-- No SDS that was passed has the name.
use Rattle.std.proofs.Common.{◌≡◌, ℕ, ◌<◌, false}
use Rattle.rules.specs.03-Names.{same_name}
use Rattle.rules.specs.04-Schema.{sds_name}
use Rattle.base.specs.Back.{schema_of}
use Rattle.lookup.proofs.sdss.has_sds_named.Given as goal

abbrev pub invariant-loop-d : goal.invariant-loop-d
invariant-loop-d l = (k : ℕ) → k < l.d → same_name (sds_name (schema_of l.base) k) l.name ≡ false
