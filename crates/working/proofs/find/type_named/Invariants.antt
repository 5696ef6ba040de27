-- No SDS that was passed has the name.
use Rattle.std.proofs.Common.{◌≡◌, ℕ, ◌<◌, false, get_or}
use Rattle.rules.specs.04-Schema.{bears}
use Rattle.base.specs.Back.{schema_of}
use Rattle.working.proofs.find.type_named.Given as goal

abbrev pub invariant-loop-d : goal.invariant-loop-d
invariant-loop-d l = (k : ℕ) → k < l.d-index → bears (schema_of l.base) (get_or l.schema k 0) l.name ≡ false
