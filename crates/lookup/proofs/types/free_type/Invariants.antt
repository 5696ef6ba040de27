-- Every number that was passed is used.
use Rattle.std.proofs.Common.{◌≡◌, ℕ, ◌<◌, ◌≤◌, true}
use Rattle.rules.specs.04-Schema.{kind_of, is_used}
use Rattle.base.specs.Back.{schema_of}
use Rattle.lookup.proofs.types.free_type.Given as goal

abbrev pub invariant-loop-t : goal.invariant-loop-t
invariant-loop-t l = (k : ℕ) → k < l.t → l.from ≤ k → is_used (kind_of (schema_of l.base) k) ≡ true
