-- `graph::is_acyclic`: the types from t on are settled.
use Rattle.std.proofs.Common.{◌≡◌, ℕ, ◌<◌, ◌≤◌, true}
use Rattle.base.specs.Back.{schema_of}
use Rattle.type_set.specs.Set.{has}
use Rattle.graph.specs.Graph.{AllGrounded}
use Rattle.graph.proofs.is_acyclic.Given as goal

abbrev pub invariant-loop-t : goal.invariant-loop-t
invariant-loop-t l = record {
  grounded : AllGrounded (schema_of l.base) (has l.settled);
  passed : (k : ℕ) → k < 128 → l.t ≤ k → has l.settled k ≡ true;
}
