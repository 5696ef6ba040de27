-- `graph::unsettled_parent`: each place that was passed holds a type that is settled.
use Rattle.std.proofs.Common.{◌≡◌, ℕ, ◌+◌, ◌<◌, true, get_or}
use Rattle.rules.specs.Read.{parents_offset}
use Rattle.base.specs.Rows.{type_at}
use Rattle.type_set.specs.Set.{has}
use Rattle.graph.proofs.unsettled_parent.Given as goal

abbrev pub invariant-loop-i : goal.invariant-loop-i
invariant-loop-i l = (k : ℕ) → k < l.i → has l.settled (get_or l.base (type_at l.t + parents_offset + k) 0) ≡ true
