-- No place that was passed holds the type.
use Rattle.std.proofs.Common.{◌≡◌, ℕ, ◌<◌, ◌≤◌, ◌+◌, get_or}
use Rattle.rules.specs.Read.{parents_offset}
use Rattle.base.specs.Rows.{type_at}
use Rattle.conditions.proofs.is_parent.Given as goal

abbrev pub invariant-loop-i : goal.invariant-loop-i
invariant-loop-i l = (l.i-end ≤ 4) × ((k : ℕ) → k < l.i → get_or l.base (type_at l.t + parents_offset + k) 0 ≡ l.a → ⊥)
