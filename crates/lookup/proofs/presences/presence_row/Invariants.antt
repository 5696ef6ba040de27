-- No row that was passed says so.
use Rattle.std.proofs.Common.{ℕ, ◌<◌}
use Rattle.lookup.specs.Found.{RowOf}
use Rattle.lookup.proofs.presences.presence_row.Given as goal

abbrev pub invariant-loop-i : goal.invariant-loop-i
invariant-loop-i l = (k : ℕ) → k < l.i → RowOf l.base k l.d l.t → ⊥
