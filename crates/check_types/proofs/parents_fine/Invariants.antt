-- The loop keeps that the parents from place i on are fine, with the number of the one in place i.
use Rattle.std.proofs.Common.{◌≡◌, ℕ, ◌≤◌, ◌<◌}
use Rattle.lookup.proofs.KindBytes.{parent_byte}
use Rattle.check_types.specs.OneType.{ParentBefore}
use Rattle.check_types.proofs.parents_fine.Given as goal

abbrev pub invariant-loop-i : goal.invariant-loop-i
invariant-loop-i l =
    (l.i ≤ l.n) × (l.most < 128) × (l.most ≡ parent_byte l.base l.t l.i) × ((k : ℕ) → k < l.n → l.i ≤ k → ParentBefore l.base l.held l.t l.sdss k)
