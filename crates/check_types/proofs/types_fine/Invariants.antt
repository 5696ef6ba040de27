-- The loop keeps that the types from t on are fine, and while none is numbered otherwise their parents are numbered below them.
use Rattle.std.proofs.Common.{◌≡◌, ℕ, ◌≤◌, ◌<◌}
use Rattle.lookup.proofs.KindBytes.{count_byte}
use Rattle.check_types.specs.declared.Numbering.TheVariants.{Below}
use Rattle.check_types.specs.OneType.{ParentsBelow, TypeFine}
use Rattle.check_types.proofs.types_fine.Given as goal

abbrev pub invariant-loop-t : goal.invariant-loop-t
invariant-loop-t l =
    (l.t ≤ 128) × ((k : ℕ) → k < 128 → l.t ≤ k → TypeFine l.base l.held k)
    × (l.numbering ≡ Below → (k : ℕ) → k < 128 → l.t ≤ k → ParentsBelow l.base k (count_byte l.base k) k)
