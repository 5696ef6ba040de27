-- what `rows::used::filled` keeps: no row passed is zero
use Rattle.std.proofs.Common.{◌≡◌, ℕ, ◌<◌, replicate}
use Rattle.rows.specs.Rows.{row_at}
use Rattle.rows.proofs.used.filled.Given as goal

abbrev pub invariant-loop-k : goal.invariant-loop-k
invariant-loop-k l = (j : ℕ) → j < l.k → row_at l.base l.start l.width j ≡ replicate l.width 0 → ⊥
