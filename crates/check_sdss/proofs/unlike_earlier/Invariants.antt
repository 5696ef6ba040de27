-- Each field passed before d has another name.
use Rattle.std.proofs.Common.{ℕ, ◌<◌, ◌≡◌, true}
use Rattle.rules.specs.02-Limits.{limits}
use Rattle.rules.specs.03-Names.{same_name}
use Rattle.rows.specs.Rows.{part}
use Rattle.base.specs.Rows.{sds_at}
use Rattle.check_sdss.proofs.unlike_earlier.Given as goal

abbrev pub invariant-loop-e : goal.invariant-loop-e
invariant-loop-e l = (k : ℕ) → k < l.e → same_name (part l.base (sds_at l.d) limits.name) (part l.base (sds_at k) limits.name) ≡ true → ⊥
