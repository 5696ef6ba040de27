-- `kin::unlisted`: no row that was passed is in one of these SDSs.
use Rattle.std.proofs.Common.{◌≡◌, ℕ, ◌<◌, false}
use Rattle.base.specs.Back.{presence_shown}
use Rattle.type_set.specs.Set.{bit}
use Rattle.kin.specs.Kin.{looked_at}
use Rattle.kin.proofs.unlisted.Given as goal

abbrev pub invariant-loop-i : goal.invariant-loop-i
invariant-loop-i l = (j : ℕ) → j < l.i → bit l.sdss (presence_shown l.base (looked_at l.rows.from l.rows.count l.rows.down j)).sds ≡ false
