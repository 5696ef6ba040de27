-- `rows::used::filled` meets its contract: a row passed does not begin with 0, or was seen not to be zero.
use Rattle.std.proofs.Common.{◌≡◌, ◌+◌, ◌*◌, arith, below_more, replicate}
use Rattle.rows.specs.Rows.{row_at}
use Rattle.rows.proofs.Scan.{first_used, room_zero}
use Rattle.rows.proofs.used.filled.Goals as goal
use Rattle.rows.proofs.used.filled.Goals.{else-base-at-eq0-via-then-base-at-eq0+else-is_zero, else-base-at-eq0-via-else-base-at-eq0}

pub loop-k-preserved : goal.loop-k-preserved
loop-k-preserved c =
    let x = c.args in
    let at = x.start + c.loop-k.k * x.width in
    let used : row_at x.base.now x.start x.width c.loop-k.k ≡ replicate x.width 0 → ⊥ = elim c.else-base-at-eq0.branch [
      | else-base-at-eq0-via-then-base-at-eq0+else-is_zero w ↦
          (room_zero x.base.now at (at + x.width) x.width _ (omega arith) w.is_zero.ensures).fails w.if-is_zero.false
      | else-base-at-eq0-via-else-base-at-eq0 w ↦ first_used x.base.now at x.width c.requires.width_nonzero.0 w.if-base-at-eq0.false
    ] in
    below_more _ _ c.loop-k.invariant used
