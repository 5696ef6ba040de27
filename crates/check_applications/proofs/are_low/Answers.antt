-- The bits met so far are below 128 exactly where each byte passed is.
use Rattle.std.proofs.Common.{◌≡◌, ℕ, ◌+◌, ◌-◌, get_or, bit_or, arith, subst}
use Rattle.rows.specs.Rows.{part}
use Rattle.rows.proofs.Rows.{part_byte}
use Rattle.check_applications.proofs.NumberLaws.{LowPassed, low_more}
use Rattle.check_applications.proofs.are_low.Goals as goal

pub loop-b-preserved : goal.loop-b-preserved
loop-b-preserved c =
    let b = c.args.base.now in
    let from = c.args.from in
    let k = c.loop-b.b-index in
    let width = c.args.end - from in
    let next : from + k + 1 ≡ from + (k + 1) = omega arith in
    subst (λ (m : ℕ). LowPassed b from m (bit_or c.loop-b.bits (get_or (part b from width) k 0))) next
    (rw (part_byte b from width k (omega (arith, c.loop-b-test.true))) (low_more c.loop-b.invariant (omega arith)))
