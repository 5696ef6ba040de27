-- The loop has counted the rows passed that are begun. Assumes nothing.
use Rattle.std.proofs.Common.{arith}
use Rattle.file_out.proofs.NumberedLaws.{row_counted, row_passed, rows_counted}
use Rattle.file_out.proofs.numbered.count.Goals.{then-base-start-ne0, else-base-start-ne0}
use Rattle.file_out.proofs.numbered.count.Goals as goal

pub loop-k-preserved : goal.loop-k-preserved
loop-k-preserved c =
    let before = c.loop-k.invariant in
    let below = c.loop-k-test.true in
    elim c.if-base-start-ne0.branch [
      | then-base-start-ne0 w ↦
          record {
            few = omega (arith, w.used-is);
            counted = rw w.used-is (row_counted _ _ _ before.counted below w.if-base-start-ne0.true);
          }
      | else-base-start-ne0 w ↦
          record {
            few = omega (arith, w.used-is);
            counted = rw w.used-is (row_passed _ _ _ before.counted below w.if-base-start-ne0.false);
          }
    ]

pub returns : goal.returns
returns c =
    let l = c.loop-k in
    record { is = rows_counted _ _ _ l.invariant.counted c.loop-k-test.false; fits = omega arith }
