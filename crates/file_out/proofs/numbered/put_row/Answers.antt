-- A row that begins with 0 puts down nothing; of another the number and the bytes kept are written. Assumes nothing.
use Rattle.std.proofs.Common.{length, length-set, ap, arith, ◌∙◌}
use Rattle.rows.proofs.Rows.{slice_part}
use Rattle.rows.proofs.Scan.{length_part}
use Rattle.file_out.proofs.NumberedLaws.{row_none, row_room, row_put}
use Rattle.file_out.proofs.numbered.put_row.Goals as goal

pub returns-then-base-row-eq0 : goal.returns-then-base-row-eq0
returns-then-base-row-eq0 c = row_none _ _ _ _ _ _ c.if-base-row-eq0.true

pub bounds-out-at : goal.bounds-out-at
bounds-out-at c =
    let x = c.args in
    let room = row_room x.base.now x.row x.kept x.k x.out.now x.at c.if-base-row-eq0.false c.requires.k_in_bounds in
    omega arith

pub write-requires : goal.write-requires
write-requires c =
    let x = c.args in
    let room = row_room x.base.now x.row x.kept x.k x.out.now x.at c.if-base-row-eq0.false c.requires.k_in_bounds in
    omega (arith, ap length (slice_part x.base.now x.row x.kept), length-set x.out.now x.at x.k)

pub returns : goal.returns
returns c =
    let x = c.args in
    let same = slice_part x.base.now x.row x.kept in
    row_put x.base.now x.row x.kept x.k x.out.now x.at c.if-base-row-eq0.false c.requires.k_in_bounds same
    (ap length same ∙ length_part x.base.now x.row x.kept c.requires.row_in_bounds.1) c.write.ensures
