-- The loop has put down the rows passed, behind the count of all. Assumes nothing.
use Rattle.std.proofs.Common.{sym, arith, ◌∙◌}
use Rattle.file_out_presences.proofs.PutLaws.{spans_none, spans_room, spans_more, spans_done}
use Rattle.file_out.specs.Put.{row_entries}
use Rattle.file_out.proofs.PutLaws.{section_counted, section_room, section_put}
use Rattle.file_out.proofs.NumberedLaws.{bytes_at, entries_long, rows_span}
use Rattle.file_out.proofs.numbered.put.Goals as goal

pub put_count-at-requires-clause-in_bounds : goal.put_count-at-requires-clause-in_bounds
put_count-at-requires-clause-in_bounds c =
    let x = c.args in
    omega (arith, c.requires.n_in_bounds, section_counted (row_entries x.base.now x.start x.width x.kept x.n))

pub loop-k-init : goal.loop-k-init
loop-k-init c =
    let x = c.args in
    let many = c.count-many.ensures.is ∙ sym (entries_long x.base.now x.start x.width x.kept x.n) in
    spans_none (bytes_at x.base.now x.start x.width x.kept) x.n (rows_span x.base.now x.start x.width x.kept x.n)
    (section_room _ many c.requires.n_in_bounds c.put_count-at.ensures)

pub put_row-at-requires-clause-k_in_bounds : goal.put_row-at-requires-clause-k_in_bounds
put_row-at-requires-clause-k_in_bounds c = spans_room (bytes_at _ _ _ _) c.args.n c.loop-k.k c.loop-k.invariant c.loop-k-test.true

pub loop-k-preserved : goal.loop-k-preserved
loop-k-preserved c =
    let row = c.put_row-at.ensures in
    spans_more _ _ c.loop-k.k c.loop-k.invariant c.loop-k-test.true row.long row.is

pub returns : goal.returns
returns c =
    let x = c.args in
    let many = c.count-many.ensures.is ∙ sym (entries_long x.base.now x.start x.width x.kept x.n) in
    let (end, is) = spans_done _ _ c.loop-k.k c.loop-k.invariant c.loop-k-test.false in
    section_put _ many c.requires.n_in_bounds c.put_count-at.ensures end is
