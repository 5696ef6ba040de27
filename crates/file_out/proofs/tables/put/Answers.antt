-- The rows are written behind their count. Assumes nothing.
use Rattle.std.proofs.Common.{ℕ, ◌+◌, ◌*◌, length, sym, ap, arith, ◌∙◌}
use Rattle.rows.specs.Rows.{part}
use Rattle.rows.specs.Table.{written}
use Rattle.rows.proofs.Rows.{slice_part}
use Rattle.rows.proofs.Scan.{length_part}
use Rattle.file_out.proofs.PutLaws.{count_long, counted_room, counted_put}
use Rattle.file_out.proofs.tables.put.Goals as goal

pub put_count-at-requires-clause-in_bounds : goal.put_count-at-requires-clause-in_bounds
put_count-at-requires-clause-in_bounds c =
    let x = c.args in
    omega (arith, c.requires.width_in_bounds, count_long x.n (part x.base.now x.start (x.n * x.width)))

pub write-requires : goal.write-requires
write-requires c =
    let x = c.args in
    let bytes = x.n * x.width in
    let room = counted_room x.n (part x.base.now x.start bytes) c.requires.width_in_bounds c.put_count-at.ensures in
    omega (arith, ap length (slice_part x.base.now x.start bytes))

pub overflow_add-result : goal.overflow_add-result
overflow_add-result c =
    let x = c.args in
    let bytes = x.n * x.width in
    let room = counted_room x.n (part x.base.now x.start bytes) c.requires.width_in_bounds c.put_count-at.ensures in
    omega (arith, length_part x.base.now x.start bytes c.requires.n_bound.1)

pub returns : goal.returns
returns c =
    let x = c.args in
    let count = c.put_count-at in
    let bytes = x.n * x.width in
    let long = length_part x.base.now x.start bytes c.requires.n_bound.1 in
    counted_put x.n (part x.base.now x.start bytes) c.requires.width_in_bounds count.ensures (ap (λ (n : ℕ). count.result + n) (sym long))
    (c.write.ensures ∙ ap (written _ _) (slice_part x.base.now x.start bytes))
