-- The loop has put down the parents of the types passed, behind the count of all. Assumes nothing.
use Rattle.std.proofs.Common.{arith}
use Rattle.rules.specs.11-File.{parent_entries}
use Rattle.base.specs.Back.{schema_of}
use Rattle.file_out_presences.proofs.PutLaws.{spans_none, spans_room, spans_more, spans_done}
use Rattle.file_out.proofs.PutLaws.{section_counted, section_room, section_put}
use Rattle.file_out.proofs.ParentLaws.{parents_joined}
use Rattle.file_out.proofs.parents.put.Goals as goal

pub put_count-at-requires-clause-in_bounds : goal.put_count-at-requires-clause-in_bounds
put_count-at-requires-clause-in_bounds c =
    omega (arith, c.requires.base_in_bounds, section_counted (parent_entries (schema_of c.args.base.now)))

pub loop-t-init : goal.loop-t-init
loop-t-init c =
    spans_none _ 128 (parents_joined (schema_of c.args.base.now))
    (section_room _ c.count-many.ensures.is c.requires.base_in_bounds c.put_count-at.ensures)

pub put_of-at-requires-clause-t_in_bounds : goal.put_of-at-requires-clause-t_in_bounds
put_of-at-requires-clause-t_in_bounds c = spans_room _ 128 c.loop-t.t c.loop-t.invariant c.loop-t-test.true

pub loop-t-preserved : goal.loop-t-preserved
loop-t-preserved c =
    let put = c.put_of-at.ensures in
    spans_more _ 128 c.loop-t.t c.loop-t.invariant c.loop-t-test.true put.long put.is

pub returns : goal.returns
returns c =
    let (end, is) = spans_done _ 128 c.loop-t.t c.loop-t.invariant c.loop-t-test.false in
    section_put _ c.count-many.ensures.is c.requires.base_in_bounds c.put_count-at.ensures end is
