-- `file_in_types::put_section` meets its contract: one entry more, and none left. Assumes nothing.
use Rattle.std.proofs.Common.{arith, sym, ◌∙◌}
use Rattle.file_in_types.proofs.SectionLaws.{going_next, going_done}
use Rattle.file_in_types.proofs.put_section.Goals as goal

pub loop-entry-preserved : goal.loop-entry-preserved
loop-entry-preserved c =
    let steps = c.in-Some-entry.ensures.steps in
    let before = c.loop-entry.invariant in
    record {
      size = steps.0 ∙ before.size;
      going = going_next _ _ _ (omega arith) before.going steps.1.0 (steps.1.1 ∙ before.size) c.put.ensures (omega arith);
    }

pub returns : goal.returns
returns c =
    let (limit, small) = c.most.ensures in
    let steps = c.in-None.ensures.steps in
    rw (sym c.width-w.ensures.0, sym limit) (going_done _ _ _ c.in-Some.ensures c.loop-entry.invariant.going (omega arith))
