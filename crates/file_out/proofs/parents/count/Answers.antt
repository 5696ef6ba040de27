-- The loop has counted the parents of the types passed. Assumes nothing.
use Rattle.std.proofs.Common.{length, sym, ap, arith, ◌∙◌}
use Rattle.base.specs.Back.{schema_of}
use Rattle.base.proofs.Kept.{sound_long}
use Rattle.file_out.proofs.SpanLaws.{counting_done}
use Rattle.file_out.proofs.ParentLaws.{parents_span, few_parents, parents_counted}
use Rattle.file_out.proofs.parents.count.Goals as goal

pub parent_count-n-requires : goal.parent_count-n-requires
parent_count-n-requires c = (sound_long c.requires, c.loop-t-test.true)

pub loop-t-preserved : goal.loop-t-preserved
loop-t-preserved c =
    let l = c.loop-t in
    let below = c.loop-t-test.true in
    let few = few_parents c.requires l.t below in
    record {
      few = omega (arith, l.invariant.few, c.parent_count-n.ensures.is);
      counted = parents_counted c.requires l.t below l.invariant.counted c.parent_count-n.ensures.is;
    }

pub returns : goal.returns
returns c =
    let l = c.loop-t in
    record {
      is = counting_done l.invariant.counted c.loop-t-test.false ∙ ap length (sym (parents_span (schema_of c.args.base.now)));
      fits = omega (arith, l.invariant.few);
    }
