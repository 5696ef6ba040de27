-- `ancestors::bring`: the lowest type that is left comes, and goes from what is left.
use Rattle.std.proofs.Common.{sym, ◌∙◌, arith}
use Rattle.base.proofs.StoredLaws.{stored_long}
use Rattle.change_imports.proofs.AncestorLaws.{bringing_none, room, fewer, brought_more, brought_all}
use Rattle.change_imports.proofs.ancestors.bring.Goals as goal

pub loop-t-init : goal.loop-t-init
loop-t-init c = bringing_none _ c.requires.stored.0 c.requires.lacking

pub put_nameless-requires : goal.put_nameless-requires
put_nameless-requires c =
    let x = c.requires.stored.1 in
    let so_far = c.loop-t.invariant in
    let one = c.in-Some.ensures in record {
      stored = so_far.stored;
      fact = (x.0, (omega arith, omega (arith, one.below)));
      base_len_bound = room so_far _ one.passes one.below;
      t_value = so_far.lacking.lacked _ one.passes;
    }

pub loop-t-smaller : goal.loop-t-smaller
loop-t-smaller c =
    let one = c.in-Some.ensures in
    fewer c.loop-t.invariant _ c.in-Some.t one.below one.passes one.first c.less-left.ensures

pub loop-t-preserved : goal.loop-t-preserved
loop-t-preserved c =
    let one = c.in-Some.ensures in
    brought_more c.loop-t.invariant _ c.in-Some.t one.below one.passes one.first c.less-left.ensures c.put_nameless.ensures

pub shape_of-base : goal.shape_of-base
shape_of-base c = stored_long c.loop-t.invariant.stored ∙ sym (stored_long c.requires.stored.0)

pub returns : goal.returns
returns c = brought_all c.loop-t.invariant c.in_default.ensures
