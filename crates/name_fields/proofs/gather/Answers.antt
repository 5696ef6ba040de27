-- `name_fields::gather` meets its contract: a fault more is added to one of the faults.
use Rattle.std.proofs.Common.{◌∙◌, sym, arith}
use Rattle.name_fields.proofs.StandLaws.{stand_end, gather_more}
use Rattle.name_fields.proofs.gather.Goals as goal

pub loop-i-preserved : goal.loop-i-preserved
loop-i-preserved c =
    c.loop-i.invariant ∙ gather_more c.args.base.now c.loop-i.faults c.args.at c.loop-i.i c.fault.result c.requires.0
    (omega arith) c.loop-i-test.true c.fault.ensures

pub returns : goal.returns
returns c = record {
  room = omega arith;
  blank = sym (c.loop-i.invariant ∙ stand_end c.args.base.now c.args.at c.loop-i.i _ c.loop-i-test.false);
}
