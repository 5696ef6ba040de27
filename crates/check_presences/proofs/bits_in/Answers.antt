-- The bits of the words passed are counted, at most 16 to a word.
use Rattle.std.proofs.Common.{arith, refl, get_or}
use lib.Count.{ones-le}
use Rattle.check_presences.specs.Gathered.{bits_in}
use Rattle.check_presences.proofs.CountLaws.{bits_more}
use Rattle.check_presences.proofs.bits_in.Goals as goal

pub loop-w-init : goal.loop-w-init
unfolding bits_in
loop-w-init c = record { few = omega arith; counted = refl }

pub loop-w-preserved : goal.loop-w-preserved
loop-w-preserved c =
    let held = c.args.held.now in
    let k = c.loop-w.w-index in
    let passed = c.loop-w.invariant in
    let more = ones-le 16 (get_or held k 0) (c.type_inv.held k).fits in record {
      few = omega (arith, passed.few, more);
      counted = omega (arith, passed.counted, bits_more held k c.loop-w-test.true);
    }
