-- `visible::is_end_at`: the object type of a row of a sound base is small enough to be tested.
use Rattle.std.proofs.Common.{arith}
use Rattle.base.proofs.Kept.{sound_long}
use Rattle.lookup.proofs.RowBytes.{few_ends, end_small}
use Rattle.visible.proofs.is_end_at.Goals as goal

pub end_object-requires : goal.end_object-requires
end_object-requires c = (sound_long c.requires.0, omega (arith, few_ends c.args.base.now))

pub test-requires : goal.test-requires
test-requires c = omega (arith, (end_small c.requires.0 _ c.requires.1).1.1)
