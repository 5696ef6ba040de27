-- `visible::is_end_of`: the two tests are those that the promise joins.
use Rattle.std.proofs.Common.{arith}
use Rattle.base.proofs.Kept.{sound_long}
use Rattle.lookup.proofs.RowBytes.{few_ends}
use Rattle.visible.proofs.is_end_of.Goals as goal

pub end_link-requires : goal.end_link-requires
end_link-requires c = (sound_long c.requires.0, omega (arith, few_ends c.args.base.now))
