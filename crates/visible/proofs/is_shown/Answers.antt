-- `visible::is_shown`: the two tests are those that the promise joins.
use Rattle.std.proofs.Common.{arith}
use Rattle.base.proofs.Kept.{sound_long}
use Rattle.lookup.proofs.RowBytes.{few_presences}
use Rattle.visible.proofs.is_shown.Goals as goal

pub presence_type-requires : goal.presence_type-requires
presence_type-requires c = (sound_long c.requires.0, omega (arith, few_presences c.args.base.now))
