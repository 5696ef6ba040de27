-- `visible::is_applied`: the numbers in a row of a sound base are small enough to be tested.
use Rattle.std.proofs.Common.{arith}
use Rattle.base.proofs.Kept.{sound_long}
use Rattle.lookup.proofs.RowBytes.{few_applications, application_small}
use Rattle.visible.proofs.is_applied.Goals as goal

pub application_sds-requires : goal.application_sds-requires
application_sds-requires c = (sound_long c.requires.0, omega (arith, few_applications c.args.base.now))

pub lists-requires : goal.lists-requires
lists-requires c = omega (arith, (application_small c.requires.0 _ c.requires.1).0)

pub application_to-requires : goal.application_to-requires
application_to-requires c = (sound_long c.requires.0, omega (arith, few_applications c.args.base.now))

pub test-requires : goal.test-requires
test-requires c = omega (arith, (application_small c.requires.0 _ c.requires.1).1.0)
