-- `visible::is_listed`: the SDS of a row of a sound base is small enough to be tested.
use Rattle.std.proofs.Common.{ap, ◌∙◌, arith}
use Rattle.base.proofs.Kept.{sound_long}
use Rattle.type_set.specs.Set.{bit}
use Rattle.lookup.proofs.RowBytes.{few_presences, presence_small}
use Rattle.visible.proofs.is_listed.Goals as goal

pub presence_sds-requires : goal.presence_sds-requires
presence_sds-requires c = (sound_long c.requires.0, omega (arith, few_presences c.args.base.now))

pub lists-requires : goal.lists-requires
lists-requires c = omega (arith, (presence_small c.requires.0 _ c.requires.1).0)

pub returns : goal.returns
returns c = c.lists.ensures ∙ ap (bit c.args.sdss) c.presence_sds.ensures.is
