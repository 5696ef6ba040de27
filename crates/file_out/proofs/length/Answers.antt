-- Six counts and six sections. Assumes nothing.
use Rattle.std.proofs.Common.{arith}
use Rattle.base.proofs.Kept.{sound_long}
use Rattle.file_out.proofs.ShownLaws.{is_length}
use Rattle.file_out.proofs.length.Goals as goal

pub count-sdss-requires : goal.count-sdss-requires
count-sdss-requires c = (omega arith, omega (arith, sound_long c.requires))

pub count-types-requires : goal.count-types-requires
count-types-requires c = (omega arith, omega (arith, sound_long c.requires))

pub returns : goal.returns
returns c =
    is_length c.requires c.count-sdss.ensures.is c.count-types.ensures.is c.count-parents.ensures.is c.count-presences.ensures.is
    c.applications-applications.ensures.is c.ends-ends.ensures.is
