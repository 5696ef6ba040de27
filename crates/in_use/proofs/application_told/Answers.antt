-- A row of another SDS tells none; of this one the type is told that it joins to t or its reverse.
use Rattle.std.proofs.Common.{arith, ◌∷◌}
use Rattle.std.specs.Prelude.{option_to_list}
use Rattle.lookup.proofs.RowBytes.{application_small}
use Rattle.in_use.specs.Held.{other_told}
use Rattle.in_use.proofs.HeldLaws.{application_reads, lowest_same, row_here}
use Rattle.in_use.proofs.application_told.Goals as goal

pub application_sds-requires : goal.application_sds-requires
application_sds-requires c = application_reads c.requires

pub application_to-requires : goal.application_to-requires
application_to-requires c = application_reads c.requires

pub application_attribute-requires : goal.application_attribute-requires
application_attribute-requires c = application_reads c.requires

pub other_of-requires : goal.other_of-requires
other_of-requires c =
    let small = application_small c.requires.0 c.args.i c.requires.1 in
    (omega (arith, c.application_to.ensures.is, small.1.0), omega (arith, c.application_attribute.ensures.is, small.1.1))

pub returns : goal.returns
returns c =
    let x = c.args in
    let one = c.application_to.ensures.is in
    let two = c.application_attribute.ensures.is in
    row_here _ _ c.application_sds.ensures.is c.if-application_sds-d.false
    (lowest_same (λ k i. other_told (x.t ∷ option_to_list x.reverse) (one i) (two i) k) c.other_of.ensures)
