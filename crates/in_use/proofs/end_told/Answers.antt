-- A row of another SDS tells none; of this one the type is told that it joins to t or its reverse.
use Rattle.std.proofs.Common.{arith, ◌∷◌}
use Rattle.std.specs.Prelude.{option_to_list}
use Rattle.lookup.proofs.RowBytes.{end_small}
use Rattle.in_use.specs.Held.{other_told}
use Rattle.in_use.proofs.HeldLaws.{end_reads, lowest_same, row_here}
use Rattle.in_use.proofs.end_told.Goals as goal

pub end_sds-requires : goal.end_sds-requires
end_sds-requires c = end_reads c.requires

pub end_link-requires : goal.end_link-requires
end_link-requires c = end_reads c.requires

pub end_object-requires : goal.end_object-requires
end_object-requires c = end_reads c.requires

pub other_of-requires : goal.other_of-requires
other_of-requires c =
    let small = end_small c.requires.0 c.args.i c.requires.1 in
    (omega (arith, c.end_link.ensures.is, small.1.0), omega (arith, c.end_object.ensures.is, small.1.1))

pub returns : goal.returns
returns c =
    let x = c.args in
    let one = c.end_link.ensures.is in
    let two = c.end_object.ensures.is in
    row_here _ _ c.end_sds.ensures.is c.if-end_sds-d.false
    (lowest_same (λ k i. other_told (x.t ∷ option_to_list x.reverse) (one i) (two i) k) c.other_of.ensures)
