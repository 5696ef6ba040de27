-- The type of a row, told where its SDS is the one.
use Rattle.std.proofs.Common.{arith, eqb}
use Rattle.lookup.proofs.RowBytes.{presence_small}
use Rattle.in_use.proofs.HeldLaws.{presence_reads, lowest_same, only_one, row_here}
use Rattle.in_use.proofs.type_told.Goals as goal

pub presence_sds-requires : goal.presence_sds-requires
presence_sds-requires c = presence_reads c.requires

pub presence_type-requires : goal.presence_type-requires
presence_type-requires c = presence_reads c.requires

pub returns : goal.returns
returns c =
    let type = c.presence_type.ensures.is in
    row_here _ _ c.presence_sds.ensures.is c.if-presence_sds-d.false
    (lowest_same (λ k i. eqb (type i) k) (only_one _ (omega (arith, type, (presence_small c.requires.0 c.args.i c.requires.1).1))))
