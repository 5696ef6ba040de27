-- A row of another SDS tells none; of this one its type is told where t is a parent of it.
use Rattle.std.proofs.Common.{arith, ◌&&◌, eqb, ◌∙◌}
use Rattle.rules.specs.04-Schema.{is_parent}
use Rattle.base.specs.Back.{schema_of}
use Rattle.lookup.proofs.RowBytes.{presence_small}
use Rattle.in_use.proofs.HeldLaws.{presence_reads, lowest_same, only_if, row_here}
use Rattle.in_use.proofs.child_told.Goals as goal

pub presence_sds-requires : goal.presence_sds-requires
presence_sds-requires c = presence_reads c.requires

pub presence_type-child-requires : goal.presence_type-child-requires
presence_type-child-requires c = presence_reads c.requires

pub is_parent-requires : goal.is_parent-requires
is_parent-requires c = (c.requires.0, omega (arith, c.presence_type-child.ensures.is, (presence_small c.requires.0 c.args.i c.requires.1).1))

pub returns : goal.returns
returns c =
    let x = c.args in
    let type = c.presence_type-child.ensures.is in
    row_here _ _ c.presence_sds.ensures.is c.if-presence_sds-d.false
    (lowest_same (λ k. (λ i. c.is_parent.ensures i && eqb c.presence_type-child.result k)
    ∙ (λ i. is_parent (schema_of x.base.now) (type i) x.t && eqb (type i) k))
    (only_if _ _ (omega (arith, type, (presence_small c.requires.0 x.i c.requires.1).1)) _ c.then_some.ensures))
