-- The loop has put down the parents passed, each behind the number of its child. Assumes nothing.
use Rattle.std.proofs.Common.{refl, sym, arith, ◌∙◌}
use Rattle.rules.specs.04-Schema.{parents}
use Rattle.base.specs.Back.{schema_of}
use Rattle.base.proofs.Kept.{sound_long}
use Rattle.file_out_presences.proofs.PutLaws.{putting_none}
use Rattle.file_out.proofs.ParentLaws.{parent_room, parent_put, parents_put, few_parents, parents_long, parent_byte}
use Rattle.file_out.proofs.parents.put_of.Goals as goal

pub parent_count-i-end-requires : goal.parent_count-i-end-requires
parent_count-i-end-requires c = (sound_long c.requires.sound, c.requires.t_lt_types)

pub loop-i-init : goal.loop-i-init
loop-i-init c = putting_none c.requires.t_in_bounds

pub parent-requires : goal.parent-requires
parent-requires c =
    let few = few_parents c.requires.sound c.args.t c.requires.t_lt_types in
    (sound_long c.requires.sound, (c.requires.t_lt_types, omega (arith, c.parent_count-i-end.ensures.is)))

-- there is another parent, and room for it
pub write-requires : goal.write-requires
write-requires c =
    let long = parents_long c.requires.sound c.args.t c.requires.t_lt_types in
    omega (arith, parent_room _ _ _ c.loop-i.invariant (omega (arith, long, c.parent_count-i-end.ensures.is)))

pub loop-i-preserved : goal.loop-i-preserved
loop-i-preserved c =
    let i = c.loop-i.i in
    let long = parents_long c.requires.sound c.args.t c.requires.t_lt_types in
    let byte = parent_byte c.requires.sound c.args.t c.requires.t_lt_types i (omega (arith, c.parent_count-i-end.ensures.is)) in
    parent_put _ _ _ c.loop-i.invariant (omega (arith, long, c.parent_count-i-end.ensures.is)) (byte ∙ sym c.parent.ensures.is)
    (record { long = refl; is = c.write.ensures })

pub returns : goal.returns
returns c =
    let ps = parents (schema_of c.args.base.now) c.args.t in
    let long = parents_long c.requires.sound c.args.t c.requires.t_lt_types in
    parents_put c.args.t ps c.loop-i.i c.loop-i.invariant (omega (arith, c.parent_count-i-end.ensures.is, long))
