-- Room for a pair: its refusals test by test.
use Rattle.std.proofs.Common.{refl, arith}
use Rattle.rules.specs.declared.Refused.TheVariants.{NoRoom}
use Rattle.base.proofs.Kept.{sound_long}
use Rattle.base.proofs.Shown.{presences_long}
use Rattle.base.proofs.TestedLaws.{come_first, come_next, come_through}
use Rattle.lookup.proofs.FreeLaws.{new_type_is, second_type_is, room_for_two, no_room_for, no_room_for_two}
use Rattle.conditions.proofs.AimedLaws.{refused_here}
use Rattle.change_types.proofs.CreateLaws.{numbers_short, presences_short, both_fit}
use Rattle.change_pairs.proofs.room_for_two.Goals as goal

pub returns-in_default : goal.returns-in_default
returns-in_default c =
    refused_here NoRoom (come_first c.requires) (numbers_short _ 2 (no_room_for c.in_default.ensures.lowest 2 (omega arith) (omega arith))) refl refl

pub returns-in_default-free_type : goal.returns-in_default-free_type
returns-in_default-free_type c =
    let f = c.in-Some.ensures in
    refused_here NoRoom (come_first c.requires)
    (numbers_short _ 2 (no_room_for_two f.lowest f.below c.in_default-free_type.ensures.lowest (omega arith))) refl refl

pub presence_count-requires : goal.presence_count-requires
presence_count-requires c = sound_long c.requires

pub returns-then-presence_count-gt-PRESENCES : goal.returns-then-presence_count-gt-PRESENCES
returns-then-presence_count-gt-PRESENCES c =
    refused_here NoRoom (come_first c.requires)
    (presences_short _ 2 (omega (arith, c.if-presence_count-gt-PRESENCES.true, c.presence_count.ensures.is))) refl refl

pub returns : goal.returns
returns c =
    let f = c.in-Some.ensures in
    let g = c.in-Some-free_type.ensures in
    let few = c.if-presence_count-gt-PRESENCES.false in
    record {
      told = come_through (come_next (come_first c.requires)
          (both_fit _ 2 (room_for_two f.lowest f.below g.lowest g.below) (omega (arith, few, c.presence_count.ensures.is))));
      so = record {
        room = omega (arith, few, c.presence_count.ensures.is, presences_long c.args.base.now);
        below = f.below;
        new = new_type_is f.lowest f.below;
        reverse_below = g.below;
        second = second_type_is f.lowest f.below g.lowest g.below;
      };
    }
