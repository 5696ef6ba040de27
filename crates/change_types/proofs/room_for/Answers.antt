-- Room for one new type: its refusals test by test.
use Rattle.std.proofs.Common.{ℕ, ◌≡◌, ◌<◌, List, Bool, false, refl, sym, ◌∙◌, arith}
use Rattle.std.specs.Prelude.{Option, IfSome, is_some}
use Rattle.std.specs.Option.{unwrap_or}
use Rattle.rules.specs.declared.Refused.TheVariants.{NameTaken, NoRoom}
use Rattle.rules.specs.03-Names.{Name}
use Rattle.rules.specs.04-Schema.{Schema, bears}
use Rattle.rules.specs.07-Picture.{Sound}
use Rattle.rules.proofs.NameTests.{one_taken, one_free}
use Rattle.base.specs.Back.{schema_of}
use Rattle.base.proofs.Kept.{sound_long}
use Rattle.base.proofs.Shown.{presences_long}
use Rattle.base.proofs.TestedLaws.{Past, come_first, come_next, come_through}
use Rattle.lookup.specs.Found.{NamedIn}
use Rattle.lookup.proofs.NamedLaws.{found_bears}
use Rattle.lookup.proofs.FreeLaws.{new_type_is, room_for_one, no_room_for}
use Rattle.conditions.proofs.AimedLaws.{refused_here}
use Rattle.change_types.specs.Create.{room_refusals}
use Rattle.change_types.proofs.CreateLaws.{numbers_short, presences_short, both_fit}
use Rattle.change_types.proofs.room_for.Goals as goal

-- whether the name is borne, as it was tested
borne : {s : Schema} {d : ℕ} {n : Name} (o : Option ℕ) {x y : Bool} → NamedIn s d n (unwrap_or o 128) → IfSome o (λ t. t < 128)
    → x ≡ is_some o → x ≡ y → bears s d n ≡ y
borne o found below e q = sym (found_bears o found below) ∙ sym e ∙ q

-- the name is free
at_14 : {b : List ℕ} (d : ℕ) (n : Name) → Sound b → bears (schema_of b) d n ≡ false → Past b (room_refusals (schema_of b) d n) 14
at_14 d n s e = come_next (come_first s) (one_free _ d n e)

pub returns-then-is_some : goal.returns-then-is_some
returns-then-is_some c =
    refused_here NameTaken (come_first c.requires)
    (one_taken _ _ _ (borne _ c.type_in.ensures.named c.type_in.ensures.below c.is_some.ensures c.if-is_some.true)) refl refl

pub returns-in_default : goal.returns-in_default
returns-in_default c =
    refused_here NoRoom
    (at_14 _ _ c.requires (borne _ c.type_in.ensures.named c.type_in.ensures.below c.is_some.ensures c.if-is_some.false))
    (numbers_short _ 1 (no_room_for c.in_default.ensures.lowest 1 (omega arith) (omega arith))) refl refl

pub presence_count-requires : goal.presence_count-requires
presence_count-requires c = sound_long c.requires

pub returns-then-presence_count-ge-PRESENCES : goal.returns-then-presence_count-ge-PRESENCES
returns-then-presence_count-ge-PRESENCES c =
    refused_here NoRoom
    (at_14 _ _ c.requires (borne _ c.type_in.ensures.named c.type_in.ensures.below c.is_some.ensures c.if-is_some.false))
    (presences_short _ 1 (omega (arith, c.if-presence_count-ge-PRESENCES.true, c.presence_count.ensures.is))) refl refl

pub returns : goal.returns
returns c =
    let free = borne _ c.type_in.ensures.named c.type_in.ensures.below c.is_some.ensures c.if-is_some.false in
    let f = c.in-Some.ensures in
    let few = c.if-presence_count-ge-PRESENCES.false in
    record {
      told = come_through (come_next (at_14 _ _ c.requires free)
          (both_fit _ 1 (room_for_one f.lowest f.below) (omega (arith, few, c.presence_count.ensures.is))));
      so = record {
        free = free;
        room = omega (arith, few, c.presence_count.ensures.is, presences_long c.args.base.now);
        below = f.below;
        new = new_type_is f.lowest f.below;
      };
    }
