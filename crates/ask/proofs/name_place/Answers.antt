-- The tests are the rule's refusals in its order; the row that was found is the presence whose field holds the name.
use Rattle.std.proofs.Common.{ℕ, List, ◌≡◌, true, sym, ◌∙◌, arith, refl}
use Rattle.rules.specs.04-Schema.{used_sds}
use Rattle.rules.specs.07-Picture.{Sound}
use Rattle.rules.specs.09-Refusals.{success}
use Rattle.rules.specs.11-Asks.{name, name_refusals}
use Rattle.rules.proofs.09-Refusals.{Left, passes, stops, ends}
use Rattle.base.specs.Back.{schema_of}
use Rattle.base.specs.Tested.{onward}
use Rattle.base.proofs.Kept.{sound_long, answered_spoiled, answered_as}
use Rattle.lookup.proofs.RowBytes.{few_presences}
use Rattle.lookup.proofs.SdsShown.{known, unknown}
use Rattle.ask.proofs.Laws.{name_effect, name_left, name_nowhere, name_there, start_is, length_is}
use Rattle.ask.proofs.name_place.Goals as goal

-- what the test of the SDS leaves
rest_6 : (b : List ℕ) (d t : ℕ) → Sound b → used_sds (schema_of b) d ≡ true
    → Left (name d t (schema_of b)) (onward 6 (name_refusals d t (schema_of b))) (name_effect d t (schema_of b))
rest_6 b d t s e = passes (name_left _ _ _) (known _ (sound_long s) _ e)

pub returns-then-not-is_sound : goal.returns-then-not-is_sound
returns-then-not-is_sound c = answered_spoiled (c.is_sound.ensures.fails c.if-not-is_sound.true) refl

pub is_sds-requires : goal.is_sds-requires
is_sds-requires c = sound_long (c.is_sound.ensures.holds c.if-not-is_sound.false)

pub returns-then-not-is_sds : goal.returns-then-not-is_sds
returns-then-not-is_sds c =
    let s = c.is_sound.ensures.holds c.if-not-is_sound.false in
    answered_as s (stops (name_left _ _ _) (unknown _ (sound_long s) _ (sym c.is_sds.ensures ∙ c.if-not-is_sds.true))) refl

pub presence_row-requires : goal.presence_row-requires
presence_row-requires c = sound_long (c.is_sound.ensures.holds c.if-not-is_sound.false)

pub returns-in_default : goal.returns-in_default
returns-in_default c =
    let s = c.is_sound.ensures.holds c.if-not-is_sound.false in
    answered_as s
    (stops (rest_6 _ _ _ s (sym c.is_sds.ensures ∙ c.if-not-is_sds.false)) (name_nowhere _ _ _ c.in_default.ensures.first refl)) refl

pub name_at-requires : goal.name_at-requires
name_at-requires c = omega (arith, c.in-Some.ensures.below, few_presences c.args.base.now)

pub name_length-requires : goal.name_length-requires
name_length-requires c =
    (sound_long (c.is_sound.ensures.holds c.if-not-is_sound.false), omega (arith, c.in-Some.ensures.below, few_presences c.args.base.now))

pub returns : goal.returns
returns c =
    let s = c.is_sound.ensures.holds c.if-not-is_sound.false in
    let found = c.in-Some.ensures in
    answered_as s
    (ends (passes (rest_6 _ _ _ s (sym c.is_sds.ensures ∙ c.if-not-is_sds.false)) (name_there _ _ _ found.first found.below)))
    (λ i. success ((c.name_at.ensures ∙ start_is _ _ _ found.first found.below) i)
    ((c.name_length.ensures ∙ length_is _ _ _ found.first found.below) i) 0)
