-- The tests are the rule's refusals in its order; what `type_named` hands back tells whether the name is listed, and the type that bears it.
use Rattle.std.proofs.Common.{ℕ, List, ◌≡◌, true, false, sym, ap, ◌∙◌, arith, refl}
use Rattle.rules.specs.01-Lists.{any}
use Rattle.rules.specs.03-Names.{Name, well_formed}
use Rattle.rules.specs.04-Schema.{Schema}
use Rattle.rules.specs.09-Refusals.{success, unknown_sds, no_name_listed}
use Rattle.rules.specs.11-Asks.{find, find_refusals}
use Rattle.rules.proofs.09-Refusals.{Left, passes, stops, ends}
use Rattle.base.specs.Tested.{onward}
use Rattle.base.proofs.Kept.{sound_long, answered_spoiled, answered_as}
use Rattle.ask_scans.proofs.ViewLaws.{listed_small}
use Rattle.ask.proofs.FindLaws.{find_effect, find_left, well_named, ill_named, named, nameless}
use Rattle.ask.proofs.find.Goals as goal

-- what is left of the rule from the condition of number n on
abbrev Rest : List ℕ → Name → Schema → ℕ → Type 0
Rest w n s k = Left (find w n s) (onward k (find_refusals w n s)) (find_effect w n s)

module _ (w : List ℕ) (n : Name) (s : Schema) (known : any (unknown_sds s) w ≡ false) where
  rest_4 : Rest w n s 4
  rest_4 = passes (find_left w n s) known

  module _ (formed : well_formed n ≡ true) where
    rest_6 : Rest w n s 6
    rest_6 = passes rest_4 (well_named n formed)

    rest_8 : no_name_listed s w n ≡ false → Rest w n s 8
    rest_8 e = passes rest_6 e

pub returns-then-not-is_sound : goal.returns-then-not-is_sound
returns-then-not-is_sound c = answered_spoiled (c.is_sound.ensures.fails c.if-not-is_sound.true) refl

pub has_unknown-requires : goal.has_unknown-requires
has_unknown-requires c = sound_long (c.is_sound.ensures.holds c.if-not-is_sound.false)

pub returns-then-has_unknown : goal.returns-then-has_unknown
returns-then-has_unknown c =
    answered_as (c.is_sound.ensures.holds c.if-not-is_sound.false) (stops (find_left _ _ _) (sym c.has_unknown.ensures ∙ c.if-has_unknown.true)) refl

pub returns-then-not-is_well_formed : goal.returns-then-not-is_well_formed
returns-then-not-is_well_formed c =
    answered_as (c.is_sound.ensures.holds c.if-not-is_sound.false)
    (stops (rest_4 _ _ _ (sym c.has_unknown.ensures ∙ c.if-has_unknown.false)) (ill_named _ (sym c.is_well_formed.ensures ∙ c.if-not-is_well_formed.true))) refl

pub type_named-requires : goal.type_named-requires
type_named-requires c = c.is_sound.ensures.holds c.if-not-is_sound.false

pub returns-in_default : goal.returns-in_default
returns-in_default c =
    answered_as (c.is_sound.ensures.holds c.if-not-is_sound.false)
    (stops (rest_6 _ _ _ (sym c.has_unknown.ensures ∙ c.if-has_unknown.false) (sym c.is_well_formed.ensures ∙ c.if-not-is_well_formed.false))
    (nameless c.in_default.ensures.named refl)) refl

pub has_repeated-requires : goal.has_repeated-requires
has_repeated-requires c = listed_small (c.is_sound.ensures.holds c.if-not-is_sound.false) _ (sym c.has_unknown.ensures ∙ c.if-has_unknown.false)

pub returns-then-has_repeated : goal.returns-then-has_repeated
returns-then-has_repeated c =
    answered_as (c.is_sound.ensures.holds c.if-not-is_sound.false)
    (stops (rest_8 _ _ _ (sym c.has_unknown.ensures ∙ c.if-has_unknown.false) (sym c.is_well_formed.ensures ∙ c.if-not-is_well_formed.false)
    (named c.in-Some.ensures.named (λ z. omega (arith, z, c.in-Some.ensures.below))))
    (sym c.has_repeated.ensures ∙ c.if-has_repeated.true)) refl

pub returns : goal.returns
returns c =
    let there = named c.in-Some.ensures.named (λ z. omega (arith, z, c.in-Some.ensures.below)) in
    answered_as (c.is_sound.ensures.holds c.if-not-is_sound.false)
    (ends (passes (rest_8 _ _ _ (sym c.has_unknown.ensures ∙ c.if-has_unknown.false)
    (sym c.is_well_formed.ensures ∙ c.if-not-is_well_formed.false) there)
    (sym c.has_repeated.ensures ∙ c.if-has_repeated.false)))
    (ap (λ (t : ℕ). success t 0 0) (c.in-Some.ensures.named.found there).1)
