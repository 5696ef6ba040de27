-- The tests are the rule's refusals in its order, and what is then joined is what the list shows.
use Rattle.std.proofs.Common.{ℕ, List, ◌≡◌, true, false, not, sym, ap, ◌∙◌, refl}
use Rattle.rules.specs.01-Lists.{any}
use Rattle.rules.specs.04-Schema.{Schema}
use Rattle.rules.specs.08-Working.{visible}
use Rattle.rules.specs.09-Refusals.{success, unknown_sds, not_visible}
use Rattle.rules.specs.11-Asks.{modes_of, modes_refusals}
use Rattle.rules.proofs.09-Refusals.{Left, passes, stops, ends}
use Rattle.base.specs.Back.{schema_of}
use Rattle.base.specs.Tested.{onward}
use Rattle.base.proofs.Kept.{sound_long, answered_spoiled, answered_as}
use Rattle.type_set.specs.Set.{bit}
use Rattle.visible.proofs.Rules.{visible_are}
use Rattle.ask_scans.proofs.ViewLaws.{listed_sds, listed_small, not_seen, seen}
use Rattle.ask.proofs.ModesLaws.{modes_effect, modes_left, joined_under}
use Rattle.ask.proofs.modes.Goals as goal

-- what is left of the rule from the condition of number n on
abbrev Rest : List ℕ → ℕ → Schema → ℕ → Type 0
Rest w t s k = Left (modes_of w t s) (onward k (modes_refusals w t s)) (modes_effect w t s)

module _ (w : List ℕ) (t : ℕ) (s : Schema) (known : any (unknown_sds s) w ≡ false) where
  rest_6 : Rest w t s 6
  rest_6 = passes (modes_left w t s) known

  rest_8 : not_visible s w t ≡ false → Rest w t s 8
  rest_8 e = passes rest_6 e

pub returns-then-not-is_sound : goal.returns-then-not-is_sound
returns-then-not-is_sound c = answered_spoiled (c.is_sound.ensures.fails c.if-not-is_sound.true) refl

pub has_unknown-requires : goal.has_unknown-requires
has_unknown-requires c = sound_long (c.is_sound.ensures.holds c.if-not-is_sound.false)

pub returns-then-has_unknown : goal.returns-then-has_unknown
returns-then-has_unknown c =
    answered_as (c.is_sound.ensures.holds c.if-not-is_sound.false) (stops (modes_left _ _ _) (sym c.has_unknown.ensures ∙ c.if-has_unknown.true)) refl

pub listed-listed-requires : goal.listed-listed-requires
listed-listed-requires c = listed_sds (c.is_sound.ensures.holds c.if-not-is_sound.false) _ (sym c.has_unknown.ensures ∙ c.if-has_unknown.false)

pub is_visible-requires : goal.is_visible-requires
is_visible-requires c = c.is_sound.ensures.holds c.if-not-is_sound.false

pub returns-then-not-is_visible : goal.returns-then-not-is_visible
returns-then-not-is_visible c =
    answered_as (c.is_sound.ensures.holds c.if-not-is_sound.false)
    (stops (rest_6 _ _ _ (sym c.has_unknown.ensures ∙ c.if-has_unknown.false))
    (not_seen _ _ _ (c.is_visible.ensures ∙ visible_are _ _ _ c.listed-listed.ensures _) (ap not c.if-not-is_visible.true))) refl

pub has_repeated-requires : goal.has_repeated-requires
has_repeated-requires c = listed_small (c.is_sound.ensures.holds c.if-not-is_sound.false) _ (sym c.has_unknown.ensures ∙ c.if-has_unknown.false)

pub returns-then-has_repeated : goal.returns-then-has_repeated
returns-then-has_repeated c =
    answered_as (c.is_sound.ensures.holds c.if-not-is_sound.false)
    (stops (rest_8 _ _ _ (sym c.has_unknown.ensures ∙ c.if-has_unknown.false)
    (seen _ _ _ (c.is_visible.ensures ∙ visible_are _ _ _ c.listed-listed.ensures _) (ap not c.if-not-is_visible.false)))
    (sym c.has_repeated.ensures ∙ c.if-has_repeated.true)) refl

pub modes_in-modes-requires : goal.modes_in-modes-requires
modes_in-modes-requires c = c.is_sound.ensures.holds c.if-not-is_sound.false

pub returns : goal.returns
returns c =
    let x = c.args in
    let listed = c.listed-listed in
    let under = joined_under (bit listed.result) x.schema.now listed.ensures in
    answered_as (c.is_sound.ensures.holds c.if-not-is_sound.false)
    (ends (passes (rest_8 _ _ _ (sym c.has_unknown.ensures ∙ c.if-has_unknown.false)
    (seen _ _ _ (c.is_visible.ensures ∙ visible_are _ _ _ c.listed-listed.ensures _) (ap not c.if-not-is_visible.false)))
    (sym c.has_repeated.ensures ∙ c.if-has_repeated.false)))
    (λ i. success ((c.modes_in-modes.ensures.0 ∙ under (λ p. p.usage) x.t (schema_of x.base.now)) i)
    ((c.modes_in-modes.ensures.1 ∙ under (λ p. p.definition) x.t (schema_of x.base.now)) i) 0)
