-- What is wrong with the SDS that a call is aimed at: its refusals test by test.
use Rattle.std.proofs.Common.{List, ℕ, ◌≡◌, true, refl, sym, ◌∙◌}
use Rattle.rules.specs.04-Schema.{used_sds}
use Rattle.rules.specs.07-Picture.{Sound}
use Rattle.base.specs.Back.{schema_of}
use Rattle.base.proofs.Kept.{sound_long}
use Rattle.base.proofs.TestedLaws.{Past, come_first, come_next, come_stops, come_through}
use Rattle.lookup.proofs.SdsShown.{known, unknown}
use Rattle.rules.proofs.NameTests.{system_stops, system_passes}
use Rattle.conditions.specs.Aimed.{sds_refusals}
use Rattle.conditions.proofs.aimed.aimed_at.Goals as goal

-- the SDS is known
past_2 : {b : List ℕ} (d : ℕ) → Sound b → used_sds (schema_of b) d ≡ true → Past b (sds_refusals (schema_of b) d) 3
past_2 d s e = come_next (come_first s) (known _ (sound_long s) _ e)

pub is_sds-requires : goal.is_sds-requires
is_sds-requires c = sound_long (c.is_sound.ensures.holds c.if-not-is_sound.false)

pub returns-then-not-is_sds : goal.returns-then-not-is_sds
returns-then-not-is_sds c =
    let s = c.is_sound.ensures.holds c.if-not-is_sound.false in
    come_stops (come_first s) (unknown _ (sound_long s) _ (sym c.is_sds.ensures ∙ c.if-not-is_sds.true)) refl

pub returns-then-sds-eq0 : goal.returns-then-sds-eq0
returns-then-sds-eq0 c =
    come_stops (past_2 _ (c.is_sound.ensures.holds c.if-not-is_sound.false) (sym c.is_sds.ensures ∙ c.if-not-is_sds.false))
    (system_stops _ c.if-sds-eq0.true) refl

pub returns : goal.returns
returns c =
    come_through (come_next (past_2 _ (c.is_sound.ensures.holds c.if-not-is_sound.false) (sym c.is_sds.ensures ∙ c.if-not-is_sds.false))
    (system_passes _ c.if-sds-eq0.false))
