-- A new SDS: its refusals test by test, and its name written.
use Rattle.std.proofs.Common.{ℕ, arith, refl, sym, ap, ◌∙◌}
use Rattle.rules.specs.07-Picture.{picture}
use Rattle.rules.specs.09-Refusals.{success}
use Rattle.rules.proofs.03-Names.{formed_long}
use Rattle.rules.proofs.09-Refusals.{passes, stops, ends}
use Rattle.rules.proofs.NameTests.{malformed_stops}
use Rattle.base.specs.Back.{schema_of}
use Rattle.base.proofs.Kept.{sound_long, kept_spoiled, kept_refused, kept_done, sds_changed}
use Rattle.lookup.proofs.SdsShown.{free_some, free_none, free_number}
use Rattle.change_sdss.proofs.Laws.{named, new_sds_left, formed_left, untaken_left}
use Rattle.change_sdss.proofs.new_sds.Goals as goal

pub returns-then-not-is_sound : goal.returns-then-not-is_sound
returns-then-not-is_sound c = kept_spoiled (c.is_sound.ensures.fails c.if-not-is_sound.true) refl

pub returns-then-not-is_well_formed : goal.returns-then-not-is_well_formed
returns-then-not-is_well_formed c =
    kept_refused (c.is_sound.ensures.holds c.if-not-is_sound.false)
    (stops (new_sds_left _ _) (malformed_stops _ (sym c.is_well_formed.ensures ∙ c.if-not-is_well_formed.true))) refl

pub has_sds_named-requires : goal.has_sds_named-requires
has_sds_named-requires c =
    (sound_long (c.is_sound.ensures.holds c.if-not-is_sound.false), sym c.is_well_formed.ensures ∙ c.if-not-is_well_formed.false)

pub returns-then-has_sds_named : goal.returns-then-has_sds_named
returns-then-has_sds_named c =
    kept_refused (c.is_sound.ensures.holds c.if-not-is_sound.false)
    (stops (formed_left _ _ (sym c.is_well_formed.ensures ∙ c.if-not-is_well_formed.false)) (sym c.has_sds_named.ensures ∙ c.if-has_sds_named.true)) refl

pub free_sds-requires : goal.free_sds-requires
free_sds-requires c = sound_long (c.is_sound.ensures.holds c.if-not-is_sound.false)

pub returns-in_default : goal.returns-in_default
returns-in_default c =
    kept_refused (c.is_sound.ensures.holds c.if-not-is_sound.false)
    (stops
    (untaken_left _ _ (sym c.is_well_formed.ensures ∙ c.if-not-is_well_formed.false) (sym c.has_sds_named.ensures ∙ c.if-has_sds_named.false))
    (free_none c.in_default.ensures.lowest (omega arith))) refl

pub write_sds-requires : goal.write_sds-requires
write_sds-requires c = (
  sound_long (c.is_sound.ensures.holds c.if-not-is_sound.false),
  (c.in-Some.ensures.below, (formed_long _ (sym c.is_well_formed.ensures ∙ c.if-not-is_well_formed.false)).1),
)

pub returns : goal.returns
returns c =
    let x = c.args in
    let sound = c.is_sound.ensures.holds c.if-not-is_sound.false in
    let free = c.in-Some.ensures in
    let number = free_number free.lowest free.below in
    kept_done sound
    (ends
    (passes
    (untaken_left _ _ (sym c.is_well_formed.ensures ∙ c.if-not-is_well_formed.false) (sym c.has_sds_named.ensures ∙ c.if-has_sds_named.false))
    (free_some free.lowest free.below)))
    (ap (λ (k : ℕ). success k 0 0) number)
    (c.write_sds.ensures ∙ sds_changed sound c.in-Some.d x.name.now free.below
    ∙ ap (λ (k : ℕ). picture (named k x.name.now (schema_of x.base.now))) number)
