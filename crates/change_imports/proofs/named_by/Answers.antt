-- What import tests before the names are filled in: test by test, by what is left of the refusals.
use Rattle.std.proofs.Common.{ℕ, ◌≡◌, List, ◌||◌, false, refl, sym, ◌∙◌, arith}
use Rattle.rules.specs.declared.Refused.TheVariants.{UnknownSds, SystemSds, Malformed, NoSuchType, WrongKind, AlreadyThere}
use Rattle.rules.specs.03-Names.{Name}
use Rattle.rules.specs.04-Schema.{present}
use Rattle.rules.specs.07-Picture.{Sound}
use Rattle.rules.specs.09-Refusals.{unknown_sds, malformed, malformed_new}
use Rattle.rules.proofs.NameTests.{system_stops, system_passes}
use Rattle.base.specs.Back.{schema_of}
use Rattle.base.proofs.Kept.{sound_long}
use Rattle.base.proofs.TestedLaws.{Past, come_spoiled, come_first, come_next, come_through}
use Rattle.conditions.proofs.AimedLaws.{refused_here, missing, there, type_found}
use Rattle.change_imports.specs.Import.{first_refusals}
use Rattle.change_imports.proofs.ImportLaws.{idle_is, of_named}
use Rattle.change_imports.proofs.named_by.Goals as goal

-- the SDSs and the names have passed
module _ {b : List ℕ} (target source : ℕ) (n new new_reverse : Name) (s : Sound b)
    (known : unknown_sds (schema_of b) target || unknown_sds (schema_of b) source ≡ false) where
  at_3 : Past b (first_refusals target source n new new_reverse (schema_of b)) 3
  at_3 = come_next (come_first s) known

  at_6 : (target ≡ 0 → ⊥) → malformed n || (malformed_new new || malformed_new new_reverse) ≡ false
      → Past b (first_refusals target source n new new_reverse (schema_of b)) 6
  at_6 other formed = come_next (come_next at_3 (system_passes _ other)) formed

pub returns-then-not-is_sound : goal.returns-then-not-is_sound
returns-then-not-is_sound c = record { told = come_spoiled (c.is_sound.ensures.fails c.if-not-is_sound.true) refl; so = tt }

pub is_one_unknown-requires : goal.is_one_unknown-requires
is_one_unknown-requires c = sound_long (c.is_sound.ensures.holds c.if-not-is_sound.false)

pub returns-then-is_one_unknown : goal.returns-then-is_one_unknown
returns-then-is_one_unknown c =
    refused_here UnknownSds (come_first (c.is_sound.ensures.holds c.if-not-is_sound.false))
    (sym c.is_one_unknown.ensures ∙ c.if-is_one_unknown.true) refl refl

pub returns-then-target-eq0 : goal.returns-then-target-eq0
returns-then-target-eq0 c =
    refused_here SystemSds
    (at_3 _ _ _ _ _ (c.is_sound.ensures.holds c.if-not-is_sound.false) (sym c.is_one_unknown.ensures ∙ c.if-is_one_unknown.false))
    (system_stops _ c.if-target-eq0.true) refl refl

pub returns-then-is_one_malformed : goal.returns-then-is_one_malformed
returns-then-is_one_malformed c =
    refused_here Malformed
    (come_next (at_3 _ _ _ _ _ (c.is_sound.ensures.holds c.if-not-is_sound.false) (sym c.is_one_unknown.ensures ∙ c.if-is_one_unknown.false))
    (system_passes _ c.if-target-eq0.false))
    (sym c.is_one_malformed.ensures ∙ c.if-is_one_malformed.true) refl refl

pub type_in-requires : goal.type_in-requires
type_in-requires c = c.is_sound.ensures.holds c.if-not-is_sound.false

pub returns-in_default : goal.returns-in_default
returns-in_default c =
    refused_here NoSuchType
    (at_6 _ _ _ _ _ (c.is_sound.ensures.holds c.if-not-is_sound.false) (sym c.is_one_unknown.ensures ∙ c.if-is_one_unknown.false)
    c.if-target-eq0.false (sym c.is_one_malformed.ensures ∙ c.if-is_one_malformed.false))
    (missing c.in_default.ensures.named refl) refl refl

pub returns-then-is_idle : goal.returns-then-is_idle
returns-then-is_idle c =
    let x = c.args in
    let found = c.in-Some.ensures in
    let type = type_found found.named (λ z. omega (arith, found.below)) in
    let rev = c.reverse_of-reverse.ensures in
    let come = at_6 _ _ _ _ _ (c.is_sound.ensures.holds c.if-not-is_sound.false) (sym c.is_one_unknown.ensures ∙ c.if-is_one_unknown.false)
    c.if-target-eq0.false (sym c.is_one_malformed.ensures ∙ c.if-is_one_malformed.false) in
    refused_here WrongKind (come_next come (there found.named (λ z. omega (arith, found.below))))
    (idle_is x.new_reverse.now _ type.named rev.reverse rev.below c.is_idle.ensures ∙ c.if-is_idle.true) refl refl

pub is_present-requires : goal.is_present-requires
is_present-requires c = sound_long (c.is_sound.ensures.holds c.if-not-is_sound.false)

pub returns-then-is_present : goal.returns-then-is_present
returns-then-is_present c =
    let x = c.args in
    let found = c.in-Some.ensures in
    let type = type_found found.named (λ z. omega (arith, found.below)) in
    let rev = c.reverse_of-reverse.ensures in
    let come = at_6 _ _ _ _ _ (c.is_sound.ensures.holds c.if-not-is_sound.false) (sym c.is_one_unknown.ensures ∙ c.if-is_one_unknown.false)
    c.if-target-eq0.false (sym c.is_one_malformed.ensures ∙ c.if-is_one_malformed.false) in
    refused_here AlreadyThere
    (come_next (come_next come (there found.named (λ z. omega (arith, found.below))))
    (idle_is x.new_reverse.now _ type.named rev.reverse rev.below c.is_idle.ensures ∙ c.if-is_idle.false))
    (of_named (present (schema_of x.base.now) x.target) type.named c.is_present.ensures ∙ c.if-is_present.true) refl refl

pub returns : goal.returns
returns c =
    let x = c.args in
    let found = c.in-Some.ensures in
    let type = type_found found.named (λ z. omega (arith, found.below)) in
    let rev = c.reverse_of-reverse.ensures in
    let come = at_6 _ _ _ _ _ (c.is_sound.ensures.holds c.if-not-is_sound.false) (sym c.is_one_unknown.ensures ∙ c.if-is_one_unknown.false)
    c.if-target-eq0.false (sym c.is_one_malformed.ensures ∙ c.if-is_one_malformed.false) in
    record {
      told = come_through (come_next (come_next (come_next come (there found.named (λ z. omega (arith, found.below))))
          (idle_is x.new_reverse.now _ type.named rev.reverse rev.below c.is_idle.ensures ∙ c.if-is_idle.false))
          (of_named (present (schema_of x.base.now) x.target) type.named c.is_present.ensures ∙ c.if-is_present.false));
      so = record { type = type; pair = rev.reverse; below = rev.below };
    }
