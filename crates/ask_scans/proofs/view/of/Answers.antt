-- A test that passes comes to the next of `type_refusals`, one that fails tells its refusal; past all, the word has what is listed.
use Rattle.std.proofs.Common.{ℕ, List, Bool, ◌≡◌, true, false, not, refl, sym, ap, ◌∙◌}
use Rattle.rules.specs.01-Lists.{any}
use Rattle.rules.specs.04-Schema.{kind_of}
use Rattle.rules.specs.07-Picture.{Sound}
use Rattle.rules.specs.08-Working.{visible}
use Rattle.rules.specs.09-Refusals.{unknown_sds}
use Rattle.rules.specs.declared.Refused.TheVariants.{NotSound, UnknownSds, UnknownCode, NoSuchType, WrongKind, Repeated}
use Rattle.base.specs.Back.{schema_of}
use Rattle.base.proofs.Kept.{sound_long}
use Rattle.base.proofs.TestedLaws.{come_spoiled, Past, come_first, come_next, come_stops, come_through}
use Rattle.visible.proofs.Rules.{visible_are}
use Rattle.ask_scans.specs.View.{of_kind, type_refusals}
use Rattle.ask_scans.proofs.ViewLaws.{not_viewed, visible_below, listed_sds, listed_small, not_seen, seen}
use Rattle.ask_scans.proofs.view.of.Goals as goal

-- the conditions before that of number 6, 7, 8 have failed
module _ (b w : List ℕ) (t : ℕ) (link known : Bool) (s : Sound b) (sdss : any (unknown_sds (schema_of b)) w ≡ false) (code : known ≡ true) where
  at_6 : Past b (type_refusals (schema_of b) w t link known) 6
  at_6 = come_next (come_next (come_first s) sdss) (ap not code)

  module _ (seen_there : visible (schema_of b) w t ≡ true) where
    at_7 : Past b (type_refusals (schema_of b) w t link known) 7
    at_7 = come_next at_6 (seen b w t refl (ap not seen_there))

    at_8 : of_kind link (kind_of (schema_of b) t) ≡ true → Past b (type_refusals (schema_of b) w t link known) 8
    at_8 e = come_next at_7 (ap not e)

pub returns-then-not-is_sound : goal.returns-then-not-is_sound
returns-then-not-is_sound c = not_viewed NotSound (come_spoiled (c.is_sound.ensures.fails c.if-not-is_sound.true) refl)

pub has_unknown-requires : goal.has_unknown-requires
has_unknown-requires c = sound_long (c.is_sound.ensures.holds c.if-not-is_sound.false)

pub returns-then-has_unknown : goal.returns-then-has_unknown
returns-then-has_unknown c =
    not_viewed UnknownSds
    (come_stops (come_first (c.is_sound.ensures.holds c.if-not-is_sound.false)) (sym c.has_unknown.ensures ∙ c.if-has_unknown.true) refl)

pub returns-then-not-known : goal.returns-then-not-known
returns-then-not-known c =
    not_viewed UnknownCode
    (come_stops (come_next (come_first (c.is_sound.ensures.holds c.if-not-is_sound.false)) (sym c.has_unknown.ensures ∙ c.if-has_unknown.false))
    (ap not c.if-not-known.true) refl)

pub listed-listed-requires : goal.listed-listed-requires
listed-listed-requires c = listed_sds (c.is_sound.ensures.holds c.if-not-is_sound.false) _ (sym c.has_unknown.ensures ∙ c.if-has_unknown.false)

pub is_visible-requires : goal.is_visible-requires
is_visible-requires c = c.is_sound.ensures.holds c.if-not-is_sound.false

pub returns-then-not-is_visible : goal.returns-then-not-is_visible
returns-then-not-is_visible c =
    let x = c.args in
    not_viewed NoSuchType
    (come_stops
    (at_6 x.base.now x.schema.now x.t x.link x.known (c.is_sound.ensures.holds c.if-not-is_sound.false)
    (sym c.has_unknown.ensures ∙ c.if-has_unknown.false) c.if-not-known.false)
    (not_seen _ _ _ (c.is_visible.ensures ∙ visible_are _ _ _ c.listed-listed.ensures _) (ap not c.if-not-is_visible.true)) refl)

pub is_of_kind-requires : goal.is_of_kind-requires
is_of_kind-requires c = sound_long (c.is_sound.ensures.holds c.if-not-is_sound.false)

pub returns-then-not-is_of_kind : goal.returns-then-not-is_of_kind
returns-then-not-is_of_kind c =
    let x = c.args in
    not_viewed WrongKind
    (come_stops
    (at_7 x.base.now x.schema.now x.t x.link x.known (c.is_sound.ensures.holds c.if-not-is_sound.false)
    (sym c.has_unknown.ensures ∙ c.if-has_unknown.false) c.if-not-known.false
    (sym (visible_are _ _ _ c.listed-listed.ensures _) ∙ sym c.is_visible.ensures ∙ c.if-not-is_visible.false))
    (ap not (sym c.is_of_kind.ensures ∙ c.if-not-is_of_kind.true)) refl)

pub has_repeated-requires : goal.has_repeated-requires
has_repeated-requires c = listed_small (c.is_sound.ensures.holds c.if-not-is_sound.false) _ (sym c.has_unknown.ensures ∙ c.if-has_unknown.false)

pub returns-then-has_repeated : goal.returns-then-has_repeated
returns-then-has_repeated c =
    let x = c.args in
    not_viewed Repeated
    (come_stops
    (at_8 x.base.now x.schema.now x.t x.link x.known (c.is_sound.ensures.holds c.if-not-is_sound.false)
    (sym c.has_unknown.ensures ∙ c.if-has_unknown.false) c.if-not-known.false
    (sym (visible_are _ _ _ c.listed-listed.ensures _) ∙ sym c.is_visible.ensures ∙ c.if-not-is_visible.false)
    (sym c.is_of_kind.ensures ∙ c.if-not-is_of_kind.false))
    (sym c.has_repeated.ensures ∙ c.if-has_repeated.true) refl)

pub returns : goal.returns
returns c =
    let x = c.args in
    let s = c.is_sound.ensures.holds c.if-not-is_sound.false in
    let shown = sym (visible_are _ _ _ c.listed-listed.ensures _) ∙ sym c.is_visible.ensures ∙ c.if-not-is_visible.false in
    record {
      told = come_through (come_next
          (at_8 x.base.now x.schema.now x.t x.link x.known s (sym c.has_unknown.ensures ∙ c.if-has_unknown.false) c.if-not-known.false shown
          (sym c.is_of_kind.ensures ∙ c.if-not-is_of_kind.false))
          (sym c.has_repeated.ensures ∙ c.if-has_repeated.false));
      code_known = c.if-not-known.false;
      through = record {
        sound = s;
        below = visible_below s _ _ shown;
        kind = sym c.is_of_kind.ensures ∙ c.if-not-is_of_kind.false;
        listed = c.listed-listed.ensures;
        held = sym c.is_visible.ensures ∙ c.if-not-is_visible.false;
      };
    }
