-- A nameless row is of an object type, and the first of its SDS, or behind nameless ones of lower types alone.
use Rattle.std.proofs.Common.{◌≡◌, ◌+◌, List, ℕ, Bool, true, get_or, sym, ap, ap₂, ◌∙◌, true≢false}
use lib.Dec.{ltb}
use borrow.Author.Tests.{not-false, eqb-true}
use Rattle.rules.specs.04-Schema.{kind_of, is_object}
use Rattle.rules.specs.Read.{type_offset}
use Rattle.base.specs.Rows.{presence_at}
use Rattle.base.specs.Back.{schema_of}
use Rattle.check_presences.proofs.FloorLaws.{met, not_behind, no_object, nameless, first_nameless, behind_name, by_types}
use Rattle.check_presences.proofs.nameless_follows.Goals.{Then-is_kind, then-key-eq-BLANK, else-key-eq-BLANK}
use Rattle.check_presences.proofs.nameless_follows.Goals as goal

-- the type that was asked is the one that stands there
kind_there : (b : List ℕ) (at : ℕ) {t : ℕ} {k : Bool} → k ≡ is_object (kind_of (schema_of b) t) → t ≡ get_or b at 0
    → k ≡ is_object (kind_of (schema_of b) (get_or b at 0))
kind_there b at e is = e ∙ ap (λ (t : ℕ). is_object (kind_of (schema_of b) t)) is

-- the row has no name, and is of an object type
unnamed : (c : Then-is_kind) → (c.args.key.first ≡ 0x0101010101010101)
    × (is_object (kind_of (schema_of c.args.base.now) (get_or c.args.base.now (presence_at c.args.i + type_offset) 0)) ≡ true)
unnamed c =
    elim c.if-key-eq-BLANK.branch [
      | then-key-eq-BLANK w ↦ (
        w.if-key-eq-BLANK.true,
        sym (kind_there c.args.base.now _ w.is_kind.ensures w.presence_type.ensures.is) ∙ sym w.value-is ∙ c.if-is_kind.true,
      )
      | else-key-eq-BLANK w ↦ absurd (w.if-key-eq-BLANK.false (eqb-true _ _ (sym w.value-is ∙ c.if-is_kind.true)))
    ]

pub returns-then-presence_sds : goal.returns-then-presence_sds
returns-then-presence_sds c =
    let x = c.requires in
    let m = met x.base_len x.field_fine (λ j. (c.type_inv.base j).fits) x.under.1.0 x.under.0 in
    let (blank, object) = unnamed (goal.at.returns-then-presence_sds c).Then-is_kind in
    let other = c.if-presence_sds.true in
    record {
      holds = λ e. first_nameless m blank object (λ s. other (c.presence_sds.ensures.is ∙ s ∙ sym c.presence_sds-then-is_kind.ensures.is));
      fails = λ e q. other (eqb-true c.presence_sds.result c.presence_sds-then-is_kind.result (not-false _ e));
    }

pub returns-then-floor-eq-BOTTOM : goal.returns-then-floor-eq-BOTTOM
returns-then-floor-eq-BOTTOM c =
    let x = c.requires in
    let m = met x.base_len x.field_fine (λ j. (c.type_inv.base j).fits) x.under.1.0 x.under.0 in
    let (blank, object) = unnamed (goal.at.returns-then-floor-eq-BOTTOM c).Then-is_kind in
    let same = sym c.presence_sds.ensures.is ∙ c.if-presence_sds.false ∙ c.presence_sds-then-is_kind.ensures.is in
    let order = by_types m blank object same c.if-floor-eq-BOTTOM.true
    ∙ sym (ap₂ ltb c.presence_type-then-floor-eq-BOTTOM.ensures.is c.presence_type-then-floor-eq-BOTTOM-2.ensures.is) in
    record {
      holds = λ e. nameless m blank object (order ∙ e);
      fails = λ e q. true≢false (sym q.behind ∙ order ∙ e);
    }

pub returns-else-floor-eq-BOTTOM : goal.returns-else-floor-eq-BOTTOM
returns-else-floor-eq-BOTTOM c =
    let x = c.requires in
    let m = met x.base_len x.field_fine (λ j. (c.type_inv.base j).fits) x.under.1.0 x.under.0 in
    let (blank, object) = unnamed (goal.at.returns-else-floor-eq-BOTTOM c).Then-is_kind in
    let same = sym c.presence_sds.ensures.is ∙ c.if-presence_sds.false ∙ c.presence_sds-then-is_kind.ensures.is in
    record {
      holds = λ e. absurd (c.if-floor-eq-BOTTOM.false (eqb-true c.args.floor.first 0x41ffffffffffffff e));
      fails = λ e. behind_name m blank object same c.if-floor-eq-BOTTOM.false;
    }

pub returns-else-is_kind : goal.returns-else-is_kind
returns-else-is_kind c =
    let x = c.requires in
    let m = met x.base_len x.field_fine (λ j. (c.type_inv.base j).fits) x.under.1.0 x.under.0 in
    record {
      holds = λ e. absurd (true≢false (sym e ∙ c.if-is_kind.false));
      fails = λ e. elim c.if-key-eq-BLANK.branch [
        | then-key-eq-BLANK w ↦ no_object m w.if-key-eq-BLANK.true
            (sym (kind_there c.args.base.now _ w.is_kind.ensures w.presence_type.ensures.is) ∙ sym w.value-is ∙ e)
        | else-key-eq-BLANK w ↦ not_behind m x.under.1.1 w.if-key-eq-BLANK.false
      ];
    }
