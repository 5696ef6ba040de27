-- The tests are the fields of `SystemFirst`, the last of which asks nothing where there is one row.
use Rattle.std.proofs.Common.{◌≡◌, ◌<◌, ℕ, Bool, true, false, get_or, refl, sym, ◌∙◌, arith, true≢false}
use lib.Dec.{eqb}
use borrow.Author.Tests.{not-true, not-false, eqb-true, eqb-false}
use Rattle.base.specs.Rows.{presence_at}
use Rattle.check_presences.specs.Rows.{SystemFirst}
use Rattle.check_presences.proofs.RowLaws.{object_field, field_object}
use Rattle.check_presences.proofs.system_first.Goals.{Then-presence_definition-eq-ALL_MODES}
use Rattle.check_presences.proofs.system_first.Goals.{then-n-ne0, else-n-ne0, then-presence_sds-eq0, else-presence_sds-eq0}
use Rattle.check_presences.proofs.system_first.Goals.{then-presence_type-eq0, else-presence_type-eq0, then-is_equal, else-is_equal}
use Rattle.check_presences.proofs.system_first.Goals.{then-presence_usage-eq-ALL_MODES, else-presence_usage-eq-ALL_MODES}
use Rattle.check_presences.proofs.system_first.Goals as goal

-- a byte that was read is compared with the one asked for
same : {m n k : ℕ} {v : Bool} → m ≡ n → v ≡ eqb m k → v ≡ true → n ≡ k
same {m} {n} {k} is e t = sym is ∙ eqb-true m k (sym e ∙ t)

differs : {m n k : ℕ} {v : Bool} → m ≡ n → v ≡ eqb m k → v ≡ false → n ≡ k → ⊥
differs {m} {n} {k} is e f q = eqb-false m k (sym e ∙ f) (is ∙ q)

-- row 0 is that of a fresh base, whatever row 1 is
row_0 : (c : Then-presence_definition-eq-ALL_MODES) → (1 < c.args.n → get_or c.args.base.now (presence_at 1) 0 ≡ 0 → ⊥)
    → SystemFirst c.args.base.now c.args.n
row_0 c next =
    elim c.if-presence_usage-eq-ALL_MODES.branch [
      | then-presence_usage-eq-ALL_MODES u ↦ elim c.if-is_equal.branch [
        | then-is_equal e ↦ elim c.if-presence_type-eq0.branch [
          | then-presence_type-eq0 t ↦ elim c.if-presence_sds-eq0.branch [
            | then-presence_sds-eq0 s ↦ elim c.if-n-ne0.branch [
              | then-n-ne0 n ↦ record {
                some = omega (arith, n.if-n-ne0.true);
                sds = same n.presence_sds.ensures.is n.value-is s.if-presence_sds-eq0.true;
                type = same s.presence_type.ensures.is s.value-is t.if-presence_type-eq0.true;
                name = sym t.presence_field.ensures
                    ∙ field_object t.presence_field.result.now (sym t.is_equal.ensures ∙ sym t.value-is ∙ e.if-is_equal.true);
                usage = same e.presence_usage.ensures.is e.value-is u.if-presence_usage-eq-ALL_MODES.true;
                definition = same u.presence_definition.ensures.is u.value-is c.if-presence_definition-eq-ALL_MODES.true;
                next = next;
              }
              | else-n-ne0 n ↦ absurd (eqb-false c.args.n 0 (not-true _ (sym n.value-is ∙ s.if-presence_sds-eq0.true)) n.if-n-ne0.false)
            ]
            | else-presence_sds-eq0 s ↦ absurd (true≢false (sym t.if-presence_type-eq0.true ∙ s.value-is ∙ s.if-presence_sds-eq0.false))
          ]
          | else-presence_type-eq0 t ↦ absurd (true≢false (sym e.if-is_equal.true ∙ t.value-is ∙ t.if-presence_type-eq0.false))
        ]
        | else-is_equal e ↦ absurd (true≢false (sym u.if-presence_usage-eq-ALL_MODES.true ∙ e.value-is ∙ e.if-is_equal.false))
      ]
      | else-presence_usage-eq-ALL_MODES u ↦
          absurd (true≢false (sym c.if-presence_definition-eq-ALL_MODES.true ∙ u.value-is ∙ u.if-presence_usage-eq-ALL_MODES.false))
    ]

pub returns-then-n-eq1 : goal.returns-then-n-eq1
returns-then-n-eq1 c = record {
  holds = λ e. row_0 (goal.at.returns-then-n-eq1 c).Then-presence_definition-eq-ALL_MODES (λ h. absurd (omega (arith, c.if-n-eq1.true)));
  fails = λ other q. eqb-false c.args.n 1 other c.if-n-eq1.true;
}

pub returns-else-n-eq1 : goal.returns-else-n-eq1
returns-else-n-eq1 c =
    let row_1 = c.presence_sds-else-n-eq1 in
    let only = row_0 (goal.at.returns-else-n-eq1 c).Then-presence_definition-eq-ALL_MODES in
    record {
      holds = λ e. only (λ h. differs row_1.ensures.is refl (not-true _ e));
      fails = λ e q. q.next (omega (arith, c.if-n-eq1.false, q.some)) (same row_1.ensures.is refl (not-false _ e));
    }

pub returns-else-presence_definition-eq-ALL_MODES : goal.returns-else-presence_definition-eq-ALL_MODES
returns-else-presence_definition-eq-ALL_MODES c = record {
  holds = λ e. absurd (true≢false (sym e ∙ c.if-presence_definition-eq-ALL_MODES.false));
  fails = λ no q.
      elim c.if-presence_usage-eq-ALL_MODES.branch [
        | then-presence_usage-eq-ALL_MODES u ↦ differs u.presence_definition.ensures.is u.value-is no q.definition
        | else-presence_usage-eq-ALL_MODES u ↦ elim c.if-is_equal.branch [
          | then-is_equal e ↦ differs e.presence_usage.ensures.is e.value-is u.if-presence_usage-eq-ALL_MODES.false q.usage
          | else-is_equal e ↦ elim c.if-presence_type-eq0.branch [
            | then-presence_type-eq0 t ↦ true≢false (sym (object_field t.presence_field.result.now (t.presence_field.ensures ∙ q.name))
                ∙ sym t.is_equal.ensures ∙ sym t.value-is ∙ e.if-is_equal.false)
            | else-presence_type-eq0 t ↦ elim c.if-presence_sds-eq0.branch [
              | then-presence_sds-eq0 s ↦ differs s.presence_type.ensures.is s.value-is t.if-presence_type-eq0.false q.type
              | else-presence_sds-eq0 s ↦ elim c.if-n-ne0.branch [
                | then-n-ne0 n ↦ differs n.presence_sds.ensures.is n.value-is s.if-presence_sds-eq0.false q.sds
                | else-n-ne0 n ↦ omega (arith, q.some, n.if-n-ne0.false)
              ]
            ]
          ]
        ]
      ];
}
