-- The tests are the fields of `ApplicationFits`.
use Rattle.std.proofs.Common.{ℕ, ◌<◌, Bool, get_or, arith, sym, ap, ◌∙◌, subst, true≢false}
use borrow.Author.Tests.{eqb-true, eqb-false}
use Rattle.rows.proofs.Decides.{decides_no}
use Rattle.check_applications.specs.Applied.{RowDecided}
use Rattle.check_applications.proofs.ApplicationLaws.{read_at, applied_outside, applied_no_attribute, applied_decided}
use Rattle.check_applications.proofs.application_fine.Goals.{then-holds_both, else-holds_both}
use Rattle.check_applications.proofs.application_fine.Goals as goal

pub returns-then-kind-eq-ATTRIBUTE : goal.returns-then-kind-eq-ATTRIBUTE
returns-then-kind-eq-ATTRIBUTE c =
    let b = c.args.base.now in
    let read = read_at c.requires.shown c.byte-d.ensures.is c.byte-to.ensures.is c.byte-attribute.ensures.is in
    record {
      decides = λ i e s.
          let small : c.byte-d.result < 16 = omega (arith, c.byte-d.ensures.is, ap (λ (k : ℕ). get_or b k 0) e) in
          elim c.if-holds_both.branch [
            | then-holds_both w ↦ applied_decided (read i e) c.holds_both.ensures small w.if-holds_both.true w.kind.ensures.is
                (eqb-true w.kind.result 2 (sym w.value-is ∙ c.if-kind-eq-ATTRIBUTE.true)) c.kind-then-kind-eq-ATTRIBUTE.ensures.is
            | else-holds_both w ↦ absurd (true≢false (sym c.if-kind-eq-ATTRIBUTE.true ∙ w.value-is ∙ w.if-holds_both.false))
          ];
    }

pub returns-else-kind-eq-ATTRIBUTE : goal.returns-else-kind-eq-ATTRIBUTE
returns-else-kind-eq-ATTRIBUTE c =
    let b = c.args.base.now in
    let read = read_at c.requires.shown c.byte-d.ensures.is c.byte-to.ensures.is c.byte-attribute.ensures.is in
    subst (λ (r : Bool). RowDecided b c.args.at r) (sym c.if-kind-eq-ATTRIBUTE.false) (record {
      decides = λ i e s.
          let small : c.byte-d.result < 16 = omega (arith, c.byte-d.ensures.is, ap (λ (k : ℕ). get_or b k 0) e) in
          decides_no (λ y. elim c.if-holds_both.branch [
            | then-holds_both w ↦ applied_no_attribute (read i e) c.holds_both.ensures small w.if-holds_both.true w.kind.ensures.is
                (eqb-false w.kind.result 2 (sym w.value-is ∙ c.if-kind-eq-ATTRIBUTE.false)) y
            | else-holds_both w ↦ applied_outside (read i e) c.holds_both.ensures small w.if-holds_both.false y
          ]);
    })
