-- What is asked of the table is asked of each of the n rows, and they are all.
use Rattle.std.proofs.Common.{◌≡◌, arith, refl, ◌∙◌}
use borrow.Author.Count.{below_more}
use Rattle.rows.proofs.Decides.{decides_yes, decides_no}
use Rattle.rows.proofs.OrderLaws.{passed_first, passed_next}
use Rattle.base.specs.Rows.{application_at}
use Rattle.check_applications.proofs.NumberLaws.{row_sds, last_number}
use Rattle.check_applications.proofs.ApplicationLaws.{all_fine, fine_blank, fine_bounded, fine_sds, fine_row}
use Rattle.check_applications.proofs.applications_fine.Goals.{then-not-no_application_from-via-then-not-no_application_from}
use Rattle.check_applications.proofs.applications_fine.Goals.{then-not-no_application_from-via-else-not-no_application_from+then-not-numbers_fine}
use Rattle.check_applications.proofs.applications_fine.Goals.{then-number-before-via-then-number-before, then-number-before-via-else-number-before+then-not-application_fine}
use Rattle.check_applications.proofs.applications_fine.Goals as goal

pub returns-then-not-no_application_from : goal.returns-then-not-no_application_from
returns-then-not-no_application_from c =
    let x = c.requires in
    decides_no (λ f. elim c.then-not-no_application_from.branch [
      | then-not-no_application_from-via-then-not-no_application_from w ↦
          c.no_application_from.ensures.fails w.if-not-no_application_from.true (fine_blank x.shown x.halved f)
      | then-not-no_application_from-via-else-not-no_application_from+then-not-numbers_fine w ↦
          w.numbers_fine.ensures.fails w.if-not-numbers_fine.true (fine_bounded x.shown x.halved f)
    ])

pub loop-i-init : goal.loop-i-init
loop-i-init c = record { place = refl; small = omega arith; passed = passed_first _ _ _ _; fine = λ l k h. absurd (omega arith) }

pub returns-then-number-before : goal.returns-then-number-before
returns-then-number-before c =
    let x = c.requires in
    let i = c.loop-i.i in
    let passed = c.loop-i.invariant in
    decides_no (λ f.
    let row = fine_row x.shown x.halved f (λ j. (c.type_inv.base j).fits) i c.loop-i-test.true in
    elim c.then-number-before.branch [
      | then-number-before-via-then-number-before w ↦ omega (arith, row.climbs, c.numbered-number.ensures.is, passed.passed, w.if-number-before.true)
      | then-number-before-via-else-number-before+then-not-application_fine w ↦
          (w.application_fine.ensures.decides i passed.place (fine_sds x.shown x.halved f i c.loop-i-test.true)).fails
          w.if-not-application_fine.true row.applied
    ])

pub loop-i-preserved : goal.loop-i-preserved
loop-i-preserved c =
    let x = c.requires in
    let b = c.args.base.now in
    let i = c.loop-i.i in
    let passed = c.loop-i.invariant in
    let number = c.numbered-number.ensures in
    record {
      place = omega (arith, passed.place);
      small = number.small;
      passed = number.is ∙ passed_next _ _ _ _ _;
      fine = λ l. below_more _ _ (passed.fine (omega (arith, c.if-number-before.false))) (record {
        climbs = omega (arith, number.is, passed.passed, c.if-number-before.false);
        applied = (c.application_fine.ensures.decides i passed.place
            (row_sds b (application_at i) (omega (arith, x.shown.long, x.halved.fits, c.loop-i-test.true)) (omega (arith, number.is)))).holds
            c.if-not-application_fine.false;
      });
    }

pub returns : goal.returns
returns c =
    let x = c.requires in
    let passed = c.loop-i.invariant in
    let all : c.loop-i.i ≡ c.args.n = omega (arith, c.loop-i-test.false) in
    let end = last_number x.shown.long c.loop-i.i c.args.n all x.halved.fits (c.numbers_fine.ensures.holds c.if-not-numbers_fine.false) in
    decides_yes (all_fine x.shown x.halved (λ j. (c.type_inv.base j).fits) (c.no_application_from.ensures.holds c.if-not-no_application_from.false)
    (λ i h. passed.fine (omega (arith, passed.passed)) i (omega arith)))
