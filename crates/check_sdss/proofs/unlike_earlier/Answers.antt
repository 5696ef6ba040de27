-- Each field passed before d has another name.
use Rattle.std.proofs.Common.{arith, ◌<◌, sym, ◌∙◌, subst, true≢false}
use mathlib.Core.Path.{ap₂}
use borrow.Author.Count.{below_more}
use Rattle.rules.specs.03-Names.{same_name}
use Rattle.rows.specs.Order.{NameBytes}
use Rattle.rows.proofs.Decides.{decides_yes, decides_no}
use Rattle.check_sdss.proofs.SdsLaws.{fine_bytes}
use Rattle.check_sdss.proofs.unlike_earlier.Goals as goal

pub are_same-requires : goal.are_same-requires
are_same-requires c =
    let x = c.requires in
    let e = c.loop-e.e in
    let below : e < 16 = omega arith in
    let fine = fine_bytes c.args.base.now x.base_len.0 in (
      subst NameBytes (sym c.sds_field.ensures) (fine c.args.d x.base_len.1 (x.fields_fine c.args.d x.base_len.1)),
      subst NameBytes (sym c.sds_field-in-loop-e.ensures) (fine e below (x.fields_fine e below)),
    )

pub returns-then-are_same : goal.returns-then-are_same
returns-then-are_same c =
    let same = ap₂ same_name (sym c.sds_field.ensures) (sym c.sds_field-in-loop-e.ensures) in
    decides_no (λ f. f c.loop-e.e c.loop-e-test.true (same ∙ sym c.are_same.ensures ∙ c.if-are_same.true))

pub loop-e-preserved : goal.loop-e-preserved
loop-e-preserved c =
    let same = ap₂ same_name (sym c.sds_field.ensures) (sym c.sds_field-in-loop-e.ensures) in
    below_more _ _ c.loop-e.invariant (λ q. true≢false (sym q ∙ same ∙ sym c.are_same.ensures ∙ c.if-are_same.false))

pub returns : goal.returns
returns c = decides_yes (λ k h. c.loop-e.invariant k (omega arith))
