-- Each row passed is fine, or one refuses; the numbers rise no more behind the last row.
use Rattle.std.proofs.Common.{ℕ, ◌+◌, ◌<◌, get_or, arith, ap, sym, subst}
use Rattle.std.proofs.lemmas.Int.{ints}
use mir.Val.{to_z}
use mir.Syntax.{w64}
use borrow.Author.Tests.{eqb-true, eqb-false}
use Rattle.rows.proofs.Decides.{decides_no}
use Rattle.check_ends.specs.Ends.{Small}
use Rattle.check_ends.proofs.RowLaws.{weight_small, balance_on, balance_small}
use Rattle.check_ends.proofs.EndLaws.{fine_found}
use Rattle.check_ends.proofs.PassLaws.{going_start, fine_small, going_below, going_number, going_reached, going_last, going_on}
use Rattle.check_ends.proofs.PassLaws.{going_not, going_done}
use Rattle.check_ends.proofs.ends_fine.Goals as goal

pub returns-then-not-no_end_from : goal.returns-then-not-no_end_from
returns-then-not-no_end_from c =
    let x = c.requires in
    decides_no (λ f. c.no_end_from.ensures.fails c.if-not-no_end_from.true
    (fine_found x.shown (λ k. (c.type_inv.base k).fits) c.args.n x.halved.fits x.halved f).rest)

pub loop-before-init : goal.loop-before-init
loop-before-init c = going_start c.requires.shown (λ k. (c.type_inv.base k).fits) c.requires.halved.fits c.end_number-number.ensures

pub returns-then-not-is_small : goal.returns-then-not-is_small
returns-then-not-is_small c =
    let x = c.requires in
    let bytes : (k : ℕ) → get_or c.args.base.now k 0 < 256 = λ k. (c.type_inv.base k).fits in
    let rest = c.no_end_from.ensures.holds c.if-not-no_end_from.false in
    let going = c.loop-before.invariant in
    let test = c.loop-before-test.true in
    let below = going_below x.shown bytes x.halved.fits rest going test in
    decides_no (going_not x.shown bytes x.halved.fits rest going x.halved below (λ y.
    c.is_small.ensures.fails c.if-not-is_small.true
    (subst Small (sym (going_number x.shown bytes x.halved.fits rest going test))
    (fine_small x.shown bytes x.halved.fits _ (omega (arith, below, x.halved.fits)) y))))

pub group_at-requires-clause-reached : goal.group_at-requires-clause-reached
group_at-requires-clause-reached c =
    let x = c.requires in
    let rest = c.no_end_from.ensures.holds c.if-not-no_end_from.false in (
      going_reached x.shown (λ k. (c.type_inv.base k).fits) x.halved.fits rest c.loop-before.invariant c.loop-before-test.true
          (c.is_small.ensures.holds c.if-not-is_small.false),
      x.shown,
    )

pub group_at-requires-clause-number_value : goal.group_at-requires-clause-number_value
group_at-requires-clause-number_value c =
    let x = c.requires in
    let bytes : (k : ℕ) → get_or c.args.base.now k 0 < 256 = λ k. (c.type_inv.base k).fits in
    let rest = c.no_end_from.ensures.holds c.if-not-no_end_from.false in
    let going = c.loop-before.invariant in
    let test = c.loop-before-test.true in
    let at = going_reached x.shown bytes x.halved.fits rest going test (c.is_small.ensures.holds c.if-not-is_small.false) in
    (going_number x.shown bytes x.halved.fits rest going test, going_last x.shown bytes x.halved.fits rest going test at)

pub returns-in_default : goal.returns-in_default
returns-in_default c =
    let x = c.requires in
    let bytes : (k : ℕ) → get_or c.args.base.now k 0 < 256 = λ k. (c.type_inv.base k).fits in
    let rest = c.no_end_from.ensures.holds c.if-not-no_end_from.false in
    let going = c.loop-before.invariant in
    decides_no (going_not x.shown bytes x.halved.fits rest going x.halved (going_below x.shown bytes x.halved.fits rest going c.loop-before-test.true)
    c.in_default.ensures)

pub overflow_add-balance : goal.overflow_add-balance
overflow_add-balance c =
    let x = c.requires in
    let b = c.args.base.now in
    let at = c.loop-before in
    let rest = c.no_end_from.ensures.holds c.if-not-no_end_from.false in
    let below = going_below x.shown (λ k. (c.type_inv.base k).fits) x.halved.fits rest at.invariant c.loop-before-test.true in
    let counts = balance_on b at.i c.in-Some.passed.mirrors at.invariant.counts c.in-Some.ensures.group.rank in
    let small = balance_small b (at.i + 1) (omega (arith, below, x.halved.fits)) counts in
    omega (arith, ints, c.weight-balance.ensures, small.0, small.1)

pub loop-before-smaller : goal.loop-before-smaller
loop-before-smaller c =
    let x = c.requires in
    let rest = c.no_end_from.ensures.holds c.if-not-no_end_from.false in
    omega (arith, going_below x.shown (λ k. (c.type_inv.base k).fits) x.halved.fits rest c.loop-before.invariant c.loop-before-test.true)

pub loop-before-preserved : goal.loop-before-preserved
loop-before-preserved c =
    let x = c.requires in
    let b = c.args.base.now in
    let at = c.loop-before in
    let rest = c.no_end_from.ensures.holds c.if-not-no_end_from.false in
    let below = going_below x.shown (λ k. (c.type_inv.base k).fits) x.halved.fits rest at.invariant c.loop-before-test.true in
    let m = c.in-Some.passed.mirrors in
    let now = balance_small b at.i (omega (arith, below, x.halved.fits)) at.invariant.counts in
    let weight = weight_small m in
    going_on x.shown (λ k. (c.type_inv.base k).fits) x.halved.fits rest at.invariant c.loop-before-test.true
    c.in-Some.ensures c.end_number-number-in-loop-before.ensures (omega (arith, ints, c.weight-balance.ensures, now.0, now.1, weight.0, weight.1))

pub returns : goal.returns
returns c =
    let x = c.requires in
    let rest = c.no_end_from.ensures.holds c.if-not-no_end_from.false in
    going_done x.shown (λ k. (c.type_inv.base k).fits) x.halved.fits rest c.loop-before.invariant x.halved c.loop-before-test.false
    (record { holds = λ e. ap (to_z w64) (eqb-true _ 0 e); fails = λ e z. eqb-false _ 0 e (grind (arith, ints)) })
