-- The words keep the rows passed, and each of these agrees with those before it.
use Rattle.std.proofs.Common.{arith}
use borrow.Author.Count.{below_none, below_more}
use Rattle.rows.proofs.Decides.{decides_yes, decides_no}
use Rattle.check_modes.proofs.PairLaws.{alike_agrees, agree_alike, keeps_none}
use Rattle.check_modes.proofs.pairs_fine.Goals as goal

pub loop-i-init : goal.loop-i-init
loop-i-init c = record { keeps = keeps_none _ _ c.requires.words_value; agree = below_none _ }

pub returns-then-not-row_agrees : goal.returns-then-not-row_agrees
returns-then-not-row_agrees c =
    let x = c.requires in
    decides_no (λ a. c.row_agrees.ensures.agrees.fails c.if-not-row_agrees.true
    (alike_agrees x.fine a c.loop-i.i (omega (arith, x.n_value, c.loop-i-test.true))))

pub loop-i-preserved : goal.loop-i-preserved
loop-i-preserved c =
    let agreed = c.row_agrees.ensures in
    record { keeps = agreed.keeps; agree = below_more _ _ c.loop-i.invariant.agree (agreed.agrees.holds c.if-not-row_agrees.false) }

pub returns : goal.returns
returns c =
    let x = c.requires in
    decides_yes (agree_alike x.fine (λ i h. c.loop-i.invariant.agree i (omega (arith, x.n_value, c.loop-i-test.false))))
