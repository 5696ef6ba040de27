-- The lowest that the rows passed tell: of none, of one more, of all.
use Rattle.std.proofs.Common.{ℕ, ◌≡◌, arith, subst}
use Rattle.in_use.specs.Held.{LowestOf, any_below}
use Rattle.in_use.proofs.HeldLaws.{rows_none, rows_more}
use Rattle.in_use.proofs.lowest_of.Goals as goal

pub loop-i-init : goal.loop-i-init
loop-i-init g c = (omega arith, λ tells told. rows_none tells)

pub loop-i-preserved : goal.loop-i-preserved
loop-i-preserved g c =
    let l = c.loop-i in
    let more = c.loop-i-test.true in
    (omega (arith, more), λ tells told. rows_more tells l.i (c.lower-lowest.ensures _ _ (l.invariant.1 tells told) (told l.i _ more c.told.ensures)))

pub returns : goal.returns
returns g c =
    let l = c.loop-i in
    let all : l.i ≡ c.args.n = omega (arith, l.invariant.0, c.loop-i-test.false) in
    λ tells told. subst (λ (m : ℕ). LowestOf (λ k. any_below (λ i. tells i k) m) l.lowest) all (l.invariant.1 tells told)
