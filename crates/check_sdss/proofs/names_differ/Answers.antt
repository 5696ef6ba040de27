-- Each SDS passed is alone with its name, and its mark was seen.
use Rattle.std.proofs.Common.{arith}
use borrow.Author.Count.{below_more}
use Rattle.check_sdss.proofs.names_differ.Goals as goal

pub loop-d-preserved : goal.loop-d-preserved
loop-d-preserved c =
    let passed = c.loop-d.invariant in
    let now = c.in-Some.ensures in
    record { place = omega (arith, passed.place); seen = now.seen; alone = below_more _ _ passed.alone now.alone }
