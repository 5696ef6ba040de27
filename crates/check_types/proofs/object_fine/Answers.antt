-- A last parent that is fine, and those before it, decide; they rise, so that where the last is numbered below the child all are.
use Rattle.std.proofs.Common.{arith, rules, subst}
use Rattle.check_types.specs.OneType.{ParentFine}
use Rattle.check_types.proofs.OneTypeLaws.{told_rises, told_falls}
use Rattle.check_types.proofs.NumberLaws.{last_small, under, object_all}
use Rattle.check_types.proofs.object_fine.Goals as goal

pub returns-then-t-last : goal.returns-then-t-last
returns-then-t-last c =
    let x = c.args in
    let (e, none) = last_small c.places.ensures x.n c.requires.n_bound.0 (omega arith) in
    let last = subst (ParentFine x.base.now x.held.now x.sdss) e (c.parent_fine.ensures.holds (search rules)) in
    told_rises (object_all c.requires.n_bound.0 c.requires.n_bound.1 none (omega arith) last (c.parents_fine.ensures.holds (search rules)))

pub returns : goal.returns
returns c =
    let x = c.args in
    let (e, none) = last_small c.places.ensures x.n c.requires.n_bound.0 (omega arith) in
    let last = subst (ParentFine x.base.now x.held.now x.sdss) e (c.parent_fine.ensures.holds (search rules)) in
    let before = c.parents_fine.ensures.holds (search rules) in
    told_falls (object_all c.requires.n_bound.0 c.requires.n_bound.1 none (omega arith) last before) (λ i u.
    under x.base.now x.held.now x.t x.sdss x.n x.t before (omega arith) i (omega (arith, c.requires.n_bound.1.count)))
