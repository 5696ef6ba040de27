-- In a stored base the rows rise, so `end_near` finds the end among all of them.
use Rattle.std.proofs.Common.{ℕ, subst}
use Rattle.std.specs.Option.{unwrap_or}
use Rattle.rules.specs.Read.{read_side}
use Rattle.base.proofs.StoredLaws.{stored_long}
use Rattle.lookup.specs.Found.{EndPlace}
use Rattle.lookup.proofs.EndRows.{rows_rise, end_placed}
use Rattle.lookup.proofs.ends.end_row.Goals as goal

pub end_count-n-requires : goal.end_count-n-requires
end_count-n-requires c = stored_long c.requires.stored

pub end_near-requires-clause-base_len : goal.end_near-requires-clause-base_len
end_near-requires-clause-base_len c = (stored_long c.requires.stored, c.end_count-n.ensures.fits)

pub end_near-requires-clause-in_order : goal.end_near-requires-clause-in_order
end_near-requires-clause-in_order c = rows_rise c.requires.stored c.end_count-n.ensures

pub returns-clause-place : goal.returns-clause-place
returns-clause-place c =
    let x = c.args in
    let n = c.end_count-n.ensures in
    subst (λ (k : ℕ). EndPlace x.base.now x.d x.l (read_side x.side) x.o (unwrap_or c.end_near.result k)) n.is
    (end_placed c.requires.stored n c.requires.d_bound.1.1.0 c.end_near.ensures.found)
