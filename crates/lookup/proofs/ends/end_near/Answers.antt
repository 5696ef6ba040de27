-- Where the row is, it stands near or at its place.
use Rattle.lookup.proofs.EndLaws.{end_found_at, end_found_none}
use Rattle.lookup.proofs.ends.end_near.Goals as goal

pub returns-then-is_end-clause-found : goal.returns-then-is_end-clause-found
returns-then-is_end-clause-found c = end_found_at (c.is_end.ensures.holds c.if-is_end.true)

pub returns-then-is_end-2-clause-found : goal.returns-then-is_end-2-clause-found
returns-then-is_end-2-clause-found c = end_found_at (c.is_end-2.ensures.holds c.if-is_end-2.true)

pub returns-clause-found : goal.returns-clause-found
returns-clause-found c =
    let r = c.requires in
    end_found_none r.base_len.0 r.base_len.1 r.in_order c.place-at.ensures (c.is_end-2.ensures.fails c.if-is_end-2.false)
