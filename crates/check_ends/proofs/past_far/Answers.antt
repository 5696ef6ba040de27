-- Where the row is, it stands far off or is found by its bytes, which its number tells.
use Rattle.std.proofs.Common.{ℕ, Option, arith, subst, sym}
use Rattle.check_ends.specs.Ends.{RowPast}
use Rattle.check_ends.proofs.RowLaws.{numbered, row_past_at, row_past, row_none}
use Rattle.check_ends.proofs.past_far.Goals as goal

pub returns-then-is_row : goal.returns-then-is_row
returns-then-is_row c = row_past_at (c.is_row.ensures.holds c.if-is_row.true)

pub returns-in_err-row : goal.returns-in_err-row
returns-in_err-row c =
    let x = c.args in
    subst (λ (o : Option ℕ). RowPast x.base.now x.n x.number o) (sym c.from_residual.ensures)
    (row_none (λ i h. numbered x.base.now c.requires.base_len.0 (λ k. (c.type_inv.base k).fits) i (omega (arith, c.requires.base_len.1)))
    c.in_err-row.ensures.found (omega arith))

pub returns : goal.returns
returns c =
    row_past (λ i h. numbered c.args.base.now c.requires.base_len.0 (λ k. (c.type_inv.base k).fits) i (omega (arith, c.requires.base_len.1)))
    c.in_ok-row.ensures.found c.in_ok-row.ensures.below
