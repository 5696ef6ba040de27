-- `edit::write_modes` meets its contract: the two bytes behind the type of row i.
use Rattle.std.proofs.Common.{ℕ, ◌+◌, [], ◌∷◌, ap, ◌∙◌, arith}
use Rattle.rules.specs.Read.{usage_offset}
use Rattle.rows.specs.Table.{written}
use Rattle.base.specs.Tables.{presences}
use Rattle.base.proofs.Back.{rows_few}
use Rattle.base.proofs.StoredLaws.{stored_long}
use Rattle.edit.proofs.ModesWritten.{modes_written}
use Rattle.edit.proofs.write_modes.Goals as goal

pub row-at-requires : goal.row-at-requires
row-at-requires c = omega (arith, rows_few presences c.args.base.now)

pub write-requires : goal.write-requires
write-requires c = omega (arith, rows_few presences c.args.base.now, stored_long c.requires.stored)

pub returns : goal.returns
returns c =
    let x = c.args in
    modes_written c.requires.stored x.i x.usage x.definition c.requires.i_bound.0 c.requires.i_bound.1 c.requires.base_value
    (c.write.ensures ∙ ap (λ (at : ℕ). written x.base.now (at + usage_offset) (x.usage ∷ x.definition ∷ [])) c.row-at.ensures)
