-- `edit::write_sds` meets its contract: the name over a field of zeros.
use Rattle.std.proofs.Common.{ℕ, ap, ◌∙◌, arith}
use Rattle.rules.specs.07-Picture.{sds_row}
use Rattle.rows.specs.Table.{written}
use Rattle.base.proofs.SdsWritten.{name_written}
use Rattle.edit.proofs.write_sds.Goals as goal

pub returns : goal.returns
returns c =
    let b = c.args.base.now in
    let n = c.args.name.now in
    name_written b _ _ n c.row-at.result (omega arith) c.requires.1.1 c.clear.ensures c.write.ensures
    ∙ ap (λ (at : ℕ). written b at (sds_row n)) c.row-at.ensures
