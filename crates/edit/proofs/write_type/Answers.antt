-- `edit::write_type` meets its contract: the parents behind the four numbers, and that row over the type's.
use Rattle.std.proofs.Common.{ℕ, ap, ◌∙◌, arith}
use Rattle.rows.specs.Table.{written}
use Rattle.base.proofs.StoredLaws.{stored_long}
use Rattle.edit.proofs.TypeWritten.{type_built, type_written}
use Rattle.edit.proofs.write_type.Goals as goal

pub write-requires-2 : goal.write-requires-2
write-requires-2 c = omega (arith, stored_long c.requires.stored)

pub returns : goal.returns
returns c =
    let x = c.args in
    let fields = type_built x.kind x.value x.reverse x.parents.now _ c.requires.parents_len_bound c.write.ensures in
    type_written c.requires.stored x.t c.requires.t_lt_types fields
    (c.write-2.ensures ∙ ap (λ (at : ℕ). written x.base.now at c.write.new.base) c.row.ensures)
