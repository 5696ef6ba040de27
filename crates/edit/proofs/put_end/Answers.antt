-- `edit::put_end` meets its contract: the row goes in at its place among the ends.
use Rattle.std.proofs.Common.{sym, ◌∙◌}
use Rattle.rules.specs.04-Schema.{End}
use Rattle.rules.specs.Read.{read_side}
use Rattle.base.proofs.Shown.{ends_long}
use Rattle.base.proofs.StoredLaws.{stored_long}
use Rattle.base.proofs.Tables.{keeps_ends}
use Rattle.edit.proofs.EditLaws.{ready, row_put, end_built, end_unlike}
use Rattle.edit.proofs.put_end.Goals as goal

pub end_count-n-requires : goal.end_count-n-requires
end_count-n-requires c = stored_long c.requires.stored

pub put_in-requires-clause-row_in_bounds : goal.put_in-requires-clause-row_in_bounds
put_in-requires-clause-row_in_bounds c =
    let x = c.args in
    let row : End = record { sds = x.d; link = x.l; side = read_side x.side; object = x.o } in
    let many = c.end_count-n.ensures.is ∙ sym (ends_long x.base.now) in
    (ready keeps_ends c.requires.stored row c.requires.base_len_bound many (end_built x.d x.l x.side x.o c.requires.fact.1.1.1.0)).1

pub returns : goal.returns
returns c =
    let x = c.args in
    let row : End = record { sds = x.d; link = x.l; side = read_side x.side; object = x.o } in
    let many = c.end_count-n.ensures.is ∙ sym (ends_long x.base.now) in
    row_put keeps_ends c.requires.stored row c.requires.base_len_bound many (end_built x.d x.l x.side x.o c.requires.fact.1.1.1.0)
    c.requires.fact.0 tt (end_unlike c.requires.stored.rows row c.requires.o_value) c.put_in.ensures
