-- `file_in_rows::presence_row` meets its contract: the fields of the entry, each at its place in a row. Assumes nothing.
use Rattle.file_in_rows.proofs.EntryLaws.{row_made}
use Rattle.file_in_rows.proofs.presence_row.Goals as goal

pub returns : goal.returns
returns c = row_made c.args.entry.now _ c.requires c.write.ensures
