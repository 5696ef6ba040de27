-- `file_in_rows::load_table` meets its contract: so many entries as the table has room for are so many rows of it. Assumes nothing.
use Rattle.file_in_rows.proofs.LoadedLaws.{table_loaded}
use Rattle.file_in_rows.proofs.load_table.Goals as goal

pub returns : goal.returns
returns c = table_loaded c.in-Some.ensures c.write.ensures
