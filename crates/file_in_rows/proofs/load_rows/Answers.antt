-- `file_in_rows::load_rows` meets its contract: three sections, each read from where the one before it ends. Assumes nothing.
use Rattle.std.proofs.Common.{rules}
use Rattle.file_in_rows.proofs.LoadedLaws.{all_loaded}
use Rattle.file_in_rows.proofs.load_rows.Goals as goal

pub returns : goal.returns
returns c =
    record {
      long = search rules;
      shows = λ s good alone there.
          all_loaded good alone there c.load_presences-applications.ensures c.load_table-ends.ensures c.load_table.ensures;
    }
