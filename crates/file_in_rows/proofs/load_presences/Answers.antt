-- `file_in_rows::load_presences` meets its contract: where the entries are no more than a base has room for, all of them go in. Assumes nothing.
use Rattle.file_in_rows.proofs.LoadedLaws.{presences_loaded}
use Rattle.file_in_rows.proofs.load_presences.Goals as goal

pub returns : goal.returns
returns c = presences_loaded c.in-Some.ensures c.put_presences.ensures
