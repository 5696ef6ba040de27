-- `file::load` meets its contract: the rows go in where the types are. Assumes nothing.
use Rattle.file.proofs.load.Goals as goal

pub returns : goal.returns
returns c =
    let types = c.load_types-at.ensures in
    let rows = c.load_rows.ensures in
    record { long = rows.long; shows = λ s w. let (shown, rest) = types.shows s w in rows.shows s w.good shown rest }
