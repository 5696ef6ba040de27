-- `base::Table::count` meets its contract: the used rows are those before the first that is all 0.
use Rattle.rows.proofs.Scan.{counted}
use Rattle.base.proofs.Table.count.Goals as goal

pub returns : goal.returns
returns c =
    let t = c.args.self in counted c.args.base.now t.start t.width t.room c.filled.result c.filled.ensures
