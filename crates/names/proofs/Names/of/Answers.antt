-- `names::Names::of`: a run that has a byte is parted, an empty one has no names.
use Rattle.std.proofs.Common.{◌∙◌, ap}
use Rattle.names.specs.Run.{left_in}
use Rattle.names.proofs.Laws.{begun}
use Rattle.names.proofs.Names.of.Goals as goal

pub returns : goal.returns
returns c =
    let rest = rw c.is_empty.ensures at c.then_some.ensures in
    ap left_in rest ∙ begun c.args.run
