-- `names::is_equal`: `==` of slices is the rules' test.
use Rattle.std.proofs.Common.{◌∙◌}
use Rattle.names.proofs.Laws.{equal_is}
use Rattle.names.proofs.is_equal.Goals as goal

pub returns : goal.returns
returns c = c.eq.ensures ∙ equal_is c.args.a.now c.args.b.now
