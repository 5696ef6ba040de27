-- `names::lower`: the library's lower case is the rules'.
use Rattle.std.proofs.Common.{◌∙◌}
use Rattle.names.proofs.Laws.{lower_is}
use Rattle.names.proofs.lower.Goals as goal

pub returns : goal.returns
returns c = c.to_ascii_lowercase.ensures.value ∙ lower_is c.args.c
