-- `name_fields::fault` meets its contract: either of its parts is 0 where nothing is wrong.
use Rattle.name_fields.proofs.StandLaws.{both_fine}
use Rattle.name_fields.proofs.fault.Goals as goal

pub returns : goal.returns
returns c = both_fine c.args.last c.args.c c.strangeness.result c.behind_zero.result c.strangeness.ensures c.behind_zero.ensures
