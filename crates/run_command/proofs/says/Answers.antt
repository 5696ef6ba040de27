-- `says`: the first word, then how many there are.
use Rattle.run_command.proofs.CommandLaws.{first_is}
use Rattle.run_command.proofs.says.Goals as goal

pub returns-then-eq : goal.returns-then-eq
returns-then-eq c = rw (c.count.ensures, first_is c.args.command.now c.word.ensures c.eq.ensures c.if-eq.true)

pub returns-else-eq : goal.returns-else-eq
returns-else-eq c = rw (c.if-eq.false, first_is c.args.command.now c.word.ensures c.eq.ensures c.if-eq.false)
