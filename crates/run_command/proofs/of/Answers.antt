-- `of`: a line of over 127 bytes or with a blank word gives none.
use Rattle.std.proofs.Common.{rules}
use Rattle.run_command.specs.Command.{command_of}
use Rattle.run_command.proofs.of.Goals as goal

pub returns-then-line-ge-KEPT : goal.returns-then-line-ge-KEPT
unfolding command_of
returns-then-line-ge-KEPT c = search rules

pub returns : goal.returns
unfolding command_of
returns c = search rules
