-- `command_in`: the tests are those of the rules, in their order.
use Rattle.std.proofs.Common.{rules}
use Rattle.run_command.specs.Command.{command_in}
use Rattle.run_command.proofs.command_in.Goals as goal

pub returns-then-says : goal.returns-then-says
unfolding command_in
returns-then-says c = search rules

pub returns-then-says-2 : goal.returns-then-says-2
unfolding command_in
returns-then-says-2 c = search rules

pub returns-then-says_object : goal.returns-then-says_object
unfolding command_in
returns-then-says_object c = search rules

pub returns-then-says-3 : goal.returns-then-says-3
unfolding command_in
returns-then-says-3 c = search rules

pub returns-then-says-4 : goal.returns-then-says-4
unfolding command_in
returns-then-says-4 c = search rules

pub returns-then-says-5 : goal.returns-then-says-5
unfolding command_in
returns-then-says-5 c = search rules

pub returns : goal.returns
unfolding command_in
returns c = search rules
