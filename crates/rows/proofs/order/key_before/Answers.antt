-- `rows::order::key_before` meets its contract: the first number in which two keys differ decides.
use Rattle.std.proofs.Common.{arith}
use Rattle.std.proofs.lemmas.Grind.{common_steps}
use Rattle.std.proofs.lemmas.Bool.Decides.{nat_tests}
use Rattle.rules.specs.01-Lists.{bytes_before}
use Rattle.rows.proofs.order.key_before.Goals as goal

pub returns : goal.returns
unfolding bytes_before
returns c = grind (arith, common_steps, nat_tests)
