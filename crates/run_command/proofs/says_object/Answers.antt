-- `says_object`: the first word, then how many there are.
use Rattle.rules.specs.01-Lists.{bytes}
use Rattle.run_command.proofs.CommandLaws.{first_is}
use Rattle.run_command.proofs.says_object.Goals as goal

pub returns-then-eq : goal.returns-then-eq
returns-then-eq c =
    let same = rw c.as_slice.ensures at c.eq.ensures in
    rw (c.count.ensures, first_is (bytes "object") c.word.ensures same c.if-eq.true)

pub returns-else-eq : goal.returns-else-eq
returns-else-eq c =
    let same = rw c.as_slice.ensures at c.eq.ensures in
    rw (c.if-eq.false, first_is (bytes "object") c.word.ensures same c.if-eq.false)
