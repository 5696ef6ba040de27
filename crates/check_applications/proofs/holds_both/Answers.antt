-- A bit of what two words share.
use Rattle.check_applications.proofs.ApplicationLaws.{both_bit}
use Rattle.check_applications.proofs.holds_both.Goals as goal

pub returns : goal.returns
returns c = let x = c.args in rw c.from.ensures (both_bit x.held.now x.d x.to x.attribute c.requires.1.0 c.requires.1.1)
