-- There is a group, and then what stands for the mirror is asked.
use Rattle.check_ends.proofs.GroupLaws.{fine_link, none_back, own_passed, behind_past}
use Rattle.check_ends.proofs.group_at.Goals as goal

pub returns-in_err-group : goal.returns-in_err-group
returns-in_err-group c = rw c.from_residual.ensures (λ y. c.in_err-group.ensures (fine_link y))

pub returns-in_default : goal.returns-in_default
returns-in_default c =
    rw c.then_some.ensures (own_passed c.requires.reached.0 c.in_ok-group.ensures (none_back c.in_ok-group.group.mirrors c.in_default.not-Behind)
    c.object_fine.ensures)

pub returns : goal.returns
returns c =
    behind_past c.requires.reached.0 c.in_ok-group.ensures.group c.in-Behind.is c.requires.reached.1.types c.requires.number_value.0
    c.in_ok-near.ensures
