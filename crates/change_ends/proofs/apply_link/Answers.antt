-- An origin added: the end on side 0.
use Rattle.rules.specs.Read.{read_side}
use Rattle.base.proofs.TestedLaws.{begun_stops, positive, answer_on}
use Rattle.change_ends.proofs.EndLaws.{add_left}
use Rattle.change_ends.proofs.apply_link.Goals as goal

pub returns-in_err-aimed_two : goal.returns-in_err-aimed_two
returns-in_err-aimed_two c = begun_stops _ c.in_err-aimed_two.ensures (positive _) (add_left _ _ _ _ _) (answer_on _ _ c.from_residual.ensures)

pub returns : goal.returns
unfolding read_side
returns c = c.add_end.ensures
