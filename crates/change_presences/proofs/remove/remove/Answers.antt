-- A removal: the type and its reverse taken out where nothing stands in the way.
use Rattle.std.proofs.Common.{refl}
use Rattle.rules.proofs.05-Descent.{used_below}
use Rattle.rules.proofs.08-Working.{present_used}
use Rattle.base.proofs.Back.{sound_good}
use Rattle.base.proofs.Kept.{kept_done}
use Rattle.base.proofs.TestedLaws.{tested_stops, positive, answer_on}
use Rattle.change_presences.proofs.RemoveLaws.{removal_left, unheld}
use Rattle.change_presences.proofs.remove.remove.Goals as goal

pub reverse_of-reverse-requires : goal.reverse_of-reverse-requires
reverse_of-reverse-requires c = let good = sound_good c.requires.0 in (c.requires.0, used_below good _ (present_used good _ _ c.requires.1))

pub returns-in_err-obstacle : goal.returns-in_err-obstacle
returns-in_err-obstacle c = tested_stops c.in_err-obstacle.ensures (positive _) (removal_left _ _ _) (answer_on _ _ c.from_residual.ensures)

pub returns : goal.returns
returns c = kept_done c.requires.0 (unheld _ _ c.in_ok-obstacle.ensures) refl c.take_type.ensures
