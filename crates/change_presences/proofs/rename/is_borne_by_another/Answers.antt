-- Whether another bears a name: the type found under it is compared.
use Rattle.std.proofs.Common.{arith, refl}
use Rattle.change_presences.proofs.RenameLaws.{another_none, another_some}
use Rattle.change_presences.proofs.rename.is_borne_by_another.Goals as goal

pub returns-in_default : goal.returns-in_default
returns-in_default c = another_none c.in_default.ensures.named _ refl

pub returns : goal.returns
returns c = let found = c.in-Some.ensures in another_some found.named _ (λ z. omega (arith, found.below))
