-- `working::listed::lists`: a word that is shifted down to a place, and masked, is that place's bit.
use Rattle.type_set.proofs.Bit.{bit_masked}
use Rattle.working.proofs.listed.lists.Goals as goal

pub returns : goal.returns
returns c = let x = c.args in bit_masked x.sdss x.d
