-- What is gathered of the fields, types and modes of the rows passed.
use Rattle.check_presences.proofs.TellLaws.{Kept}
use Rattle.check_presences.proofs.fields_told.Given as goal

abbrev pub invariant-loop-i : goal.invariant-loop-i
invariant-loop-i l = Kept l.base l.n l.i l.faults l.all l.any
