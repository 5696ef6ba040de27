-- `kin::has_parent_in`: none of the parents that were passed is in the set.
use Rattle.base.specs.Back.{schema_of}
use Rattle.type_set.specs.Set.{has}
use Rattle.kin.proofs.KinLaws.{Finds}
use Rattle.kin.proofs.has_parent_in.Given as goal

abbrev pub invariant-loop-i : goal.invariant-loop-i
invariant-loop-i l = Finds (schema_of l.base) l.t l.i (has l.s)
