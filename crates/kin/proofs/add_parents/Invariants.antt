-- `kin::add_parents`: the parents behind those that were passed are what is left to add.
use Rattle.base.specs.Back.{schema_of}
use Rattle.type_set.specs.Set.{has}
use Rattle.kin.proofs.KinLaws.{Adds}
use Rattle.kin.proofs.add_parents.Given as goal

abbrev pub invariant-loop-i : goal.invariant-loop-i
invariant-loop-i l = Adds (schema_of l.base) l.t l.i (has l.initial.r) (has l.r)
