-- `kin::parents_of`: the types that are left are those whose parents are still to be added. The measure is what is left.
use Rattle.std.proofs.Common.{length}
use Rattle.rules.specs.05-Descent.{members}
use Rattle.base.specs.Back.{schema_of}
use Rattle.type_set.specs.Set.{has}
use Rattle.kin.proofs.KinLaws.{ParentsLeft}
use Rattle.kin.proofs.parents_of.Given as goal

abbrev pub invariant-loop-t : goal.invariant-loop-t
invariant-loop-t l = ParentsLeft (schema_of l.base) (has l.initial.left) (has l.left) (has l.r)

abbrev pub decreases-loop-t : goal.decreases-loop-t
decreases-loop-t l = length (members (has l.left))
