-- `ancestors::bring`: the types that are left are still to come. The measure is what is left.
use Rattle.std.proofs.Common.{length}
use Rattle.rules.specs.05-Descent.{members}
use Rattle.base.specs.Back.{schema_of}
use Rattle.type_set.specs.Set.{has}
use Rattle.change_imports.proofs.AncestorLaws.{Bringing}
use Rattle.change_imports.proofs.ancestors.bring.Given as goal

abbrev pub invariant-loop-t : goal.invariant-loop-t
invariant-loop-t l = Bringing l.d (schema_of l.initial.base) (has l.initial.left) (has l.left) l.base

abbrev pub decreases-loop-t : goal.decreases-loop-t
decreases-loop-t l = length (members (has l.left))
