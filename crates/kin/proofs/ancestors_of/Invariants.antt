-- `kin::ancestors_of`: the parents of what is found are found or left to be taken, and nothing but ancestors is. The measure is the room left
-- for marks.
use Rattle.std.proofs.Common.{◌-◌, length}
use Rattle.rules.specs.04-Schema.{is_parent}
use Rattle.rules.specs.05-Descent.{members}
use Rattle.base.specs.Back.{schema_of}
use Rattle.type_set.specs.Set.{has}
use Rattle.kin.proofs.ReachLaws.{Taking}
use Rattle.kin.proofs.ancestors_of.Given as goal

abbrev pub invariant-loop-t : goal.invariant-loop-t
invariant-loop-t l = Taking (is_parent (schema_of l.base)) (has l.initial.left) (has l.left) (has l.found)

abbrev pub decreases-loop-t : goal.decreases-loop-t
decreases-loop-t l = 128 - length (members (has l.found))
