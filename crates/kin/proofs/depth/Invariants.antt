-- `kin::depth`: after d rounds the set has what is d + 1 steps above the type. The measure is what of the longest way is left.
use Rattle.std.proofs.Common.{◌+◌, ◌-◌, ◌≤◌}
use Rattle.rules.specs.05-Descent.{depth}
use Rattle.base.specs.Back.{schema_of}
use Rattle.type_set.specs.Set.{has}
use Rattle.kin.proofs.DepthLaws.{Level}
use Rattle.kin.proofs.depth.Given as goal

abbrev pub invariant-loop-s : goal.invariant-loop-s
invariant-loop-s l = (l.d ≤ depth (schema_of l.base) l.t) × Level (schema_of l.base) l.t (l.d + 1) (has l.s)

abbrev pub decreases-loop-s : goal.decreases-loop-s
decreases-loop-s l = depth (schema_of l.base) l.t - l.d
