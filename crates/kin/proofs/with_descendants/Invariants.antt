-- `kin::with_descendants`: the set has the children of its types of a pass ago, and nothing but descendants. The measure is the room left for
-- marks.
use Rattle.std.proofs.Common.{◌-◌}
use Rattle.base.specs.Back.{schema_of}
use Rattle.type_set.specs.Set.{bit, has}
use Rattle.kin.specs.Kin.{Span}
use Rattle.kin.proofs.ReachLaws.{Growing, child_in}
use Rattle.kin.proofs.with_descendants.Given as goal

abbrev pub invariant-loop-n : goal.invariant-loop-n
invariant-loop-n l = record {
  span : Span l.base (bit l.sdss) l.rows.from l.rows.count;
  growing : Growing (child_in (schema_of l.base) (bit l.sdss)) (has l.initial.r) l.n (has l.r);
}

abbrev pub decreases-loop-n : goal.decreases-loop-n
decreases-loop-n l = 128 - l.n
