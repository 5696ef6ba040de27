-- `graph::settle`: a walk goes up or down. The measure: a step up takes one from the room of the way, a step down gives one back and settles
-- a type.
use Rattle.std.proofs.Common.{◌≡◌, ◌+◌, ◌-◌, ◌*◌, ◌≤◌, length, drop}
use Rattle.rules.specs.05-Descent.{members}
use Rattle.base.specs.Back.{schema_of}
use Rattle.type_set.specs.Set.{has}
use Rattle.graph.specs.Graph.{reached}
use Rattle.graph.proofs.Laws.{Walk}
use Rattle.graph.proofs.settle.Given as goal

abbrev pub invariant-loop-at : goal.invariant-loop-at
invariant-loop-at l = record {
  most : l.at ≤ 128;
  long : length l.way ≡ 128;
  walk : Walk (schema_of l.base) (has l.fn.settled) (has l.settled) l.t l.way l.at;
  here : l.c ≡ reached l.t (drop l.at l.way);
}

abbrev pub decreases-loop-at : goal.decreases-loop-at
decreases-loop-at l = 2 * (128 - length (members (has l.settled))) + l.at
