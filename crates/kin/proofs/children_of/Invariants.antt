-- `kin::children_of`: the types so far that have a parent in the set asked about.
use Rattle.std.proofs.Common.{◌≡◌, ℕ}
use Rattle.base.specs.Back.{schema_of}
use Rattle.type_set.specs.Set.{has}
use Rattle.type_set.specs.Round.{grow_to}
use Rattle.kin.specs.Kin.{children_of}
use Rattle.kin.proofs.children_of.Given as goal

abbrev pub invariant-loop-k : goal.invariant-loop-k
invariant-loop-k l = (n : ℕ) → has l.r n ≡ grow_to l.k (children_of (schema_of l.base) (has l.s)) (has l.initial.r) n
