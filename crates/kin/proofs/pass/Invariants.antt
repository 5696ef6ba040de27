-- `kin::pass`: `Looked` says what the looks so far have made of the set.
use Rattle.type_set.specs.Set.{bit, has}
use Rattle.kin.proofs.PassLaws.{Looked}
use Rattle.kin.proofs.pass.Given as goal

abbrev pub invariant-loop-i : goal.invariant-loop-i
invariant-loop-i l = Looked l.base (bit l.sdss) (has l.initial.r) l.rows.from l.rows.count l.rows.down l.i (has l.r)
