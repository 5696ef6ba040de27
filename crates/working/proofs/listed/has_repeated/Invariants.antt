-- `working::listed::has_repeated`: what is met, and what is left, decide.
use Rattle.type_set.specs.Set.{has}
use Rattle.working.proofs.ListedLaws.{Met}
use Rattle.working.proofs.listed.has_repeated.Given as goal

abbrev pub invariant-loop-d : goal.invariant-loop-d
invariant-loop-d l = Met l.schema l.d-index (has l.met)
