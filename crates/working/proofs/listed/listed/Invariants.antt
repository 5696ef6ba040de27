-- `working::listed::listed`: the word, and what is left, are what is listed.
use Rattle.type_set.specs.Set.{bit}
use Rattle.working.proofs.ListedLaws.{Gathered}
use Rattle.working.proofs.listed.listed.Given as goal

abbrev pub invariant-loop-d : goal.invariant-loop-d
invariant-loop-d l = Gathered l.schema l.d-index (bit l.sdss)
