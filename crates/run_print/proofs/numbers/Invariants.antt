-- `numbers`: the entries so far are printed, in at most 21 bytes each.
use Rattle.run_print.proofs.PrintLaws.{Going}
use Rattle.run_print.proofs.numbers.Given as goal

abbrev pub invariant-loop-i : goal.invariant-loop-i
invariant-loop-i l = Going l.fn.out l.at l.list l.i l.out l.end
