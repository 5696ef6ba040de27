-- What is left decides.
use Rattle.file_form.proofs.Scan.{WithinFrom}
use Rattle.file_form.proofs.leaving.Given as goal

abbrev pub invariant-loop-j : goal.invariant-loop-j
invariant-loop-j l = WithinFrom l.w l.more l.e l.j
