-- The entries that are left decide.
use Rattle.file_form.proofs.Sections.{Left}
use Rattle.file_form.proofs.section.Given as goal

abbrev pub invariant-loop-left : goal.invariant-loop-left
invariant-loop-left l = Left l.w l.file l.at l.prev l.here l.left
