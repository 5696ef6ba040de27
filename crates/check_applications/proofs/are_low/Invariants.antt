-- The bits met so far are below 128 exactly where each byte passed is.
use Rattle.std.proofs.Common.{◌+◌}
use Rattle.check_applications.proofs.NumberLaws.{LowPassed}
use Rattle.check_applications.proofs.are_low.Given as goal

abbrev pub invariant-loop-b : goal.invariant-loop-b
invariant-loop-b l = LowPassed l.base l.from (l.from + l.b-index) l.bits
