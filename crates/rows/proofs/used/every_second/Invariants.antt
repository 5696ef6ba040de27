-- what `rows::used::every_second` keeps: no bit is set exactly where the eights passed are blank
use Rattle.rows.specs.Rows.{blank_eights, NoBit}
use Rattle.rows.proofs.used.every_second.Given as goal

abbrev pub invariant-loop-i : goal.invariant-loop-i
invariant-loop-i l = NoBit (blank_eights l.base l.at l.i) l.bits
