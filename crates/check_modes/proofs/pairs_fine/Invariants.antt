-- The words keep the rows passed, and each of these agrees with those before it.
use Rattle.std.proofs.Common.{ℕ, ◌<◌}
use Rattle.check_modes.specs.Pairs.{Agrees, Keeps}
use Rattle.check_modes.proofs.pairs_fine.Given as goal

abbrev pub invariant-loop-i : goal.invariant-loop-i
invariant-loop-i l = record { keeps : Keeps l.base l.i l.words; agree : (k : ℕ) → k < l.i → Agrees l.base k }
