-- No row that was passed is the type's.
use Rattle.std.proofs.Common.{◌≡◌, ℕ, ◌<◌, eqb, false}
use Rattle.base.specs.Back.{presence_shown}
use Rattle.conditions.proofs.is_elsewhere.Given as goal

abbrev pub invariant-loop-i : goal.invariant-loop-i
invariant-loop-i l = (k : ℕ) → k < l.i → eqb (presence_shown l.base k).type l.t ≡ false
