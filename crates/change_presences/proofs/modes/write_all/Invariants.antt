-- The rows that were passed are changed, and no other.
use Rattle.std.proofs.Common.{◌≤◌}
use Rattle.rules.specs.07-Picture.{Sound}
use Rattle.base.specs.Stored.{Shows}
use Rattle.base.specs.Back.{presence_count}
use Rattle.change_presences.proofs.ModesLaws.{after}
use Rattle.change_presences.proofs.modes.write_all.Given as goal

abbrev pub invariant-loop-i : goal.invariant-loop-i
invariant-loop-i l = (l.i ≤ presence_count l.fn.base)
    × ((s : Sound l.fn.base) → Shows l.base (after s l.d l.t l.reverse l.modes.usage l.modes.definition l.i))
