-- No row that was passed does so.
use Rattle.std.proofs.Common.{◌≡◌, ℕ, ◌<◌, false}
use Rattle.rules.specs.04-Schema.{is_application}
use Rattle.base.specs.Back.{application_shown}
use Rattle.lookup.proofs.applications.application_row.Given as goal

abbrev pub invariant-loop-i : goal.invariant-loop-i
invariant-loop-i l = (k : ℕ) → k < l.i → is_application l.d l.t l.a (application_shown l.base k) ≡ false
