-- No row that was passed has the name.
use Rattle.std.proofs.Common.{◌≡◌, ℕ, ◌<◌, false}
use Rattle.rules.specs.04-Schema.{holds_name}
use Rattle.base.specs.Back.{presence_shown}
use Rattle.lookup.proofs.named.row_named.Given as goal

abbrev pub invariant-loop-row : goal.invariant-loop-row
invariant-loop-row l = (k : ℕ) → k < l.row → holds_name l.d l.name (presence_shown l.base k) ≡ false
