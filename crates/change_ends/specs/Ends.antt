-- What the calls on the ends of link types test of their inputs.
use Rattle.std.specs.Prelude.{ℕ, List, ◌||◌}
use Rattle.rules.specs.03-Names.{Name}
use Rattle.rules.specs.04-Schema.{Schema}
use Rattle.rules.specs.09-Refusals.{Refusals, malformed}
use Rattle.rules.specs.10-Changes.{end_refusals}
use Rattle.base.specs.Back.{schema_of}
use Rattle.base.specs.Tested.{Tested, onward}
use Rattle.conditions.specs.Aimed.{aim_refusals}

-- the SDS and the two names have passed
abbrev pub AimPassed : List ℕ → ℕ → Name → Name → Type 0
AimPassed b d n m = Tested b (aim_refusals (schema_of b) d (malformed n || malformed m)) 0 0

-- the refusals of all four calls that come next
abbrev pub kind_refusals : Schema → ℕ → Name → Name → Refusals
kind_refusals s d n m = onward 6 (end_refusals d n m s)
