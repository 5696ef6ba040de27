-- What the calls that make types have tested of their inputs.
use Rattle.std.specs.Prelude.{ℕ, ◌<◌, ◌≡◌, List, ◌∷◌, ◌++◌, Bool, true, false, length}
use Rattle.rules.specs.02-Limits.{limits}
use Rattle.rules.specs.03-Names.{Name, well_formed}
use Rattle.rules.specs.04-Schema.{Schema, bears}
use Rattle.rules.specs.09-Refusals.{Refusals, ◌when◌, malformed}
use Rattle.rules.specs.10-Changes.{new_type, new_designation_refusals}
use Rattle.base.specs.Back.{schema_of}
use Rattle.base.specs.Tested.{onward}
use Rattle.conditions.specs.Aimed.{aim_refusals, Aimed}

-- the refusals that come last in every call which makes one type
abbrev pub room_refusals : Schema → ℕ → Name → Refusals
room_refusals s d n = onward 11 (new_designation_refusals d n s)

-- all of them, with a value kind that may be unknown
abbrev pub one_refusals : Schema → ℕ → Name → Bool → Refusals
one_refusals s d n unknown = aim_refusals s d (malformed n) ++ ((5 when unknown) ∷ room_refusals s d n)

-- what is so where none of the last holds: t is the number that the new type takes
pub record Room (b : List ℕ) (d : ℕ) (n : Name) (t : ℕ) : Type 0 where
  pub free : bears (schema_of b) d n ≡ false
  pub room : length (schema_of b).presences < limits.presences
  pub below : t < 128
  pub new : t ≡ new_type (schema_of b)

-- and none of the first
pub record Ready (b : List ℕ) (d : ℕ) (n : Name) (t : ℕ) : Type 0 where
  pub aim : Aimed b d
  pub formed : well_formed n ≡ true
  pub room : Room b d n t
