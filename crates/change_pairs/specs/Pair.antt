-- What the call that makes a pair has tested of its inputs.
use Rattle.std.specs.Prelude.{ℕ, ◌+◌, ◌≤◌, ◌<◌, ◌≡◌, List, [], ◌∷◌, true, false, length}
use Rattle.rules.specs.02-Limits.{limits}
use Rattle.rules.specs.03-Names.{Name, well_formed, same_name}
use Rattle.rules.specs.04-Schema.{bears}
use Rattle.rules.specs.09-Refusals.{◌when◌, Refusals, types_full}
use Rattle.rules.specs.10-Changes.{new_type, second_new_type}
use Rattle.base.specs.Back.{schema_of}
use Rattle.conditions.specs.Aimed.{Aimed}

-- t and r are the numbers that the forward type and its reverse take, and there is room for their presences
pub record TwoFree (b : List ℕ) (t r : ℕ) : Type 0 where
  pub room : length (schema_of b).presences + 2 ≤ limits.presences
  pub below : t < 128
  pub new : t ≡ new_type (schema_of b)
  pub reverse_below : r < 128
  pub second : r ≡ second_new_type (schema_of b)

-- and what is so of the inputs where none of the refusals holds
pub record PairReady (b : List ℕ) (d : ℕ) (n m : Name) (c c' t r : ℕ) : Type 0 where
  pub aim : Aimed b d
  pub formed : (well_formed n ≡ true) × (well_formed m ≡ true)
  pub categories : (c ≤ 3) × (c' ≤ 3)
  pub free : bears (schema_of b) d n ≡ false
  pub other_free : bears (schema_of b) d m ≡ false
  pub apart : same_name n m ≡ false
  pub room : TwoFree b t r

-- its last refusal
abbrev pub room_refusals : List ℕ → Refusals
room_refusals b = (14 when types_full (schema_of b) 2) ∷ []
