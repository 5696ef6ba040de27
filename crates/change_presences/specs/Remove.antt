-- What the removal of a type from an SDS takes out, what it needs of the schema to do so, and the rule by which it ends.
use Rattle.std.specs.Prelude.{ℕ, ◌≡◌, true}
use Rattle.rules.specs.01-Lists.{◌∈◌, without}
use Rattle.rules.specs.04-Schema.{Schema, Presence, holds_type, present, with_presences}
use Rattle.rules.specs.09-Refusals.{Outcome, verdict}
use Rattle.rules.specs.09-Refusals.Outcome.{done}
use Rattle.rules.specs.10-Changes.{obstacles, less_type}

-- type t is in SDS d by one presence: the base is not sound any more when the second type of a pair is taken out
pub record HeldOnce (s : Schema) (d t : ℕ) : Type 0 where
  pub there : present s d t ≡ true
  pub once : (p q : Presence) → p ∈ s.presences → q ∈ s.presences → holds_type d t p ≡ true → holds_type d t q ≡ true → p ≡ q

-- the schema less the presence of type t in SDS d
abbrev pub less_presence : ℕ → ℕ → Schema → Schema
less_presence d t s = with_presences s (without (holds_type d t) s.presences)

-- type t goes from SDS d, unless something stands in the way
abbrev pub removal : ℕ → ℕ → Schema → Outcome Schema
removal d t s = verdict (obstacles d t s) (done t 0 0 (less_type d t s))
