-- What the changing calls are told of their SDS and of the names that they are given.
use Rattle.std.specs.Prelude.{ℕ, ◌<◌, ◌≡◌, List, [], ◌∷◌, ◌++◌, Bool, true, ◌||◌, Option, IfSome, Result, IfOk}
use Rattle.std.specs.Option.{unwrap_or}
use Rattle.rules.specs.declared.Refused.{Refused}
use Rattle.rules.specs.02-Limits.{limits}
use Rattle.rules.specs.03-Names.{Name}
use Rattle.rules.specs.04-Schema.{Schema, used_sds, type_named}
use Rattle.rules.specs.07-Picture.{Sound}
use Rattle.rules.specs.09-Refusals.{Refusals, ◌when◌, unknown_sds, system_sds, malformed, no_such_name}
use Rattle.base.specs.Back.{schema_of}
use Rattle.base.specs.Tested.{Tests}
use Rattle.conditions.specs.Reverse.{ReverseOf}

-- the refusals that come first in every call that is aimed at an SDS
abbrev pub sds_refusals : Schema → ℕ → Refusals
sds_refusals s d = (2 when unknown_sds s d) ∷ (3 when system_sds d) ∷ []

-- then that of its names: whether one is bad
abbrev pub aim_refusals : Schema → ℕ → Bool → Refusals
aim_refusals s d bad = sds_refusals s d ++ ((4 when bad) ∷ [])

-- then that of the types that they name: whether one is missing
abbrev pub type_refusals : Bool → Refusals
type_refusals missing = (6 when missing) ∷ []

-- all of these, of one name, and of two
abbrev pub named_refusals : Schema → ℕ → Name → Refusals
named_refusals s d n = aim_refusals s d (malformed n) ++ type_refusals (no_such_name s d n)

abbrev pub two_refusals : Schema → ℕ → Name → Name → Refusals
two_refusals s d n m = aim_refusals s d (malformed n || malformed m) ++ type_refusals (no_such_name s d n || no_such_name s d m)

-- what is so of the SDS where none of its refusals holds
pub record Aimed (b : List ℕ) (d : ℕ) : Type 0 where
  pub sound : Sound b
  pub used : used_sds (schema_of b) d ≡ true
  pub outside : d ≡ 0 → ⊥
  pub below : d < limits.sdss

-- t is the type of that name in SDS d
pub record TypeOf (b : List ℕ) (d : ℕ) (n : Name) (t : ℕ) : Type 0 where
  pub below : t < limits.types
  pub named : t ≡ type_named (schema_of b) d n

pub record Both (b : List ℕ) (d : ℕ) (n m : Name) (t u : ℕ) : Type 0 where
  pub one : TypeOf b d n t
  pub two : TypeOf b d m u

-- and r is its reverse, if it has one
pub record WithReverse (b : List ℕ) (d : ℕ) (n : Name) (t : ℕ) (r : Option ℕ) : Type 0 where
  pub type : TypeOf b d n t
  pub pair : ReverseOf (schema_of b) t (unwrap_or r limits.types)
  pub below : IfSome r (λ x. x < limits.types)

-- r is the refusal of the first of the conditions that holds; where none does, a value of which it is so
pub record RefusedOr {A : Type 0} (b : List ℕ) (rs : Refusals) (r : Result A Refused) (So : A → Type 0) : Type 0 where
  pub told : Tests b rs r
  pub so : IfOk r So
