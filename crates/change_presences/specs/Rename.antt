-- What a rename needs of its inputs, and the rule by which it ends.
use Rattle.std.specs.Prelude.{ℕ, ◌≡◌, List, [], ◌∷◌, true}
use Rattle.rules.specs.03-Names.{Name, well_formed}
use Rattle.rules.specs.04-Schema.{Schema, present}
use Rattle.rules.specs.09-Refusals.{Outcome, ◌when◌, verdict, borne_by_another}
use Rattle.rules.specs.09-Refusals.Outcome.{done}
use Rattle.rules.specs.10-Changes.{with_name}
use Rattle.base.specs.Back.{schema_of}
use Rattle.conditions.specs.Aimed.{Aimed}

-- type t, which is in SDS d, can have the name there if no other bears it
pub record Nameable (b : List ℕ) (d t : ℕ) (n : Name) : Type 0 where
  pub aim : Aimed b d
  pub there : present (schema_of b) d t ≡ true
  pub formed : well_formed n ≡ true

-- type t gets the name in SDS d, unless another bears it
abbrev pub renaming : ℕ → ℕ → Name → Schema → Outcome Schema
renaming d t n s = verdict ((11 when borne_by_another s d t n) ∷ []) (done 0 0 0 (with_name d n t s))
