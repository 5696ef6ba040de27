-- What import tests first of its inputs, and how presences come into an SDS.
use Rattle.std.specs.Prelude.{ℕ, ◌+◌, ◌≤◌, ◌<◌, ◌≡◌, List, [], ◌∷◌, ◌++◌, map, Bool, true, false, ◌&&◌, length}
use Rattle.rules.specs.02-Limits.{limits}
use Rattle.rules.specs.03-Names.{Name, well_formed}
use Rattle.rules.specs.04-Schema.{Schema, Presence, present, with_presences}
use Rattle.rules.specs.05-Descent.{descends, members}
use Rattle.rules.specs.06-Good.{presence_before}
use Rattle.rules.specs.09-Refusals.{Outcome, Refusals, ◌when◌, verdict, not_present, names_taken, presences_full}
use Rattle.rules.specs.09-Refusals.Outcome.{done}
use Rattle.rules.specs.10-Changes.{nameless, import_refusals}
use Rattle.rules.specs.01-Lists.{put_all}
use Rattle.base.specs.Tested.{until}

-- the refusals of an import that its new names, blanks filled in, have no part in: all but the last two
abbrev pub first_refusals : ℕ → ℕ → Name → Name → Name → Schema → Refusals
first_refusals target source n new new_reverse s = until 11 (import_refusals target source n new new_reverse s)

-- type t can come into SDS d under that name
pub record Enters (d : ℕ) (n : Name) (t : ℕ) : Type 0 where
  pub small : d < limits.sdss
  pub outside : d ≡ 0 → ⊥
  pub below : t < limits.types
  pub formed : well_formed n ≡ true

-- presences, named and nameless, come into SDS d where the names are free and there is room; t and r are the values of the answer
abbrev pub enter_refusals : ℕ → List Presence → List Presence → Schema → Refusals
enter_refusals d named others s =
    (11 when names_taken s d (map (λ p. p.name) named))
    ∷ (14 when presences_full s (length (named ++ others)))
    ∷ []

unfoldable pub enter : ℕ → List Presence → List Presence → ℕ → ℕ → Schema → Outcome Schema
enter d named others t r s =
    verdict (enter_refusals d named others s) (done t r 0 (with_presences s (put_all presence_before (named ++ others) s.presences)))

-- the presences that the types of a set have in SDS d without a name
abbrev pub nameless_of : ℕ → (ℕ → Bool) → List Presence
nameless_of d types = map (nameless d) (members types)

-- the schema with these
unfoldable pub brought : ℕ → (ℕ → Bool) → Schema → Schema
brought d types s = with_presences s (put_all presence_before (nameless_of d types) s.presences)

-- there is room for them in SDS d, and none of the types is there
pub record Lacking (d : ℕ) (types : ℕ → Bool) (s : Schema) : Type 0 where
  pub room : length s.presences + length (members types) ≤ limits.presences
  pub lacked : (k : ℕ) → types k ≡ true → present s d k ≡ false

-- the types are the ancestors of type t that SDS d lacks
abbrev pub Missing : ℕ → ℕ → (ℕ → Bool) → Schema → Type 0
Missing d t types s = (k : ℕ) → types k ≡ descends s t k && not_present s d k
