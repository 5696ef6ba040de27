-- Presences that get other modes, row by row.
use Rattle.std.specs.Prelude.{ℕ, zero, suc, List, [], ◌∷◌, Bool, cond, ◌&&◌, eqb, get_or, set, Option, option_to_list}
use Rattle.rules.specs.01-Lists.{among}
use Rattle.rules.specs.04-Schema.{Modes, Presence, nowhere, with_modes}

-- p is of type t or its reverse in SDS d
abbrev pub of_either : ℕ → ℕ → Option ℕ → Presence → Bool
of_either d t reverse p = eqb p.sds d && among (t ∷ option_to_list reverse) p.type

-- p, with these modes if it is
abbrev pub reset : ℕ → ℕ → Option ℕ → Modes → Modes → Presence → Presence
reset d t reverse usage definition p = cond (of_either d t reverse p) (with_modes usage definition p) p

-- the presences, row i changed by f
abbrev pub changed_at : (Presence → Presence) → ℕ → List Presence → List Presence
changed_at f i ps = set ps i (f (get_or ps i nowhere))

-- the first i of them changed
unfoldable pub changed_to : (Presence → Presence) → ℕ → List Presence → List Presence
changed_to f zero ps = ps
changed_to f (suc i) [] = []
changed_to f (suc i) (p ∷ ps) = f p ∷ changed_to f i ps
