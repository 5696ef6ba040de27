-- What a working schema, a list of SDSs, shows of a schema.
use Rattle.std.specs.Prelude.{ℕ, List, [], ◌∷◌, Bool, ◌&&◌}
use Rattle.rules.specs.01-Lists.{any}
use Rattle.rules.specs.04-Schema.{Schema, Side, is_parent, present, applied, has_end}
use Rattle.rules.specs.04-Schema.Side.{origin, destination}
use Rattle.rules.specs.05-Descent.{descends, members}

-- "A type is visible if present in a listed SDS." "An empty list now makes nothing visible" (02, Q-7).
unfoldable pub visible : Schema → List ℕ → ℕ → Bool
visible s w t = any (λ d. present s d t) w

-- "only applications and ends of listed SDSs count"
unfoldable pub applied_in : Schema → List ℕ → ℕ → ℕ → Bool
applied_in s w t a = any (λ d. applied s d t a) w

unfoldable pub end_in : Schema → List ℕ → ℕ → Side → ℕ → Bool
end_in s w l side o = any (λ d. has_end s d l side o) w

-- "only visible types are listed"
unfoldable pub shown : Schema → List ℕ → (ℕ → Bool) → List ℕ
shown s w p = members (λ k. visible s w k && p k)

-- ""All" adds what the type's ancestors have": the type and its ancestors
unfoldable pub upward : Schema → ℕ → List ℕ
upward s t = t ∷ members (descends s t)

-- "codes 0 to 9: child, descendant, parent, ancestor, attribute, attribute-all, link-origin, link-origin-all, link-destination,
-- link-destination-all": whether k is listed
abbrev pub object_scans : Schema → List ℕ → ℕ → List (ℕ → Bool)
object_scans s w t =
    (λ k. is_parent s k t)
    ∷ (λ k. descends s k t)
    ∷ (λ k. is_parent s t k)
    ∷ (λ k. descends s t k)
    ∷ (λ k. applied_in s w t k)
    ∷ (λ k. any (λ a. applied_in s w a k) (upward s t))
    ∷ (λ k. end_in s w k origin t)
    ∷ (λ k. any (λ a. end_in s w k origin a) (upward s t))
    ∷ (λ k. end_in s w k destination t)
    ∷ (λ k. any (λ a. end_in s w k destination a) (upward s t))
    ∷ []

-- the codes that other calls name
abbrev pub descendant : ℕ
descendant = 1

abbrev pub ancestor : ℕ
ancestor = 3

abbrev pub attribute_all : ℕ
attribute_all = 5

abbrev pub link_origin_all : ℕ
link_origin_all = 7

-- "codes 0 to 4: origin, origin-all, destination, destination-all, applied attributes. "All" adds descendants of the object types."
abbrev pub link_scans : Schema → List ℕ → ℕ → List (ℕ → Bool)
link_scans s w t =
    (λ k. end_in s w t origin k)
    ∷ (λ k. any (λ a. end_in s w t origin a) (upward s k))
    ∷ (λ k. end_in s w t destination k)
    ∷ (λ k. any (λ a. end_in s w t destination a) (upward s k))
    ∷ (λ k. applied_in s w t k)
    ∷ []
