-- The types that the types of a set p reach: their parents, their children, their ancestors, their descendants; and the passes over
-- presences that find the descendants.
use Rattle.std.specs.Prelude.{ℕ, ◌+◌, ◌-◌, ◌≤◌, ◌<◌, ◌≡◌, List, Bool, true, false, ◌&&◌, ◌||◌, eqb}
use Rattle.rules.specs.01-Lists.{any}
use Rattle.rules.specs.04-Schema.{Schema, Presence, is_parent}
use Rattle.rules.specs.05-Descent.{descends, members}
use Rattle.base.specs.Back.{presence_count, presence_shown}
use Rattle.visible.specs.Shown.{held_in}

-- k is a parent of a type of p
unfoldable pub parents_of : Schema → (ℕ → Bool) → ℕ → Bool
parents_of s p k = any (λ t. is_parent s t k) (members p)

-- k has a parent in p
unfoldable pub children_of : Schema → (ℕ → Bool) → ℕ → Bool
children_of s p k = any (λ a. is_parent s k a) (members p)

-- k is an ancestor of a type of p
unfoldable pub ancestors_of : Schema → (ℕ → Bool) → ℕ → Bool
ancestors_of s p k = any (λ t. descends s t k) (members p)

-- k descends from a type of p
unfoldable pub descendants_of : Schema → (ℕ → Bool) → ℕ → Bool
descendants_of s p k = any (λ a. descends s k a) (members p)

-- k is in p, or is in one of these SDSs and descends from a type of p
unfoldable pub with_descendants : Schema → (ℕ → Bool) → (ℕ → Bool) → ℕ → Bool
with_descendants s sdss p k = p k || (held_in s sdss k && descendants_of s p k)

-- k is the type of a presence in one of these SDSs, and has a parent in p
abbrev pub child_there : Schema → (ℕ → Bool) → (ℕ → Bool) → Presence → ℕ → Bool
child_there s sdss p x k = eqb k x.type && (sdss x.sds && children_of s p x.type)

-- the row that a pass over n rows, the first of them row `from`, looks at after i others
abbrev pub looked_at : ℕ → ℕ → Bool → ℕ → ℕ
looked_at from n true i = from + (n - 1 - i)
looked_at from n false i = from + i

-- n rows, the first of them row `from`, have all presences in these SDSs
pub record Span (b : List ℕ) (sdss : ℕ → Bool) (from n : ℕ) : Type 0 where
  pub fits : from + n ≤ presence_count b
  pub all : (j : ℕ) → j < presence_count b → sdss (presence_shown b j).sds ≡ true → (from ≤ j) × (j < from + n)

-- a pass makes q of p: it adds every child of a type of p that is in one of these SDSs, and nothing but descendants that are
pub record Passed (s : Schema) (sdss p q : ℕ → Bool) : Type 0 where
  pub kept : (k : ℕ) → p k ≡ true → q k ≡ true
  pub children : (t k : ℕ) → p t ≡ true → is_parent s k t ≡ true → held_in s sdss k ≡ true → q k ≡ true
  pub only : (k : ℕ) → q k ≡ true → with_descendants s sdss p k ≡ true
