-- The reverse of a type by its number.
use Rattle.std.specs.Prelude.{ℕ, ◌≤◌, ◌<◌, ◌≡◌, List, [], ◌∷◌, cond, ltb}
use Rattle.rules.specs.04-Schema.{Schema, kind_of, reverse}
use Rattle.rules.specs.04-Schema.Kind.{paired}

-- the type of that number, or none
abbrev pub one_or_none : ℕ → List ℕ
one_or_none r = cond (ltb r 128) (r ∷ []) []

-- r is the reverse of l, 128 where l has none
pub record ReverseOf (s : Schema) (l r : ℕ) : Type 0 where
  pub fits : r ≤ 128
  pub is : reverse s l ≡ one_or_none r
  pub pair : r < 128 → (c : ℕ) × (kind_of s l ≡ paired c r)
