-- What the parents' bytes of a type's row need, to be read; and how parents may be numbered.
use Rattle.std.specs.Prelude.{ℕ, ◌<◌, ◌≡◌, List, true, length}
use Rattle.rules.specs.04-Schema.{Schema, is_object, kind_of}
use Rattle.rules.specs.05-Descent.{Parent}
use Rattle.rules.specs.07-Picture.{type_row, base_length, type_width}
use Rattle.rows.specs.Rows.{part}
use Rattle.base.specs.Rows.{type_at}
use Rattle.base.specs.Back.{schema_of, kind_shown}

-- the rows of types are as they would be written, and parents are object types
pub record Parental (b : List ℕ) : Type 0 where
  pub long : length b ≡ base_length
  pub type_rows : (t : ℕ) → t < 128 → type_row (kind_shown b t) ≡ part b (type_at t) type_width
  pub parents_objects : (t a : ℕ) → Parent (schema_of b) t a → is_object (kind_of (schema_of b) a) ≡ true

-- every parent's number is below its child's
abbrev pub Falling : Schema → Type 0
Falling s = (t a : ℕ) → Parent s t a → a < t
