-- What a search of the bytes finds.
use Rattle.std.specs.Prelude.{ℕ, ◌+◌, ◌≤◌, ◌<◌, ◌≡◌, List, Bool, true, false, length, get_or}
use Rattle.rules.specs.02-Limits.{limits}
use Rattle.rules.specs.03-Names.{Name}
use Rattle.rules.specs.04-Schema.{Schema, Side, used_sds, kind_of, is_used, holds_name, bears, type_named, is_end, has_end}
use Rattle.rules.specs.07-Picture.{base_length}
use Rattle.rules.specs.Read.{link_offset, object_offset, side_offset, type_offset}
use Rattle.rows.specs.Rows.{Counted}
use Rattle.base.specs.Tables.{InOrder, by_end}
use Rattle.base.specs.Rows.{presence_at, end_at, EndRow}
use Rattle.base.specs.Back.{schema_of, end_count, presence_shown, end_shown}

-- r is the lowest number that no SDS has, 16 where every number is used
pub record FreeSds (b : List ℕ) (r : ℕ) : Type 0 where
  pub fits : r ≤ limits.sdss
  pub used : (d : ℕ) → d < r → used_sds (schema_of b) d ≡ true
  pub free : r < limits.sdss → used_sds (schema_of b) r ≡ false

-- r is the lowest number from `from` on that no type has, 128 where there is none
pub record FreeType (s : Schema) (from r : ℕ) : Type 0 where
  pub fits : r ≤ 128
  pub used : (t : ℕ) → from ≤ t → t < r → is_used (kind_of s t) ≡ true
  pub free : r < 128 → (from ≤ r) × (is_used (kind_of s r) ≡ false)

-- row i says that type t is in SDS d
abbrev pub RowOf : List ℕ → ℕ → ℕ → ℕ → Type 0
RowOf b i d t = (get_or b (presence_at i) 0 ≡ d) × (get_or b (presence_at i + type_offset) 0 ≡ t)

-- row r is the first of n that says that type t is in SDS d, and n where none does
pub record PresenceRow (b : List ℕ) (n d t r : ℕ) : Type 0 where
  pub fits : r ≤ n
  pub others : (i : ℕ) → i < r → RowOf b i d t → ⊥
  pub found : r < n → RowOf b r d t

-- r is the first of n rows that passes, and n where none does
pub record FirstRow (n : ℕ) (passes : ℕ → Bool) (r : ℕ) : Type 0 where
  pub fits : r ≤ n
  pub others : (i : ℕ) → i < r → passes i ≡ false
  pub found : r < n → passes r ≡ true

-- row r is the first of n that says that a type bears the name in SDS d, and n where none does
pub record NamedRow (b : List ℕ) (n d : ℕ) (name : Name) (r : ℕ) : Type 0 where
  pub fits : r ≤ n
  pub others : (i : ℕ) → i < r → holds_name d name (presence_shown b i) ≡ false
  pub found : r < n → holds_name d name (presence_shown b r) ≡ true

-- r is the type that bears the name in SDS d, as many as there are types where none does
pub record NamedIn (s : Schema) (d : ℕ) (n : Name) (r : ℕ) : Type 0 where
  pub found : bears s d n ≡ true → (r < 128) × (r ≡ type_named s d n)
  pub none : bears s d n ≡ false → r ≡ 128

-- row i is one of the n ends, and has these bytes
pub record EndAt (b : List ℕ) (n i d l side o : ℕ) : Type 0 where
  pub below : i < n
  pub sds : get_or b (end_at i) 0 ≡ d
  pub link : get_or b (end_at i + link_offset) 0 ≡ l
  pub turned : get_or b (end_at i + side_offset) 0 ≡ side
  pub object : get_or b (end_at i + object_offset) 0 ≡ o

-- row r of the n ends has these bytes, unless there are no more than r, and then none of them has
pub record EndFound (b : List ℕ) (n d l side o r : ℕ) : Type 0 where
  pub found : r < n → EndAt b n r d l side o
  pub none : n ≤ r → EndRow b n d l side o → ⊥

-- row r is that end, unless there are no more than r, and then none is
pub record EndPlace (b : List ℕ) (d l : ℕ) (side : Side) (o r : ℕ) : Type 0 where
  pub found : r < end_count b → is_end d l side o (end_shown b r) ≡ true
  pub none : end_count b ≤ r → has_end (schema_of b) d l side o ≡ false

-- n rows of ends, in order, with sides that are sides
pub record Ends (b : List ℕ) (n : ℕ) : Type 0 where
  pub long : length b ≡ base_length
  pub counted : Counted (end_count b) limits.ends n
  pub rise : InOrder by_end b n
  pub sides : (i : ℕ) → i < n → get_or b (end_at i + side_offset) 0 ≤ 1
