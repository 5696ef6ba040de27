-- What is asked of presences, row by row.
use Rattle.std.specs.Prelude.{ℕ, ◌+◌, ◌<◌, ◌≡◌, ◌⊎◌, List, [], ◌∷◌, ◌++◌, true, cond, get_or, replicate}
use Rattle.rules.specs.02-Limits.{limits}
use Rattle.rules.specs.04-Schema.{all_modes, system_presence, used_sds, kind_of, is_object}
use Rattle.rules.specs.06-Good.{KnownModes}
use Rattle.rules.specs.07-Picture.{pad}
use Rattle.rules.specs.Read.{name_offset, type_offset, usage_offset, definition_offset}
use Rattle.name_fields.specs.Field.{name_field, blank_field}
use Rattle.rows.specs.Rows.{part, Rising}
use Rattle.rows.specs.Order.{front}
use Rattle.base.specs.Rows.{presence_at}
use Rattle.base.specs.Back.{schema_of, presence_shown}

-- row i has a name, or a blank field and an object type
abbrev pub NamedFine : List ℕ → ℕ → Type 0
NamedFine b i =
    (name_field (part b (presence_at i + name_offset) limits.name) ≡ true)
    ⊎ ((part b (presence_at i + name_offset) limits.name ≡ replicate limits.name 0)
    × (is_object (kind_of (schema_of b) (get_or b (presence_at i + type_offset) 0)) ≡ true))

-- row i has that, a type that there can be, and modes that are some of the five
pub record RowFine (b : List ℕ) (i : ℕ) : Type 0 where
  pub named : NamedFine b i
  pub small : get_or b (presence_at i + type_offset) 0 < limits.types
  pub known : KnownModes (presence_shown b i)

-- row 0 is that of a fresh base, and row 1 is in another SDS
pub record SystemFirst (b : List ℕ) (n : ℕ) : Type 0 where
  pub some : 0 < n
  pub sds : get_or b (presence_at 0) 0 ≡ 0
  pub type : get_or b (presence_at 0 + type_offset) 0 ≡ 0
  pub name : part b (presence_at 0 + name_offset) limits.name ≡ pad limits.name system_presence.name
  pub usage : get_or b (presence_at 0 + usage_offset) 0 ≡ all_modes
  pub definition : get_or b (presence_at 0 + definition_offset) 0 ≡ all_modes
  pub next : 1 < n → get_or b (presence_at 1) 0 ≡ 0 → ⊥

-- what nameless rows of an SDS are told apart by: their types, and 0 in a row with a name
abbrev pub tag : List ℕ → ℕ → ℕ
tag b i = cond (blank_field (part b (presence_at i + name_offset) limits.name)) (get_or b (presence_at i + type_offset) 0) 0

-- the SDS of row i, its name less its case, and that
abbrev pub told_apart : List ℕ → ℕ → List ℕ
told_apart b i = front b (presence_at i) ++ (tag b i ∷ [])

-- n rows rise by these, so that no name stands twice in an SDS
abbrev pub NamesRise : List ℕ → ℕ → Type 0
NamesRise b n = Rising (told_apart b) n

-- the first n rows are fine, in used SDSs and in order, and no two are of one SDS and one type
pub record RowsFine (b : List ℕ) (n : ℕ) : Type 0 where
  pub each : (i : ℕ) → i < n → RowFine b i
  pub in_used : (i : ℕ) → i < n → used_sds (schema_of b) (get_or b (presence_at i) 0) ≡ true
  pub rise : NamesRise b n
  pub once : (i j : ℕ) → i < j → j < n → get_or b (presence_at i) 0 ≡ get_or b (presence_at j) 0
      → get_or b (presence_at i + type_offset) 0 ≡ get_or b (presence_at j + type_offset) 0 → ⊥
