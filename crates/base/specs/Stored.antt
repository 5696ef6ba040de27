-- Bytes that hold a schema, whatever else is true of it: within a call a type has its row before it has its presence.
use Rattle.std.specs.Prelude.{ℕ, suc, ◌-◌, ◌≤◌, ◌≡◌, List, ◌∷◌, ◌++◌, true, length, get_or, take, drop, set}
use Rattle.rules.specs.01-Lists.{◌∈◌, rising}
use Rattle.rules.specs.04-Schema.{Schema, Kind, Modes, Presence, nowhere, with_modes, with_types}
use Rattle.rules.specs.07-Picture.{pad, type_width, type_row, picture}
use Rattle.rules.specs.Read.{parents_offset, read_kind}
use Rattle.base.specs.Tables.{Table, Sorted, Used, sdss, types, by_name, by_application, by_end}
use Rattle.base.specs.Back.{schema_of}

-- things that a table keeps by their number, each read back from its row
pub record Numbered {A : Type 0} (t : Table A) (rs : List A) : Type 0 where
  pub room : length rs ≡ t.room
  pub back : (a : A) → a ∈ rs → t.read (t.row a) ≡ a

-- things that a table keeps in their order
pub record Ordered {A : Type 0} {t : Table A} (o : Sorted t) (rs : List A) : Type 0 where
  pub room : length rs ≤ t.room
  pub used : (a : A) → a ∈ rs → Used t a
  pub fit : (a : A) → a ∈ rs → o.Fit a
  pub rise : rising o.before rs ≡ true

-- the rows less row k
abbrev pub less_row : {A : Type 0} → ℕ → List A → List A
less_row k rs = take k rs ++ drop (suc k) rs

-- the presences, row k with these modes
abbrev pub modes_row : ℕ → Modes → Modes → List Presence → List Presence
modes_row k usage definition ps = set ps k (with_modes usage definition (get_or ps k nowhere))

-- what a schema needs to be stored: its picture shows it, and a row can be put in and taken out
pub record Storable (s : Schema) : Type 0 where
  pub by_sds : Numbered sdss s.sdss
  pub by_type : Numbered types s.types
  pub presences : Ordered by_name s.presences
  pub applications : Ordered by_application s.applications
  pub ends : Ordered by_end s.ends

-- b are the bytes of s
pub record Shows (b : List ℕ) (s : Schema) : Type 0 where
  pub rows : Storable s
  pub shown : b ≡ picture s

-- b are the bytes of the schema that they show
pub record Stored (b : List ℕ) : Type 0 where
  pub rows : Storable (schema_of b)
  pub shown : b ≡ picture (schema_of b)

-- the row of a type, field by field
abbrev pub type_fields : ℕ → ℕ → ℕ → List ℕ → List ℕ
type_fields kind value reverse ps = kind ∷ value ∷ reverse ∷ length ps ∷ pad (type_width - parents_offset) ps

-- b' is b with type t of kind k
abbrev pub Becomes : List ℕ → ℕ → Kind → List ℕ → Type 0
Becomes b t k b' = Shows b' (with_types (schema_of b) (set (schema_of b).types t k))

-- of the kind, that is, which the row shows
pub record TypeWritten (b : List ℕ) (t : ℕ) (row b' : List ℕ) : Type 0 where
  pub shows : (k : Kind) → type_row k ≡ row → read_kind (type_row k) ≡ k → Becomes b t k b'
