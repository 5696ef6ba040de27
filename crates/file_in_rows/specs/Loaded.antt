-- What loading makes of an area, whatever bytes the file has.
use Rattle.std.specs.Prelude.{ℕ, suc, ◌≤◌, ◌≡◌, List, [], ◌∷◌, ◌++◌, map, length, get_or, take, drop}
use Rattle.rules.specs.01-Lists.{◌∈◌, joined}
use Rattle.rules.specs.02-Limits.{limits}
use Rattle.rules.specs.04-Schema.{Schema}
use Rattle.rules.specs.06-Good.{Good}
use Rattle.rules.specs.07-Picture.{presence_width, picture, base_length}
use Rattle.rules.specs.11-File.{section, presence_entries, application_entries, end_entries}
use Rattle.rules.specs.Read.{usage_offset, definition_offset}
use Rattle.rows.specs.Table.{PutIn, written}
use Rattle.base.specs.Tables.{presences}
use Rattle.file_in_types.specs.Loaded.{types_alone}

-- the row of a presence, out of its entry: there the type stands behind the SDS, here behind the name
unfoldable pub row_from : List ℕ → List ℕ
row_from e = get_or e 0 0 ∷ (take limits.name (drop 2 e) ++ (get_or e 1 0 ∷ get_or e usage_offset 0 ∷ get_or e definition_offset 0 ∷ []))

-- b' is b with each of the rows put in at its place among the presences, of which there are `count` at first
unfoldable pub Puts : ℕ → List (List ℕ) → List ℕ → List ℕ → Type 0
Puts count [] b b' = b' ≡ b
Puts count (row ∷ more) b b' = (m : List ℕ) × PutIn b presences.start limits.name count row m × Puts (suc count) more m b'

-- if the bytes are those of entries of presences, their rows were put in
pub record EntriesPut (bytes before after : List ℕ) : Type 0 where
  pub puts : (es : List (List ℕ)) → ((e : List ℕ) → e ∈ es → length e ≡ presence_width) → bytes ≡ joined es → Puts 0 (map row_from es) before after

-- if a section of such entries starts at `at`, their rows were put in, and r is where it ends
pub record PresencesLoaded (file : List ℕ) (at : ℕ) (before after : List ℕ) (r : ℕ) : Type 0 where
  pub shows : (es : List (List ℕ)) (rest : List ℕ) → length es ≤ limits.presences → ((e : List ℕ) → e ∈ es → length e ≡ presence_width)
      → drop at file ≡ section es ++ rest → Puts 0 (map row_from es) before after × (drop r file ≡ rest)

-- if a section of at most so many entries of width w starts at `at`, their bytes stand from `to` on, and r is where it ends
pub record TableLoaded (file : List ℕ) (at w most to : ℕ) (before after : List ℕ) (r : ℕ) : Type 0 where
  pub shows : (es : List (List ℕ)) (rest : List ℕ) → length es ≤ most → ((e : List ℕ) → e ∈ es → length e ≡ w)
      → drop at file ≡ section es ++ rest → (after ≡ written before to (joined es)) × (drop r file ≡ rest)

-- presences, applications and ends, put into what holds the SDSs and types of their schema
pub record RowsLoaded (file : List ℕ) (at : ℕ) (before after : List ℕ) : Type 0 where
  pub long : length after ≡ base_length
  pub shows : (s : Schema) → Good s → before ≡ picture (types_alone s)
      → drop at file ≡ section (presence_entries s) ++ (section (application_entries s) ++ section (end_entries s)) → after ≡ picture s
