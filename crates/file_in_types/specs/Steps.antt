-- What an entry of SDSs, types or parents makes of an area, whatever bytes both have, and so what a section makes of it.
use Rattle.std.specs.Prelude.{ℕ, ◌+◌, ◌*◌, List, [], ◌∷◌, cond, ltb, get_or, drop, set}
use Rattle.rules.specs.02-Limits.{limits}
use Rattle.rules.specs.11-File.{widths}
use Rattle.rules.specs.Read.{count_offset, parents_offset}
use Rattle.rows.specs.Table.{written}
use Rattle.base.specs.Rows.{sds_at, type_at}
use Rattle.file_in_types.specs.declared.Section.{Section}
use Rattle.file_in_types.specs.declared.Section.TheVariants.{Sdss, Types, Parents}

-- what an entry makes of an area
abbrev pub Step : Type 0
Step = List ℕ → List ℕ → List ℕ

-- number; name
unfoldable pub sds_in : Step
sds_in e area = cond (ltb (get_or e 0 0) limits.sdss) (written area (sds_at (get_or e 0 0)) (drop 1 e)) area

-- number; kind; value; reverse
abbrev pub bare_row : List ℕ → List ℕ
bare_row e = get_or e 1 0 ∷ get_or e 2 0 ∷ get_or e 3 0 ∷ 0 ∷ 0 ∷ 0 ∷ 0 ∷ 0 ∷ []

unfoldable pub type_in : Step
type_in e area = cond (ltb (get_or e 0 0) limits.types) (written area (type_at (get_or e 0 0)) (bare_row e)) area

-- the type whose row starts at `at` gets the parent a behind its n parents
abbrev pub parent_set : List ℕ → ℕ → ℕ → ℕ → List ℕ
parent_set area at n a = set (set area (at + parents_offset + n) a) (at + count_offset) (n + 1)

abbrev pub parent_more : List ℕ → ℕ → ℕ → List ℕ
parent_more area at a = cond (ltb (get_or area (at + count_offset) 0) 4) (parent_set area at (get_or area (at + count_offset) 0) a) area

-- child; parent
unfoldable pub parent_in : Step
parent_in e area = cond (ltb (get_or e 0 0) limits.types) (parent_more area (type_at (get_or e 0 0)) (get_or e 1 0)) area

-- ---- a section

-- how many bytes an entry has
abbrev pub width_of : Section → ℕ
width_of Sdss = get_or widths 0 0
width_of Types = get_or widths 1 0
width_of Parents = get_or widths 2 0

-- how many entries there may be
abbrev pub limit_of : Section → ℕ
limit_of Sdss = limits.sdss
limit_of Types = limits.types
limit_of Parents = limits.types * 4

-- what one makes of an area
abbrev pub step_of : Section → Step
step_of Sdss = sds_in
step_of Types = type_in
step_of Parents = parent_in

-- ---- entries, one after another

module _ (step : Step) where
  -- those of a list
  unfoldable pub all_in : List (List ℕ) → List ℕ → List ℕ
  all_in [] area = area
  all_in (e ∷ es) area = all_in es (step e area)
