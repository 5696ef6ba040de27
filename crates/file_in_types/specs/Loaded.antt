-- What loading promises: something of the file of a good schema, and of any other that the area keeps its length.
use Rattle.std.specs.Prelude.{ℕ, ◌≤◌, ◌≡◌, List, [], ◌++◌, length, drop}
use Rattle.rules.specs.01-Lists.{◌∈◌}
use Rattle.rules.specs.04-Schema.{Schema}
use Rattle.rules.specs.07-Picture.{base_length, picture}
use Rattle.rules.specs.11-File.{section, presence_entries, application_entries, end_entries, WrittenAs}
use Rattle.file_in_types.specs.Steps.{Step, all_in}

-- where a section of at most `limit` entries of width w starts at `at`, its entries are put into the area, and r is where it ends
pub record SectionIn (w : ℕ) (step : Step) (limit : ℕ) (file : List ℕ) (at : ℕ) (area area' : List ℕ) (r : ℕ) : Type 0 where
  pub long : length area' ≡ base_length
  pub is : (es : List (List ℕ)) (rest : List ℕ) → length es ≤ limit → ((e : List ℕ) → e ∈ es → length e ≡ w) → drop at file ≡ section es ++ rest
      → (area' ≡ all_in step es area) × (drop r file ≡ rest)

-- a schema's SDSs and types, and nothing in them
abbrev pub types_alone : Schema → Schema
types_alone s = record { sdss = s.sdss; types = s.types; presences = []; applications = []; ends = [] }

pub record TypesLoaded (file area : List ℕ) (r : ℕ) : Type 0 where
  pub long : length area ≡ base_length
  pub shows : (s : Schema) → WrittenAs file s → (area ≡ picture (types_alone s))
      × (drop r file ≡ section (presence_entries s) ++ (section (application_entries s) ++ section (end_entries s)))
