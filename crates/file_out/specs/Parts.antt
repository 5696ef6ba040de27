-- The file of a schema, cut into parts that are each short enough to be put down or compared by itself.
use Rattle.std.specs.Prelude.{ℕ, ◌/◌, ◌%◌, List, [], ◌∷◌, ◌++◌, map, true, length, get_or}
use Rattle.rules.specs.01-Lists.{numbers, joined}
use Rattle.rules.specs.02-Limits.{limits}
use Rattle.rules.specs.04-Schema.{Schema}
use Rattle.rules.specs.11-File.{section, sds_entries, type_entries, parent_entries, entries_in, application_entries, end_entries}

-- a count in two bytes, low byte first
unfoldable pub count_bytes : ℕ → List ℕ
count_bytes n = n % 256 ∷ n / 256 ∷ []

-- 22 parts: SDSs; types; parents; the count of the presences; those of each of the 16 SDSs; applications; ends
unfoldable pub file_parts : Schema → List (List ℕ)
file_parts s =
    section (sds_entries s) ∷ section (type_entries s) ∷ section (parent_entries s) ∷ count_bytes (length s.presences)
    ∷ (map (λ d. joined (entries_in s d)) (numbers 0 limits.sdss (λ d. true)) ++ (section (application_entries s) ∷ section (end_entries s) ∷ []))

abbrev pub part_of : Schema → ℕ → List ℕ
part_of s j = get_or (file_parts s) j []
