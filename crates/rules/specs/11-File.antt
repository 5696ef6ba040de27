-- The exchange file: "Write a whole base as a file and read one back" (02, Q-3). The one file of a schema; which bytes are well formed, and how
-- far others share their start with some that are; the rule of writing. What reading promises stands in 12-Contracts. (docs/FILE.md)
use Rattle.std.specs.Prelude.{ℕ, suc, ◌+◌, ◌*◌, ◌/◌, ◌%◌, ◌≤◌, ◌<◌, ◌≡◌, List, [], ◌∷◌, ◌++◌, map, true, cond, eqb, length, get_or, take}
use Rattle.rules.specs.01-Lists.{bytes_before, ◌∈◌, rising, numbers, joined}
use Rattle.rules.specs.02-Limits.{limits}
use Rattle.rules.specs.04-Schema.{Schema, Presence, sds_name, used_sds, kind_of, is_used, parents, type_presence}
use Rattle.rules.specs.05-Descent.{members}
use Rattle.rules.specs.06-Good.{Good}
use Rattle.rules.specs.07-Picture.{pad, sds_row, type_row, presence_width, application_width, application_row, end_width, end_row}
use Rattle.rules.specs.09-Refusals.{Outcome, Refusals, ◌when◌, verdict, types_in, short_output}
use Rattle.rules.specs.09-Refusals.Outcome.{done}

-- ---- the file of a schema: "SDSs, types, parents, presences, applications, ends, in that fixed order"

-- "each after its count", in two bytes, "all numbers little-endian"
unfoldable pub section : List (List ℕ) → List ℕ
section es = length es % 256 ∷ length es / 256 ∷ joined es

abbrev pub used_sdss : Schema → List ℕ
used_sdss s = numbers 0 limits.sdss (used_sds s)

abbrev pub used_types : Schema → List ℕ
used_types s = members (λ t. is_used (kind_of s t))

-- an SDS: number; name, zeros behind it
abbrev pub sds_entry : Schema → ℕ → List ℕ
sds_entry s d = d ∷ sds_row (sds_name s d)

-- a type: number; then the first three bytes of its row: kind; value kind or category; reverse
abbrev pub type_entry : Schema → ℕ → List ℕ
type_entry s t = t ∷ take 3 (type_row (kind_of s t))

-- a parent: child; parent
abbrev pub parent_entry : ℕ → ℕ → List ℕ
parent_entry t a = t ∷ a ∷ []

-- a presence: SDS; type; name, zeros behind it; usage; definition
unfoldable pub presence_entry : Presence → List ℕ
presence_entry p = p.sds ∷ p.type ∷ (pad limits.name p.name ++ (p.usage ∷ p.definition ∷ []))

unfoldable pub sds_entries : Schema → List (List ℕ)
sds_entries s = map (sds_entry s) (used_sdss s)

unfoldable pub type_entries : Schema → List (List ℕ)
type_entries s = map (type_entry s) (used_types s)

-- type by type
unfoldable pub parent_entries : Schema → List (List ℕ)
parent_entries s = joined (map (λ t. map (parent_entry t) (parents s t)) (used_types s))

-- those of an SDS, type by type
unfoldable pub entries_in : Schema → ℕ → List (List ℕ)
entries_in s d = map (λ t. presence_entry (type_presence s d t)) (types_in s d)

-- SDS by SDS
unfoldable pub presence_entries : Schema → List (List ℕ)
presence_entries s = joined (map (entries_in s) (used_sdss s))

-- an application: SDS; to; attribute. An end: SDS; link; side; object. Both as in their rows, and in the order of these.
unfoldable pub application_entries : Schema → List (List ℕ)
application_entries s = map application_row s.applications

unfoldable pub end_entries : Schema → List (List ℕ)
end_entries s = map end_row s.ends

-- "One base has one file whichever rows it used."
unfoldable pub file_of : Schema → List ℕ
file_of s =
    section (sds_entries s) ++ (section (type_entries s) ++ (section (parent_entries s) ++ (section (presence_entries s)
    ++ (section (application_entries s) ++ section (end_entries s)))))

-- ---- "A file is well formed when sections, counts and rising order are right and nothing follows."

-- a run of w bytes
pub record Entry (w : ℕ) (e : List ℕ) : Type 0 where
  pub wide : length e ≡ w
  pub bytes : (i : ℕ) → get_or e i 0 < 256

-- a count that two bytes hold, then so many entries of one width, "entries rising"
pub record Section (w : ℕ) (l : List ℕ) : Type 0 where
  pub entries : List (List ℕ)
  pub few : length entries < 65536
  pub each : (e : List ℕ) → e ∈ entries → Entry w e
  pub rise : rising bytes_before entries ≡ true
  pub is : l ≡ section entries

-- l in two parts, of which the first is an A and the second a B
pub record Followed (A B : List ℕ → Type 0) (l : List ℕ) : Type 0 where
  pub front : List ℕ
  pub back : List ℕ
  pub is : l ≡ front ++ back
  pub first : A front
  pub second : B back

-- a section of each width, and "nothing follows"
unfoldable pub Sections : List ℕ → List ℕ → Type 0
Sections [] file = file ≡ []
Sections (w ∷ ws) file = Followed (Section w) (Sections ws) file

-- the width of an entry of each section
abbrev pub widths : List ℕ
widths = (1 + limits.name) ∷ 4 ∷ 2 ∷ presence_width ∷ application_width ∷ end_width ∷ []

abbrev pub WellFormed : List ℕ → Type 0
WellFormed file = Sections widths file

-- how many bytes two runs share from their start
unfoldable pub shared : List ℕ → List ℕ → ℕ
shared [] m = 0
shared (x ∷ l) [] = 0
shared (x ∷ l) (y ∷ m) = cond (eqb x y) (suc (shared l m)) 0

-- "the length of the longest start it shares" with some run that is an L
pub record Longest (L : List ℕ → Type 0) (l : List ℕ) (k : ℕ) : Type 0 where
  pub some : List ℕ
  pub is : L some
  pub reached : shared l some ≡ k
  pub most : (other : List ℕ) → L other → shared l other ≤ k

-- ---- writing: "15 for a short output"

-- `room` is the length of the output, in bytes
abbrev pub write_file_refusals : ℕ → Schema → Refusals
write_file_refusals room s =
    (15 when short_output room (length (file_of s)))
    ∷ []

unfoldable pub write_file : ℕ → Schema → Outcome (List ℕ)
write_file room s = verdict (write_file_refusals room s) (done (length (file_of s)) 0 0 (file_of s))

-- ---- reading: "each accepted file is written back as the same bytes"

-- the file is that of a good schema
pub record WrittenAs (file : List ℕ) (s : Schema) : Type 0 where
  pub good : Good s
  pub is : file ≡ file_of s

-- the six counts, and every section at its limit, with 4 parents a type: no file of a good schema is longer (`file_longest` in proofs/11-File)
abbrev pub file_most : ℕ
file_most =
    12 + (limits.sdss * (1 + limits.name) + (limits.types * 4 + (limits.types * 4 * 2 + (limits.presences * presence_width
    + (limits.applications * application_width + limits.ends * end_width)))))
