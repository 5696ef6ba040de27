-- What is asked of the names of SDSs, field by field.
use Rattle.std.specs.Prelude.{ℕ, ◌+◌, ◌%◌, ◌<◌, ◌≡◌, List, Bool, true, ◌||◌}
use Rattle.rules.specs.02-Limits.{limits}
use Rattle.rules.specs.03-Names.{same_name}
use Rattle.rules.specs.04-Schema.{used_sds}
use Rattle.name_fields.specs.Field.{name_field, blank_field}
use Rattle.type_set.specs.Set.{bit}
use Rattle.rows.specs.Rows.{part}
use Rattle.rows.specs.Order.{number, folded}
use Rattle.base.specs.Rows.{sds_at}
use Rattle.base.specs.Back.{schema_of}

-- the field of SDS d is blank or holds a name
abbrev pub fine_field : List ℕ → ℕ → Bool
fine_field b d = blank_field (part b (sds_at d) limits.name) || name_field (part b (sds_at d) limits.name)

abbrev pub FieldsFine : List ℕ → Type 0
FieldsFine b = (d : ℕ) → d < limits.sdss → fine_field b d ≡ true

-- the first eight bytes of the name of SDS d, less their case, in one number
abbrev pub first_half : List ℕ → ℕ → ℕ
first_half b d = number 0 (folded (part b (sds_at d) 8))

-- no SDS before d has the name of SDS d
abbrev pub UnlikeEarlier : List ℕ → ℕ → Type 0
UnlikeEarlier b d = (e : ℕ) → e < d → same_name (part b (sds_at d) limits.name) (part b (sds_at e) limits.name) ≡ true → ⊥

abbrev pub Alone : List ℕ → ℕ → Type 0
Alone b d = used_sds (schema_of b) d ≡ true → UnlikeEarlier b d

-- the bits of a word are marks of the names of all SDSs before d
pub record Seen (b : List ℕ) (d seen : ℕ) : Type 0 where
  pub marks : (e : ℕ) → e < d → used_sds (schema_of b) e ≡ true → bit seen (first_half b e % 61) ≡ true

-- SDS d is alone, and the word is such a one with it too
pub record SeenWith (b : List ℕ) (d word : ℕ) : Type 0 where
  pub alone : Alone b d
  pub seen : Seen b (d + 1) word
