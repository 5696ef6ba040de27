-- What the two passes over the presences look at: fields, types and modes row by row, and rows beside each other.
use Rattle.std.specs.Prelude.{ℕ, ◌+◌, ◌*◌, ◌%◌, ◌^◌, ◌<◌, ◌≡◌, List, [], ◌∷◌, Bool, true, not, ◌&&◌, ◌||◌, ltb, get_or, Option, MatchOption}
use Rattle.rules.specs.01-Lists.{bytes_before}
use Rattle.rules.specs.02-Limits.{limits}
use Rattle.rules.specs.04-Schema.{Presence, all_modes, used_sds}
use Rattle.rules.specs.06-Good.{KnownModes}
use Rattle.rules.specs.Read.{name_offset, type_offset, usage_offset, definition_offset}
use Rattle.name_fields.specs.Field.{orderly}
use Rattle.rows.specs.declared.order.Key.{Key}
use Rattle.rows.specs.Rows.{part}
use Rattle.rows.specs.Order.{number, folded}
use Rattle.base.specs.Rows.{presence_at}
use Rattle.base.specs.Back.{schema_of, presence_shown}
use Rattle.check_presences.specs.declared.Modes.{Modes}
use Rattle.check_presences.specs.declared.Modes.TheVariants.{All}
use Rattle.check_presences.specs.Rows.{tag, RowsFine}

-- ---- a row by itself

-- the last byte of its name, its type, usage and definition, in one number, the lowest first
abbrev pub tail_of : List ℕ → ℕ → ℕ
tail_of b i =
    get_or b (presence_at i + limits.name) 0 + get_or b (presence_at i + type_offset) 0 * 256 + get_or b (presence_at i + usage_offset) 0 * 65536
    + get_or b (presence_at i + definition_offset) 0 * 16777216

-- its field holds letters, digits and underscores, and zeros behind them
abbrev pub FieldFine : List ℕ → ℕ → Type 0
FieldFine b i = orderly (part b (presence_at i + name_offset) limits.name) ≡ true

-- its type is one that there can be, and its modes are some of the five
pub record ByItself (b : List ℕ) (i : ℕ) : Type 0 where
  pub field : FieldFine b i
  pub small : get_or b (presence_at i + type_offset) 0 < limits.types
  pub known : KnownModes (presence_shown b i)

pub record AllModes (p : Presence) : Type 0 where
  pub usage : p.usage ≡ all_modes
  pub definition : p.definition ≡ all_modes

-- n rows are fine by themselves, and all have all modes where that is told
pub record Told (b : List ℕ) (n : ℕ) (modes : Modes) : Type 0 where
  pub each : (i : ℕ) → i < n → ByItself b i
  pub all : modes ≡ All → (i : ℕ) → i < n → AllModes (presence_shown b i)

-- none where one of n rows is not fine by itself
abbrev pub FieldsTold : List ℕ → ℕ → Option Modes → Type 0
FieldsTold b n r = MatchOption r (RowsFine b n → ⊥) (λ modes. Told b n modes)

-- the first half of its field, less its case, in one number
abbrev pub first_half : List ℕ → ℕ → ℕ
first_half b i = number 0 (folded (part b (presence_at i + name_offset) 8))

abbrev pub second_half : List ℕ → ℕ → ℕ
second_half b i = number 0 (folded (part b (presence_at i + 9) 8))

-- ---- two rows

abbrev pub halves : Key → List ℕ
halves k = k.first ∷ k.second ∷ []

-- rows of one SDS stand by the halves of their fields, and where these are the same by their tags
abbrev pub names_before : List ℕ → ℕ → ℕ → Key → Key → Bool
names_before b last i row next =
    bytes_before (halves row) (halves next) || (not (bytes_before (halves next) (halves row)) && ltb (tag b last) (tag b i))

-- ---- the bit of an SDS in a word

pub record SdsBit (b : List ℕ) (d r : ℕ) : Type 0 where
  pub used : used_sds (schema_of b) d ≡ true
  pub is : r ≡ 1 * 2 ^ d % 2 ^ 16
