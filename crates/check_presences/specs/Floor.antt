-- What a row is to stand above: the name passed last in its SDS.
use Rattle.std.specs.Prelude.{ℕ, ◌+◌, ◌<◌, ◌≡◌, ◌⊎◌, List, [], ◌∷◌, Bool, true, get_or, replicate, Option, MatchOption}
use Rattle.rules.specs.01-Lists.{bytes_before}
use Rattle.rules.specs.02-Limits.{limits}
use Rattle.rules.specs.04-Schema.{used_sds}
use Rattle.rules.specs.Read.{name_offset}
use Rattle.name_fields.specs.Field.{name_field}
use Rattle.rows.specs.declared.order.Key.{Key}
use Rattle.rows.specs.Rows.{part}
use Rattle.base.specs.Rows.{presence_at}
use Rattle.base.specs.Back.{schema_of}
use Rattle.check_presences.specs.declared.Floor.{Floor}
use Rattle.check_presences.specs.Rows.{NamedFine, told_apart}
use Rattle.check_presences.specs.Fields.{first_half, second_half, halves, SdsBit}

-- row i has a name or may lack one, stands behind row `last`, and is in a used SDS
pub record Follows (b : List ℕ) (last i : ℕ) : Type 0 where
  pub named : NamedFine b i
  pub used : used_sds (schema_of b) (get_or b (presence_at i) 0) ≡ true
  pub behind : bytes_before (told_apart b last) (told_apart b i) ≡ true

-- every name is above it: its first half is below that of every name
pub record Bottom (f : Floor) : Type 0 where
  pub first : f.first ≡ 0x41ffffffffffffff
  pub second : f.second ≡ 0xffffffffffffffff

-- the halves of the name of row i
pub record Halves (b : List ℕ) (i : ℕ) (f : Floor) : Type 0 where
  pub named : name_field (part b (presence_at i + name_offset) limits.name) ≡ true
  pub first : f.first ≡ first_half b i
  pub second : f.second ≡ second_half b i

-- row i has made it: of its name, or, where it has none, the bottom
abbrev pub MadeBy : List ℕ → ℕ → Floor → Type 0
MadeBy b i f = Halves b i f ⊎ ((part b (presence_at i + name_offset) limits.name ≡ replicate limits.name 0) × Bottom f)

-- and it has the bit of the SDS of row i
pub record Last (b : List ℕ) (i : ℕ) (f : Floor) : Type 0 where
  pub bit : SdsBit b (get_or b (presence_at i) 0) f.bit
  pub made : MadeBy b i f

-- row i, behind row `last` in its SDS or the first in a later one, is to stand on it
pub record Under (b : List ℕ) (last i : ℕ) (f : Floor) : Type 0 where
  pub bit : SdsBit b (get_or b (presence_at i) 0) f.bit
  pub made : ((get_or b (presence_at last) 0 ≡ get_or b (presence_at i) 0) × MadeBy b last f)
      ⊎ ((get_or b (presence_at last) 0 < get_or b (presence_at i) 0) × Bottom f)

-- the key is above it
abbrev pub above : Floor → Key → Bool
above f k = bytes_before (f.first ∷ f.second ∷ []) (halves k)

-- none stands for a row that does not follow; row i is to stand on any other
abbrev pub Begun : List ℕ → ℕ → ℕ → Option Floor → Type 0
Begun b last i r = MatchOption r (Follows b last i → ⊥) (λ f. Under b last i f)

-- row i follows, and has made it
pub record Made (b : List ℕ) (last i : ℕ) (f : Floor) : Type 0 where
  pub follows : Follows b last i
  pub made : Last b i f

-- none stands for a row that does not follow; row i has made any other
abbrev pub RowPassed : List ℕ → ℕ → ℕ → Option Floor → Type 0
RowPassed b last i r = MatchOption r (Follows b last i → ⊥) (λ f. Made b last i f)

-- the row at `at` has the SDS and the first half of the name of the row at `was`, as spelled, and the second half is above
pub record GoesOn (b : List ℕ) (was at : ℕ) (f : Floor) (second : ℕ) : Type 0 where
  pub sds : get_or b was 0 ≡ get_or b at 0
  pub first : part b (was + name_offset) 8 ≡ part b (at + name_offset) 8
  pub above : f.second < second
