-- The SDSs that hold each type, a word for each type and a bit for each SDS.
use Rattle.std.specs.Prelude.{ℕ, ◌*◌, ◌%◌, ◌^◌, ◌<◌, ◌≡◌, List, Bool, true, length, get_or, set}
use Rattle.std.specs.Int.Bits.{bit_or}
use Rattle.rules.specs.02-Limits.{limits}
use Rattle.rules.specs.04-Schema.{present}
use Rattle.type_set.specs.Set.{bit}
use Rattle.base.specs.Back.{schema_of}

-- bit d of word t: whether SDS d holds type t; what an SDS holds has a word and a bit
pub record Holds (b : List ℕ) (held : List ℕ) : Type 0 where
  pub room : length held ≡ limits.types
  pub words : (t : ℕ) → t < limits.types → get_or held t 0 < 65536
  pub shows : (t d : ℕ) → t < limits.types → d < limits.sdss → bit (get_or held t 0) d ≡ present (schema_of b) d t
  pub places : (d t : ℕ) → present (schema_of b) d t ≡ true → (d < limits.sdss) × (t < limits.types)

-- the words, with bit d of word t set
abbrev pub marked : List ℕ → ℕ → ℕ → List ℕ
marked held t d = set held t (bit_or (get_or held t 0) (1 * 2 ^ d % 2 ^ 16))

-- the SDSs of the one word are among those of the other
abbrev pub Within : ℕ → ℕ → Type 0
Within ds es = (d : ℕ) → d < limits.sdss → bit ds d ≡ true → bit es d ≡ true

-- whether SDS d holds type t, in every base that the words show
pub record HeldBy (held : List ℕ) (d t : ℕ) (r : Bool) : Type 0 where
  pub is : (b : List ℕ) → Holds b held → r ≡ present (schema_of b) d t
