-- Words that show which SDSs hold each type, and what a pass that gathers them answers.
use Rattle.std.specs.Prelude.{ℕ, ◌+◌, ◌<◌, ◌≡◌, List, [], ◌∷◌, Bool, true, length, get_or}
use Rattle.std.specs.Int.Count.{ones}
use Rattle.rules.specs.02-Limits.{limits}
use Rattle.rules.specs.Read.{type_offset}
use Rattle.type_set.specs.Set.{bit}
use Rattle.rows.specs.Decides.{Decides}
use Rattle.base.specs.Rows.{presence_at}
use Rattle.check_presences.specs.Rows.{RowsFine}

-- the words have a bit for each of the first n rows, and no other
pub record Gathers (b : List ℕ) (n : ℕ) (held : List ℕ) : Type 0 where
  pub room : length held ≡ limits.types
  pub words : (t : ℕ) → t < limits.types → get_or held t 0 < 65536
  pub marked : (i : ℕ) → i < n → bit (get_or held (get_or b (presence_at i + type_offset) 0) 0) (get_or b (presence_at i) 0) ≡ true
  pub marks : (t d : ℕ) → t < limits.types → d < limits.sdss → bit (get_or held t 0) d ≡ true
      → (i : ℕ) × (i < n) × (get_or b (presence_at i) 0 ≡ d) × (get_or b (presence_at i + type_offset) 0 ≡ t)

-- how many bits words have
unfoldable pub bits_in : List ℕ → ℕ
bits_in [] = 0
bits_in (w ∷ l) = ones w + bits_in l

-- true where the first n rows are fine; then the words are theirs
pub record RowsGathered (b : List ℕ) (n : ℕ) (held : List ℕ) (r : Bool) : Type 0 where
  pub fine : Decides (RowsFine b n) r
  pub gathers : r ≡ true → Gathers b n held
