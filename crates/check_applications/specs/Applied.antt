-- What is asked of applications, row by row.
use Rattle.std.specs.Prelude.{ℕ, ◌+◌, ◌/◌, ◌≤◌, ◌<◌, ◌≡◌, List, Bool, ◌&&◌, get_or}
use Rattle.rules.specs.02-Limits.{limits}
use Rattle.rules.specs.04-Schema.{present}
use Rattle.rules.specs.07-Picture.{application_width}
use Rattle.rules.specs.Parts.{of_presences, ApplicationFits}
use Rattle.rows.specs.Rows.{part}
use Rattle.rows.specs.Order.{number, Climbs}
use Rattle.rows.specs.Decides.{Decides}
use Rattle.base.specs.Tables.{applications}
use Rattle.base.specs.Rows.{application_at}
use Rattle.base.specs.Back.{schema_of, application_shown}
use Rattle.check_held.specs.Held.{Holds}

-- the application in row i is of an attribute type to an object or link type, both held by its SDS
abbrev pub Applied : List ℕ → ℕ → Type 0
Applied b i =
    ApplicationFits (schema_of b).types (present (of_presences (schema_of b).presences) (application_shown b i).sds) (application_shown b i)

-- and stands behind the one before it; the first behind all that SDS 0 could have
pub record RowFine (b : List ℕ) (i : ℕ) : Type 0 where
  pub climbs : Climbs 65535 b applications.start applications.width i
  pub applied : Applied b i

-- the bytes from `from` on, up to `end`, are below 128
abbrev pub Low : List ℕ → ℕ → ℕ → Type 0
Low b from end = (k : ℕ) → from ≤ k → k < end → get_or b k 0 < 128

-- n rows tell no type past the last, and the last of them no such SDS
pub record Bounded (b : List ℕ) (n : ℕ) : Type 0 where
  pub last : (i : ℕ) → n ≡ i + 1 → get_or b (application_at i) 0 < limits.sdss
  pub low : Low b applications.start (application_at n)

-- r is the number of row i, with a byte more
pub record Numbered (b : List ℕ) (i r : ℕ) : Type 0 where
  pub is : r / 256 ≡ number 0 (part b (application_at i) application_width)
  pub small : r < 4294967296

-- whether SDS d holds types t and a, in every base that the words show
pub record BothHeld (held : List ℕ) (d t a : ℕ) (r : Bool) : Type 0 where
  pub is : (b : List ℕ) → Holds b held → d < limits.sdss → r ≡ present (schema_of b) d t && present (schema_of b) d a

-- the row at `at` is decided, where its SDS is none past the last
pub record RowDecided (b : List ℕ) (at : ℕ) (r : Bool) : Type 0 where
  pub decides : (i : ℕ) → at ≡ application_at i → get_or b (application_at i) 0 < limits.sdss → Decides (Applied b i) r
