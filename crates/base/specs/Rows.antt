-- Where the rows of a base start, in short.
use Rattle.std.specs.Prelude.{ℕ, ◌+◌, ◌<◌, ◌≡◌, List, get_or}
use Rattle.rules.specs.Read.{link_offset, side_offset, object_offset}
use Rattle.base.specs.Tables.{at, sdss, types, presences, applications, ends}

abbrev pub sds_at : ℕ → ℕ
sds_at d = at sdss d

abbrev pub type_at : ℕ → ℕ
type_at t = at types t

abbrev pub presence_at : ℕ → ℕ
presence_at i = at presences i

abbrev pub application_at : ℕ → ℕ
application_at i = at applications i

abbrev pub end_at : ℕ → ℕ
end_at i = at ends i

-- one of the n ends has these bytes
pub record EndRow (b : List ℕ) (n d l side o : ℕ) : Type 0 where
  pub place : ℕ
  pub below : place < n
  pub sds : get_or b (end_at place) 0 ≡ d
  pub link : get_or b (end_at place + link_offset) 0 ≡ l
  pub turned : get_or b (end_at place + side_offset) 0 ≡ side
  pub object : get_or b (end_at place + object_offset) 0 ≡ o
