-- The tables of a base, each a value: nothing else says where a row starts, how wide it is, or how its bytes are read. (docs/LAYOUT.md)
use Rattle.std.specs.Prelude.{ℕ, suc, ◌+◌, ◌*◌, ◌-◌, ◌<◌, ◌≡◌, List, Bool, true, ◌||◌, drop, replicate}
use Rattle.rules.specs.02-Limits.{limits}
use Rattle.rules.specs.03-Names.{Name, blank, well_formed}
use Rattle.rules.specs.04-Schema.{Kind, Presence, Application, End}
use Rattle.rules.specs.06-Good.{presence_before, application_before, end_before}
use Rattle.rules.specs.07-Picture.{sds_width, sds_row, type_width, type_row, presence_width, presence_row, application_width, application_row}
use Rattle.rules.specs.07-Picture.{end_width, end_row, table}
use Rattle.rules.specs.Read.{strip, read_kind, read_presence, read_application, read_end}
use Rattle.rows.specs.Rows.{part, rows, filled, Halved, Rising}
use Rattle.rows.specs.Order.{ranked}

-- where its first row starts, how wide a row is, how many there is room for; the bytes of a thing, and what bytes show
pub record Table (A : Type 0) : Type 0 where
  pub start : ℕ
  pub width : ℕ
  pub room : ℕ
  pub row : A → List ℕ
  pub read : List ℕ → A

module _ {A : Type 0} (t : Table A) where
  -- where row i starts, and where the table ends
  abbrev pub at : ℕ → ℕ
  at i = t.start + i * t.width

  abbrev pub end : ℕ
  end = t.start + t.room * t.width

  -- the bytes of row i, and what they show
  abbrev pub row_of : List ℕ → ℕ → List ℕ
  row_of b i = part b (at i) t.width

  abbrev pub shown : List ℕ → ℕ → A
  shown b i = t.read (row_of b i)

  -- a thing whose row is not all 0, as an unused row is
  abbrev pub Used : A → Type 0
  Used a = t.row a ≡ replicate t.width 0 → ⊥

  abbrev pub used_rows : List ℕ → ℕ
  used_rows b = filled t.width t.room (drop t.start b)

  -- what the first n rows show
  abbrev pub first_things : ℕ → List ℕ → List A
  first_things n b = rows t.width t.read n (drop t.start b)

  abbrev pub things : List ℕ → List A
  things b = first_things (used_rows b) b

  -- the bytes of a table that holds these things
  abbrev pub bytes_of : List A → List ℕ
  bytes_of rs = table t.width t.row t.room rs

  -- each of n rows is as it would be written, and the room behind them is zero
  abbrev pub Written : ℕ → List ℕ → Type 0
  Written n b = (i : ℕ) → i < n → t.row (shown b i) ≡ row_of b i

  abbrev pub BlankFrom : ℕ → List ℕ → Type 0
  BlankFrom n b = part b (at n) ((t.room - n) * t.width) ≡ replicate ((t.room - n) * t.width) 0

-- ---- the five, each behind the one before

abbrev pub sdss : Table Name
sdss = record { start = 0; width = sds_width; room = limits.sdss; row = sds_row; read = strip }

abbrev pub types : Table Kind
types = record { start = end sdss; width = type_width; room = limits.types; row = type_row; read = read_kind }

abbrev pub presences : Table Presence
presences = record { start = end types; width = presence_width; room = limits.presences; row = presence_row; read = read_presence }

abbrev pub applications : Table Application
applications =
    record { start = end presences; width = application_width; room = limits.applications; row = application_row; read = read_application }

abbrev pub ends : Table End
ends = record { start = end applications; width = end_width; room = limits.ends; row = end_row; read = read_end }

-- r is the count of presences, if the first is used and of those behind it the used ones, none of them in SDS 0, stand before the others
pub record PresencesHalved (b : List ℕ) (r : ℕ) : Type 0 where
  pub behind : ℕ
  pub is : r ≡ suc behind
  pub halved : Halved b (at presences 1) presences.width (limits.presences - 1) behind

-- ---- the three whose rows rise

-- its things stand in this order, and so do their rows, the SDS first, then a name of `named` bytes; a thing that is fit is read back from
-- its row, and its row stands where it does
pub record Sorted {A : Type 0} (t : Table A) : Type 1 where
  pub before : A → A → Bool
  pub sds : A → ℕ
  pub named : ℕ
  pub Fit : A → Type 0

abbrev pub by_name : Sorted presences
by_name = record { before = presence_before; sds = λ p. p.sds; named = limits.name; Fit = λ p. blank p.name || well_formed p.name ≡ true }

abbrev pub by_application : Sorted applications
by_application = record { before = application_before; sds = λ x. x.sds; named = 0; Fit = λ x. Unit {0} }

abbrev pub by_end : Sorted ends
by_end = record { before = end_before; sds = λ e. e.sds; named = 0; Fit = λ e. Unit {0} }

-- n rows rise
abbrev pub InOrder : {A : Type 0} {t : Table A} → Sorted t → List ℕ → ℕ → Type 0
InOrder {t = t} o b n = Rising (λ i. ranked o.named (row_of t b i)) n
