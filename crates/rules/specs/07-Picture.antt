-- A base is the picture of a schema in bytes: five tables, each of rows of one width, unused rows zero. (docs/LAYOUT.md)
use Rattle.std.specs.Prelude.{ℕ, zero, suc, ◌+◌, ◌*◌, ◌≡◌, List, [], ◌∷◌, ◌++◌, length, take, replicate}
use Rattle.rules.specs.02-Limits.{limits}
use Rattle.rules.specs.03-Names.{Name}
use Rattle.rules.specs.04-Schema.{Schema, Kind, Presence, Application, End, side_code}
use Rattle.rules.specs.04-Schema.Kind.{unused, object, attribute, designation, paired}
use Rattle.rules.specs.06-Good.{Good}

-- bytes in a field of w bytes, zeros behind them
unfoldable pub pad : ℕ → List ℕ → List ℕ
pad w l = take w (l ++ replicate w 0)

-- an SDS: its name, all zero where the number is unused
abbrev pub sds_width : ℕ
sds_width = limits.name

unfoldable pub sds_row : Name → List ℕ
sds_row n = pad limits.name n

-- a type: kind (0 unused, 1 object, 2 attribute, 3 link); value kind or category; reverse; number of parents; the parents
abbrev pub type_width : ℕ
type_width = 8

unfoldable pub type_row : Kind → List ℕ
type_row unused = pad type_width []
type_row (object ps) = 1 ∷ 0 ∷ 0 ∷ length ps ∷ pad 4 ps
type_row (attribute v) = pad type_width (2 ∷ v ∷ [])
type_row designation = pad type_width (3 ∷ 4 ∷ [])
type_row (paired c r) = pad type_width (3 ∷ c ∷ r ∷ [])

-- a presence: SDS; name; type; usage; definition
abbrev pub presence_width : ℕ
presence_width = limits.name + 4

unfoldable pub presence_row : Presence → List ℕ
presence_row p = p.sds ∷ (pad limits.name p.name ++ (p.type ∷ p.usage ∷ p.definition ∷ []))

-- an application: SDS; object or link type; attribute type
abbrev pub application_width : ℕ
application_width = 3

unfoldable pub application_row : Application → List ℕ
application_row x = x.sds ∷ x.to ∷ x.attribute ∷ []

-- an end: SDS; link type; side (0 origin, 1 destination); object type
abbrev pub end_width : ℕ
end_width = 4

unfoldable pub end_row : End → List ℕ
end_row e = e.sds ∷ e.link ∷ side_code e.side ∷ e.object ∷ []

module _ {A : Type 0} (width : ℕ) (row : A → List ℕ) where
  -- "Unused room is all zero": n rows, those of the list and then zero ones
  unfoldable pub table : ℕ → List A → List ℕ
  table zero rs = []
  table (suc n) [] = replicate width 0 ++ table n []
  table (suc n) (r ∷ rs) = row r ++ table n rs

abbrev pub sds_table : Schema → List ℕ
sds_table s = table sds_width sds_row limits.sdss s.sdss

abbrev pub type_table : Schema → List ℕ
type_table s = table type_width type_row limits.types s.types

abbrev pub presence_table : Schema → List ℕ
presence_table s = table presence_width presence_row limits.presences s.presences

abbrev pub application_table : Schema → List ℕ
application_table s = table application_width application_row limits.applications s.applications

abbrev pub end_table : Schema → List ℕ
end_table s = table end_width end_row limits.ends s.ends

unfoldable pub picture : Schema → List ℕ
picture s = sds_table s ++ (type_table s ++ (presence_table s ++ (application_table s ++ end_table s)))

-- "The team fixes the base's exact length in bytes": 14,336
abbrev pub base_length : ℕ
base_length =
    limits.sdss * sds_width + (limits.types * type_width + (limits.presences * presence_width
    + (limits.applications * application_width + limits.ends * end_width)))

-- "A base is sound when .. all above holds of it"
pub record Sound (base : List ℕ) : Type 0 where
  pub schema : Schema
  pub good : Good schema
  pub shown : base ≡ picture schema

-- "the stretch of the lent base that holds its local name": where the name of the presence that stands k-th starts
unfoldable pub name_start : Schema → ℕ → ℕ
name_start s k = length (sds_table s) + (length (type_table s) + (k * presence_width + 1))
