-- The way back: what the bytes of a row show. No numbered file uses it; the contracts of the code do, which speak of the schema
-- that any bytes show. That a row is read back as what it was written from is a law (proofs/07-Picture).
use Rattle.std.specs.Prelude.{ℕ, zero, suc, ◌+◌, List, [], ◌∷◌, cond, eqb, get_or, take, drop}
use Rattle.rules.specs.02-Limits.{limits}
use Rattle.rules.specs.04-Schema.{Kind, Presence, Application, Side, End}
use Rattle.rules.specs.04-Schema.Kind.{unused, object, attribute, designation, paired}
use Rattle.rules.specs.04-Schema.Side.{origin, destination}

-- Which byte of its row holds what. The first byte is a type's kind, and the SDS of a presence, an application or an end.

-- a type: its value kind or category; its reverse; the number of its parents; the first parent
abbrev pub value_offset : ℕ
value_offset = 1

abbrev pub reverse_offset : ℕ
reverse_offset = 2

abbrev pub count_offset : ℕ
count_offset = 3

abbrev pub parents_offset : ℕ
parents_offset = 4

-- a presence: the first byte of its name; its type; its modes
abbrev pub name_offset : ℕ
name_offset = 1

abbrev pub type_offset : ℕ
type_offset = name_offset + limits.name

abbrev pub usage_offset : ℕ
usage_offset = type_offset + 1

abbrev pub definition_offset : ℕ
definition_offset = usage_offset + 1

-- an application: the type that has the attribute type; the attribute type
abbrev pub to_offset : ℕ
to_offset = 1

abbrev pub attribute_offset : ℕ
attribute_offset = 2

-- an end: the link type; the side; the object type
abbrev pub link_offset : ℕ
link_offset = 1

abbrev pub side_offset : ℕ
side_offset = 2

abbrev pub object_offset : ℕ
object_offset = 3

-- what stands before the first zero
unfoldable pub strip : List ℕ → List ℕ
strip [] = []
strip (zero ∷ l) = []
strip (suc x ∷ l) = suc x ∷ strip l

-- the kind that a row shows
unfoldable pub read_kind : List ℕ → Kind
read_kind r =
    cond (eqb (get_or r 0 0) 1) (object (take (get_or r count_offset 0) (drop parents_offset r)))
    (cond (eqb (get_or r 0 0) 2) (attribute (get_or r value_offset 0))
    (cond (eqb (get_or r 0 0) 3) (cond (eqb (get_or r value_offset 0) 4) designation (paired (get_or r value_offset 0) (get_or r reverse_offset 0)))
    unused))

unfoldable pub read_presence : List ℕ → Presence
read_presence r = record {
  sds = get_or r 0 0;
  name = strip (take limits.name (drop name_offset r));
  type = get_or r type_offset 0;
  usage = get_or r usage_offset 0;
  definition = get_or r definition_offset 0;
}

unfoldable pub read_application : List ℕ → Application
read_application r = record { sds = get_or r 0 0; to = get_or r to_offset 0; attribute = get_or r attribute_offset 0 }

unfoldable pub read_side : ℕ → Side
read_side zero = origin
read_side (suc n) = destination

unfoldable pub read_end : List ℕ → End
read_end r = record { sds = get_or r 0 0; link = get_or r link_offset 0; side = read_side (get_or r side_offset 0); object = get_or r object_offset 0 }
