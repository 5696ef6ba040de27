-- 01, "Things in a base", as a value: names, types, presences, applications, ends. What is allowed of them is said in 06-Good.
use Rattle.std.specs.Prelude.{ℕ, ◌-◌, ◌/◌, ◌%◌, ◌^◌, List, [], ◌∷◌, Bool, not, ◌&&◌, ltb, eqb, get_or, replicate}
use Rattle.rules.specs.01-Lists.{bytes, any, first, among}
use Rattle.rules.specs.02-Limits.{limits}
use Rattle.rules.specs.03-Names.{Name, blank, same_name}

-- "A type has a number 0 to 127 and a kind. What belongs to a type is the same in every SDS."
-- "A designation type has no reverse. Every other has exactly one."
pub data Kind : Type 0 where
  unused : Kind
  -- its parents
  object : List ℕ → Kind
  -- its value kind: "0 boolean, 1 integer, 2 natural, 3 float, 4 time, 5 string"
  attribute : ℕ → Kind
  -- a link type of category 4
  designation : Kind
  -- a link type of another category, "0 composition, 1 existence, 2 reference, 3 implicit", and its reverse
  paired : ℕ → ℕ → Kind

-- a set of modes, as a sum: create 1, delete 2, read 4, write 8, navigate 16 (000, 10.1.2)
abbrev pub Modes : Type 0
Modes = ℕ

-- "all five" (02, Q-2)
abbrev pub all_modes : Modes
all_modes = 31

-- mode m is in the set: 0 create, 1 delete, 2 read, 3 write, 4 navigate
unfoldable pub has_mode : Modes → ℕ → Bool
has_mode modes m = eqb (modes / 2 ^ m % 2) 1

-- "A presence says that a type is in an SDS, under a local name"; where its name is blank it is nameless (02, Q-8). "Each presence gains
-- two sets of modes, usage and definition, out of create, delete, read, write and navigate." (02, Q-2)
pub record Presence : Type 0 where
  pub sds : ℕ
  pub name : Name
  pub type : ℕ
  pub usage : Modes
  pub definition : Modes

-- "New types, imports and a fresh base get all five." (02, Q-2)
abbrev pub new_presence : ℕ → Name → ℕ → Presence
new_presence d n t = record { sds = d; name = n; type = t; usage = all_modes; definition = all_modes }

-- a presence with these modes
abbrev pub with_modes : Modes → Modes → Presence → Presence
with_modes usage definition p = record { sds = p.sds; name = p.name; type = p.type; usage = usage; definition = definition }

-- "Within an SDS an attribute type may be applied to an object or link type"
pub record Application : Type 0 where
  pub sds : ℕ
  pub to : ℕ
  pub attribute : ℕ

-- "a link type has ends: origins and destinations, object types"
pub data Side : Type 0 where
  origin : Side
  destination : Side

pub record End : Type 0 where
  pub sds : ℕ
  pub link : ℕ
  pub side : Side
  pub object : ℕ

pub record Schema : Type 0 where
  -- by SDS number; a blank name: the number is unused
  pub sdss : List Name
  -- by type number
  pub types : List Kind
  pub presences : List Presence
  pub applications : List Application
  pub ends : List End

-- "A fresh base has SDS 0 "system", holding type 0 "object", and nothing else."
abbrev pub system_name : Name
system_name = bytes "system"

abbrev pub system_presence : Presence
system_presence = new_presence 0 (bytes "object") 0

unfoldable pub fresh : Schema
fresh = record {
  sdss = system_name ∷ replicate (limits.sdss - 1) [];
  types = object [] ∷ replicate (limits.types - 1) unused;
  presences = system_presence ∷ [];
  applications = [];
  ends = [];
}

-- ---- a schema with one table changed

abbrev pub with_sdss : Schema → List Name → Schema
with_sdss s ns = record { sdss = ns; types = s.types; presences = s.presences; applications = s.applications; ends = s.ends }

abbrev pub with_types : Schema → List Kind → Schema
with_types s ks = record { sdss = s.sdss; types = ks; presences = s.presences; applications = s.applications; ends = s.ends }

abbrev pub with_presences : Schema → List Presence → Schema
with_presences s ps = record { sdss = s.sdss; types = s.types; presences = ps; applications = s.applications; ends = s.ends }

abbrev pub with_applications : Schema → List Application → Schema
with_applications s xs = record { sdss = s.sdss; types = s.types; presences = s.presences; applications = xs; ends = s.ends }

abbrev pub with_ends : Schema → List End → Schema
with_ends s es = record { sdss = s.sdss; types = s.types; presences = s.presences; applications = s.applications; ends = es }

-- ---- SDSs

abbrev pub sds_name : Schema → ℕ → Name
sds_name s d = get_or s.sdss d []

unfoldable pub used_sds : Schema → ℕ → Bool
used_sds s d = not (blank (sds_name s d))

-- ---- types

abbrev pub kind_of : Schema → ℕ → Kind
kind_of s t = get_or s.types t unused

-- 0 unused, 1 object, 2 attribute, 3 link: a code for each kind, which a row of the base holds too
abbrev pub kind_code : Kind → ℕ
kind_code unused = 0
kind_code (object ps) = 1
kind_code (attribute v) = 2
kind_code designation = 3
kind_code (paired c r) = 3

abbrev pub is_used : Kind → Bool
is_used k = ltb 0 (kind_code k)

abbrev pub is_object : Kind → Bool
is_object k = eqb (kind_code k) 1

abbrev pub is_attribute : Kind → Bool
is_attribute k = eqb (kind_code k) 2

abbrev pub is_link : Kind → Bool
is_link k = eqb (kind_code k) 3

abbrev pub parents_in : Kind → List ℕ
parents_in unused = []
parents_in (object ps) = ps
parents_in (attribute v) = []
parents_in designation = []
parents_in (paired c r) = []

abbrev pub reverse_in : Kind → List ℕ
reverse_in unused = []
reverse_in (object ps) = []
reverse_in (attribute v) = []
reverse_in designation = []
reverse_in (paired c r) = r ∷ []

-- the parents of a type, none where it is no object type
unfoldable pub parents : Schema → ℕ → List ℕ
parents s t = parents_in (kind_of s t)

-- a is a parent of t
unfoldable pub is_parent : Schema → ℕ → ℕ → Bool
is_parent s t a = among (parents s t) a

-- the reverse of a type, if it has one
unfoldable pub reverse : Schema → ℕ → List ℕ
reverse s t = reverse_in (kind_of s t)

-- a type, and its reverse if it has one
abbrev pub with_reverse : Schema → ℕ → List ℕ
with_reverse s t = t ∷ reverse s t

-- ---- presences

abbrev pub holds_type : ℕ → ℕ → Presence → Bool
holds_type d t p = eqb p.sds d && eqb p.type t

abbrev pub holds_name : ℕ → Name → Presence → Bool
holds_name d n p = eqb p.sds d && same_name p.name n

-- type t is in SDS d
unfoldable pub present : Schema → ℕ → ℕ → Bool
present s d t = any (holds_type d t) s.presences

-- some type in SDS d bears the local name n. "a name looked for never finds a nameless one" (02, Q-8): a blank name is 4 before it is
-- looked for, and no other is the same as a blank one
unfoldable pub bears : Schema → ℕ → Name → Bool
bears s d n = any (holds_name d n) s.presences

-- what a search that fails hands back: it is never told, since each call refuses first
abbrev pub nowhere : Presence
nowhere = record { sds = 0; name = []; type = 0; usage = 0; definition = 0 }

-- the type that bears the local name n in SDS d
unfoldable pub type_named : Schema → ℕ → Name → ℕ
type_named s d n = (first (holds_name d n) nowhere s.presences).type

-- the presence of type t in SDS d, and its local name there
abbrev pub type_presence : Schema → ℕ → ℕ → Presence
type_presence s d t = first (holds_type d t) nowhere s.presences

unfoldable pub local_name : Schema → ℕ → ℕ → Name
local_name s d t = (type_presence s d t).name

-- ---- applications and ends

abbrev pub is_application : ℕ → ℕ → ℕ → Application → Bool
is_application d t a x = eqb x.sds d && (eqb x.to t && eqb x.attribute a)

-- attribute type a is applied to type t in SDS d
unfoldable pub applied : Schema → ℕ → ℕ → ℕ → Bool
applied s d t a = any (is_application d t a) s.applications

abbrev pub side_code : Side → ℕ
side_code origin = 0
side_code destination = 1

abbrev pub other_side : Side → Side
other_side origin = destination
other_side destination = origin

abbrev pub is_end : ℕ → ℕ → Side → ℕ → End → Bool
is_end d l side o e = eqb e.sds d && (eqb e.link l && (eqb (side_code e.side) (side_code side) && eqb e.object o))

-- object type o is an origin, or a destination, of link type l in SDS d
unfoldable pub has_end : Schema → ℕ → ℕ → Side → ℕ → Bool
has_end s d l side o = any (is_end d l side o) s.ends
