-- A schema as 01 allows it: a field for each sentence of "Things in a base" and of the paragraph on soundness. The order of the
-- presences, applications, ends and parents is the layout's; 01 asks no order, only that none is stored twice.
use Rattle.std.specs.Prelude.{ℕ, ◌≤◌, ◌≡◌, List, [], Bool, true, false, not, ◌&&◌, ◌||◌, ltb, eqb, length}
use Rattle.rules.specs.01-Lists.{◌∈◌, rising}
use Rattle.rules.specs.02-Limits.{limits}
use Rattle.rules.specs.03-Names.{blank, well_formed, same_name, name_before}
use Rattle.rules.specs.04-Schema.{Schema, Presence, Application, End, all_modes, system_name, system_presence, sds_name, used_sds, kind_of}
use Rattle.rules.specs.04-Schema.{is_used, is_object, is_attribute, is_link, present, has_end, side_code, other_side}
use Rattle.rules.specs.04-Schema.Kind.{object, attribute, paired}
use Rattle.rules.specs.05-Descent.{Parent, Descends}

-- ---- the order in which rows are kept: the layout's, not 01's

-- x comes before y; where they are the same, the rest decides
abbrev first_by : ℕ → ℕ → Bool → Bool
first_by x y rest = ltb x y || (eqb x y && rest)

-- by type, then usage, then definition
abbrev pub by_type : Presence → Presence → Bool
by_type p q = first_by p.type q.type (first_by p.usage q.usage (ltb p.definition q.definition))

-- by SDS, then name, then the rest of the row
unfoldable pub presence_before : Presence → Presence → Bool
presence_before p q = first_by p.sds q.sds (name_before p.name q.name || (not (name_before q.name p.name) && by_type p q))

-- by SDS, then the type applied to, then the attribute type
unfoldable pub application_before : Application → Application → Bool
application_before x y = first_by x.sds y.sds (first_by x.to y.to (ltb x.attribute y.attribute))

-- by SDS, then link type, then side, then object type
unfoldable pub end_before : End → End → Bool
end_before x y = first_by x.sds y.sds (first_by x.link y.link (first_by (side_code x.side) (side_code y.side) (ltb x.object y.object)))

-- ---- what a sound base keeps

-- no set has a mode that is none of the five
pub record KnownModes (p : Presence) : Type 0 where
  pub usage : p.usage ≤ all_modes
  pub definition : p.definition ≤ all_modes

pub record SameModes (p q : Presence) : Type 0 where
  pub usage : p.usage ≡ q.usage
  pub definition : p.definition ≡ q.definition

pub record Good (s : Schema) : Type 0 where
  -- "Room: 16 SDSs, 128 types, 512 presences, 256 applications, 512 ends."
  pub sds_room : length s.sdss ≡ limits.sdss
  pub type_room : length s.types ≡ limits.types
  pub presence_room : length s.presences ≤ limits.presences
  pub application_room : length s.applications ≤ limits.applications
  pub end_room : length s.ends ≤ limits.ends
  -- "An SDS has a number 0 to 15 and a name."
  pub sds_named : (d : ℕ) → used_sds s d ≡ true → well_formed (sds_name s d) ≡ true
  -- "Names are unique among SDSs"
  pub sds_names_unique : (d e : ℕ) → used_sds s d ≡ true → used_sds s e ≡ true → same_name (sds_name s d) (sds_name s e) ≡ true → d ≡ e
  -- "A presence says that a type is in an SDS, under a local name"
  pub presence_type : (p : Presence) → p ∈ s.presences → is_used (kind_of s p.type) ≡ true
  pub presence_sds : (p : Presence) → p ∈ s.presences → used_sds s p.sds ≡ true
  pub presence_named : (p : Presence) → p ∈ s.presences → blank p.name || well_formed p.name ≡ true
  -- "An object type's presence, no other, may therefore be nameless" (02, Q-8)
  pub nameless_object : (p : Presence) → p ∈ s.presences → blank p.name ≡ true → is_object (kind_of s p.type) ≡ true
  -- "two sets of modes, usage and definition, out of create, delete, read, write and navigate" (02, Q-2)
  pub modes_known : (p : Presence) → p ∈ s.presences → KnownModes p
  -- "unique in that SDS"; "uniqueness is among named ones only" (02, Q-8)
  pub local_names_unique : (p q : Presence) → p ∈ s.presences → q ∈ s.presences → p.sds ≡ q.sds → blank p.name ≡ false
      → same_name p.name q.name ≡ true → p ≡ q
  -- "A type has at most one in an SDS."
  pub one_presence : (p q : Presence) → p ∈ s.presences → q ∈ s.presences → p.sds ≡ q.sds → p.type ≡ q.type → p ≡ q
  -- "An object type has 1 to 4 different parents, all object types."
  pub parents_few : (t : ℕ) (ps : List ℕ) → kind_of s t ≡ object ps → length ps ≤ 4
  pub parents_rising : (t : ℕ) (ps : List ℕ) → kind_of s t ≡ object ps → rising ltb ps ≡ true
  pub parents_objects : (t a : ℕ) → Parent s t a → is_object (kind_of s a) ≡ true
  -- "Only type 0 has none."
  pub root : kind_of s 0 ≡ object []
  pub only_root : (t : ℕ) → kind_of s t ≡ object [] → t ≡ 0
  -- "An attribute type has a value kind: 0 boolean, .., 5 string."
  pub value_kinds : (t v : ℕ) → kind_of s t ≡ attribute v → v ≤ 5
  -- "A link type has a category: 0 composition, 1 existence, 2 reference, 3 implicit, 4 designation."
  pub categories : (t c r : ℕ) → kind_of s t ≡ paired c r → c ≤ 3
  -- "exactly one, a different type, which has it in turn"
  pub reverse_different : (t c r : ℕ) → kind_of s t ≡ paired c r → r ≡ t → ⊥
  pub reverse_in_turn : (t c r : ℕ) → kind_of s t ≡ paired c r → (c' : ℕ) × (kind_of s r ≡ paired c' t)
  -- "Two implicit types are never a pair."
  pub not_both_implicit : (t r : ℕ) → kind_of s t ≡ paired 3 r → kind_of s r ≡ paired 3 t → ⊥
  -- "an attribute type may be applied to an object or link type .. all these are present in that SDS"
  pub applied_attribute : (x : Application) → x ∈ s.applications → is_attribute (kind_of s x.attribute) ≡ true
  pub applied_to : (x : Application) → x ∈ s.applications → is_object (kind_of s x.to) || is_link (kind_of s x.to) ≡ true
  pub application_present : (x : Application) → x ∈ s.applications → present s x.sds x.to && present s x.sds x.attribute ≡ true
  -- "a link type has ends: origins and destinations, object types; all these are present in that SDS"
  pub end_link : (e : End) → e ∈ s.ends → is_link (kind_of s e.link) ≡ true
  pub end_object : (e : End) → e ∈ s.ends → is_object (kind_of s e.object) ≡ true
  pub end_present : (e : End) → e ∈ s.ends → present s e.sds e.link && present s e.sds e.object ≡ true
  -- "SDS 0 is as in a fresh base"
  pub system_named : sds_name s 0 ≡ system_name
  pub system_holds : system_presence ∈ s.presences
  pub system_alone : (p : Presence) → p ∈ s.presences → p.sds ≡ 0 → p ≡ system_presence
  pub system_no_application : (x : Application) → x ∈ s.applications → x.sds ≡ 0 → ⊥
  pub system_no_end : (e : End) → e ∈ s.ends → e.sds ≡ 0 → ⊥
  -- "no parent of a type, presence, application or end is stored twice" (the parents: parents_rising)
  pub presences_rising : rising presence_before s.presences ≡ true
  pub applications_rising : rising application_before s.applications ≡ true
  pub ends_rising : rising end_before s.ends ≡ true
  -- "no type is its own ancestor"
  pub acyclic : (t : ℕ) → Descends s t t → ⊥
  -- "each type is present somewhere"
  pub somewhere : (t : ℕ) → is_used (kind_of s t) ≡ true → (d : ℕ) × (present s d t ≡ true)
  -- "parents of a present type are present in that SDS"
  pub parents_present : (d t a : ℕ) → present s d t ≡ true → Parent s t a → present s d a ≡ true
  -- "a link type and its reverse are present in the same SDSs"
  pub reverse_present : (d t c r : ℕ) → present s d t ≡ true → kind_of s t ≡ paired c r → present s d r ≡ true
  -- "The definition modes of a link and of its reverse must be the same." (000, 8.4; 02 is silent on pairs)
  pub reverse_modes : (p q : Presence) → p ∈ s.presences → q ∈ s.presences → p.sds ≡ q.sds → (c : ℕ) → kind_of s p.type ≡ paired c q.type
      → SameModes p q
  -- "an object type is an origin of a link type in an SDS exactly when it is a destination of its reverse there"
  pub mirrored : (e : End) → e ∈ s.ends → (c r : ℕ) → kind_of s e.link ≡ paired c r
      → has_end s e.sds r (other_side e.side) e.object ≡ true
