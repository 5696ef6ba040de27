-- `Good` taken apart by tables, over their lists alone, so that a change of one table leaves the other parts as they are. The checks of
-- a base decide these parts, and the rules keep them. Not to be believed: `parts_of` and `whole` of proofs/Parts show that it is `Good`.
use Rattle.std.specs.Prelude.{ℕ, ◌≤◌, ◌≡◌, List, [], Bool, true, false, ◌&&◌, ◌||◌, ltb, length, get_or}
use Rattle.rules.specs.01-Lists.{◌∈◌, rising}
use Rattle.rules.specs.02-Limits.{limits}
use Rattle.rules.specs.03-Names.{Name, blank, well_formed, same_name}
use Rattle.rules.specs.04-Schema.{Schema, Kind, Presence, Application, End, system_name, system_presence, used_sds, kind_of, is_used, is_object}
use Rattle.rules.specs.04-Schema.{is_attribute, is_link, present, has_end, other_side}
use Rattle.rules.specs.06-Good.{presence_before, application_before, end_before, KnownModes, SameModes}
use Rattle.rules.specs.04-Schema.Kind.{object, attribute, paired}
use Rattle.rules.specs.05-Descent.{Parent, Descends}

-- a schema that has this table and no other
abbrev pub of_sdss : List Name → Schema
of_sdss ns = record { sdss = ns; types = []; presences = []; applications = []; ends = [] }

abbrev pub of_types : List Kind → Schema
of_types ks = record { sdss = []; types = ks; presences = []; applications = []; ends = [] }

abbrev pub of_presences : List Presence → Schema
of_presences ps = record { sdss = []; types = []; presences = ps; applications = []; ends = [] }

abbrev pub of_ends : List End → Schema
of_ends es = record { sdss = []; types = []; presences = []; applications = []; ends = es }

-- ---- SDSs

pub record Sdss (ns : List Name) : Type 0 where
  pub room : length ns ≡ limits.sdss
  pub named : (d : ℕ) → used_sds (of_sdss ns) d ≡ true → well_formed (get_or ns d []) ≡ true
  pub unique : (d e : ℕ) → used_sds (of_sdss ns) d ≡ true → used_sds (of_sdss ns) e ≡ true → same_name (get_or ns d []) (get_or ns e []) ≡ true → d ≡ e
  pub system : get_or ns 0 [] ≡ system_name

-- ---- types

-- each kind by itself
pub record Kinds (ks : List Kind) : Type 0 where
  pub room : length ks ≡ limits.types
  pub few : (t : ℕ) (ps : List ℕ) → kind_of (of_types ks) t ≡ object ps → length ps ≤ 4
  pub value_kinds : (t v : ℕ) → kind_of (of_types ks) t ≡ attribute v → v ≤ 5
  pub categories : (t c r : ℕ) → kind_of (of_types ks) t ≡ paired c r → c ≤ 3

pub record Parents (ks : List Kind) : Type 0 where
  pub rises : (t : ℕ) (ps : List ℕ) → kind_of (of_types ks) t ≡ object ps → rising ltb ps ≡ true
  pub objects : (t a : ℕ) → Parent (of_types ks) t a → is_object (kind_of (of_types ks) a) ≡ true
  pub root : kind_of (of_types ks) 0 ≡ object []
  pub only_root : (t : ℕ) → kind_of (of_types ks) t ≡ object [] → t ≡ 0

pub record Reverses (ks : List Kind) : Type 0 where
  pub different : (t c r : ℕ) → kind_of (of_types ks) t ≡ paired c r → r ≡ t → ⊥
  pub in_turn : (t c r : ℕ) → kind_of (of_types ks) t ≡ paired c r → (c' : ℕ) × (kind_of (of_types ks) r ≡ paired c' t)
  pub not_both : (t r : ℕ) → kind_of (of_types ks) t ≡ paired 3 r → kind_of (of_types ks) r ≡ paired 3 t → ⊥

abbrev pub Acyclic : List Kind → Type 0
Acyclic ks = (t : ℕ) → Descends (of_types ks) t t → ⊥

pub record Types (ks : List Kind) : Type 0 where
  pub kinds : Kinds ks
  pub parents : Parents ks
  pub reverses : Reverses ks
  pub acyclic : Acyclic ks

-- ---- presences

-- each row by itself, and their order
pub record PresenceRows (ns : List Name) (ps : List Presence) : Type 0 where
  pub room : length ps ≤ limits.presences
  pub in_used : (p : Presence) → p ∈ ps → used_sds (of_sdss ns) p.sds ≡ true
  pub named : (p : Presence) → p ∈ ps → blank p.name || well_formed p.name ≡ true
  pub known : (p : Presence) → p ∈ ps → KnownModes p
  pub unique : (p q : Presence) → p ∈ ps → q ∈ ps → p.sds ≡ q.sds → blank p.name ≡ false → same_name p.name q.name ≡ true → p ≡ q
  pub system : system_presence ∈ ps
  pub system_alone : (p : Presence) → p ∈ ps → p.sds ≡ 0 → p ≡ system_presence
  pub rises : rising presence_before ps ≡ true

abbrev pub Once : List Presence → Type 0
Once ps = (p q : Presence) → p ∈ ps → q ∈ ps → p.sds ≡ q.sds → p.type ≡ q.type → p ≡ q

abbrev pub Typed : List Kind → List Presence → Type 0
Typed ks ps = (p : Presence) → p ∈ ps → is_used (kind_of (of_types ks) p.type) ≡ true

abbrev pub Nameless : List Kind → List Presence → Type 0
Nameless ks ps = (p : Presence) → p ∈ ps → blank p.name ≡ true → is_object (kind_of (of_types ks) p.type) ≡ true

-- an SDS that holds these types holds with t its parents and its reverse
pub record ClosedUnder (ks : List Kind) (held : ℕ → Bool) (t : ℕ) : Type 0 where
  pub parents : (a : ℕ) → Parent (of_types ks) t a → held a ≡ true
  pub reverse : (c r : ℕ) → kind_of (of_types ks) t ≡ paired c r → held r ≡ true

abbrev pub Closed : List Kind → List Presence → Type 0
Closed ks ps = (p : Presence) → p ∈ ps → ClosedUnder ks (present (of_presences ps) p.sds) p.type

abbrev pub Somewhere : List Kind → List Presence → Type 0
Somewhere ks ps = (t : ℕ) → is_used (kind_of (of_types ks) t) ≡ true → (d : ℕ) × (present (of_presences ps) d t ≡ true)

abbrev pub Alike : List Kind → List Presence → Type 0
Alike ks ps = (p q : Presence) → p ∈ ps → q ∈ ps → p.sds ≡ q.sds → (c : ℕ) → kind_of (of_types ks) p.type ≡ paired c q.type → SameModes p q

pub record Presences (ns : List Name) (ks : List Kind) (ps : List Presence) : Type 0 where
  pub rows : PresenceRows ns ps
  pub once : Once ps
  pub typed : Typed ks ps
  pub nameless : Nameless ks ps
  pub closed : Closed ks ps
  pub alike : Alike ks ps
  pub somewhere : Somewhere ks ps

-- ---- applications and ends

-- rows in order; that none is in SDS 0 follows from what it holds (`system_lacks`)
pub record Ordered {A : Type 0} (most : ℕ) (before : A → A → Bool) (rows : List A) : Type 0 where
  pub room : length rows ≤ most
  pub rises : rising before rows ≡ true

abbrev pub ApplicationRows : List Application → Type 0
ApplicationRows xs = Ordered limits.applications application_before xs

abbrev pub EndRows : List End → Type 0
EndRows es = Ordered limits.ends end_before es

-- an application in an SDS that holds these types
pub record ApplicationFits (ks : List Kind) (held : ℕ → Bool) (x : Application) : Type 0 where
  pub attribute : is_attribute (kind_of (of_types ks) x.attribute) ≡ true
  pub to : is_object (kind_of (of_types ks) x.to) || is_link (kind_of (of_types ks) x.to) ≡ true
  pub within : held x.to && held x.attribute ≡ true

abbrev pub ApplicationsFit : List Kind → List Presence → List Application → Type 0
ApplicationsFit ks ps xs = (x : Application) → x ∈ xs → ApplicationFits ks (present (of_presences ps) x.sds) x

pub record Applications (ks : List Kind) (ps : List Presence) (xs : List Application) : Type 0 where
  pub rows : ApplicationRows xs
  pub each : ApplicationsFit ks ps xs

-- an end in an SDS that holds these types, before its mirror is asked for
pub record EndFits (ks : List Kind) (held : ℕ → Bool) (e : End) : Type 0 where
  pub link : is_link (kind_of (of_types ks) e.link) ≡ true
  pub object : is_object (kind_of (of_types ks) e.object) ≡ true
  pub within : held e.link && held e.object ≡ true

abbrev pub EndsFit : List Kind → List Presence → List End → Type 0
EndsFit ks ps es = (e : End) → e ∈ es → EndFits ks (present (of_presences ps) e.sds) e

abbrev pub EndMirrored : List Kind → List End → End → Type 0
EndMirrored ks es e = (c r : ℕ) → kind_of (of_types ks) e.link ≡ paired c r → has_end (of_ends es) e.sds r (other_side e.side) e.object ≡ true

abbrev pub EndsMirrored : List Kind → List End → Type 0
EndsMirrored ks es = (e : End) → e ∈ es → EndMirrored ks es e

pub record Ends (ks : List Kind) (ps : List Presence) (es : List End) : Type 0 where
  pub rows : EndRows es
  pub each : EndsFit ks ps es
  pub mirrored : EndsMirrored ks es

-- ---- all of it

pub record Parts (s : Schema) : Type 0 where
  pub sdss : Sdss s.sdss
  pub types : Types s.types
  pub presences : Presences s.sdss s.types s.presences
  pub applications : Applications s.types s.presences s.applications
  pub ends : Ends s.types s.presences s.ends
