-- `Good` and its parts are the same, and a part that speaks of types and presences holds over others that are like them. Assumes nothing.
use Prim.Native.Nat.{ℕ}
use mathlib.Core.Path.{◌≡◌, refl, ap, ◌∙◌, subst₂}
use mathlib.Core.List.{List, []}
use mathlib.Core.Bool.{Bool, true, false, ◌||◌}
use lib.Dec.{eqb}
use borrow.Author.Tests.{eqb-true, eq-eqb}
use Rattle.rules.specs.01-Lists.{◌∈◌}
use Rattle.rules.specs.04-Schema.{Schema, Kind, Presence, Application, End, used_sds, kind_of, is_object, is_attribute, is_link, parents, holds_type}
use Rattle.rules.specs.04-Schema.{present, has_end}
use Rattle.rules.specs.04-Schema.Kind.{object}
use Rattle.rules.specs.05-Descent.{Parent}
use Rattle.rules.specs.06-Good.{Good}
use Rattle.rules.specs.Parts.{of_types, of_presences, ClosedUnder, ApplicationFits, EndFits, Parts}
use Rattle.rules.proofs.Bools.{and_both, and_of}
use Rattle.rules.proofs.01-Lists.{any_at, any_where}
use Rattle.rules.proofs.05-Descent.{descends_over}
use Rattle.rules.proofs.06-Good.{system_lacks}

-- ---- what is present

-- a presence makes its type present in its SDS, and a type is present by a presence
pub presence_there : {ps : List Presence} {p : Presence} → p ∈ ps → present (of_presences ps) p.sds p.type ≡ true
unfolding present
presence_there {p = p} i =
    any_at (holds_type p.sds p.type) i
    (and_of (eqb p.sds p.sds) (eqb p.type p.type) (eq-eqb p.sds p.sds refl) (eq-eqb p.type p.type refl))

pub presence_of : (ps : List Presence) (d t : ℕ) → present (of_presences ps) d t ≡ true
    → (p : Presence) × (p ∈ ps) × (p.sds ≡ d) × (p.type ≡ t)
unfolding present
presence_of ps d t e =
    let (p, i, h) = any_where (holds_type d t) ps e in
    let (a, b) = and_both (eqb p.sds d) (eqb p.type t) h in
    (p, i, eqb-true p.sds d a, eqb-true p.type t b)

-- what holds of every presence holds wherever a type is present
pub present_each : (ps : List Presence) (P : ℕ → ℕ → Type 0) → ((p : Presence) → p ∈ ps → P p.sds p.type)
    → (d t : ℕ) → present (of_presences ps) d t ≡ true → P d t
present_each ps P f d t e = let (p, i, a, b) = presence_of ps d t e in subst₂ P a b (f p i)

-- ---- a parent is one by the types alone

module _ {s : Schema} where
  pub parent_in : (t a : ℕ) → Parent s t a → Parent (of_types s.types) t a
  unfolding parents
  parent_in t a p = record { listed = p.listed }

  pub parent_of : (t a : ℕ) → Parent (of_types s.types) t a → Parent s t a
  unfolding parents
  parent_of t a p = record { listed = p.listed }

-- ---- taken apart, and put together

pub parts_of : {s : Schema} → Good s → Parts s
unfolding used_sds present has_end
parts_of {s} g = record {
  sdss = record { room = g.sds_room; named = g.sds_named; unique = g.sds_names_unique; system = g.system_named };
  types = record {
    kinds = record { room = g.type_room; few = g.parents_few; value_kinds = g.value_kinds; categories = g.categories };
    parents = record {
      rises = g.parents_rising;
      objects = λ t a p. g.parents_objects t a (parent_of t a p);
      root = g.root;
      only_root = g.only_root;
    };
    reverses = record { different = g.reverse_different; in_turn = g.reverse_in_turn; not_both = g.not_both_implicit };
    acyclic = λ t d. g.acyclic t (descends_over parent_of d);
  };
  presences = record {
    rows = record {
      room = g.presence_room;
      in_used = g.presence_sds;
      named = g.presence_named;
      known = g.modes_known;
      unique = g.local_names_unique;
      system = g.system_holds;
      system_alone = g.system_alone;
      rises = g.presences_rising;
    };
    once = g.one_presence;
    typed = g.presence_type;
    nameless = g.nameless_object;
    closed = λ p i. record {
      parents = λ a by. g.parents_present p.sds p.type a (presence_there i) (parent_of p.type a by);
      reverse = λ c r k. g.reverse_present p.sds p.type c r (presence_there i) k;
    };
    alike = g.reverse_modes;
    somewhere = g.somewhere;
  };
  applications = record {
    rows = record { room = g.application_room; rises = g.applications_rising };
    each = λ x i. record { attribute = g.applied_attribute x i; to = g.applied_to x i; within = g.application_present x i };
  };
  ends = record {
    rows = record { room = g.end_room; rises = g.ends_rising };
    each = λ e i. record { link = g.end_link e i; object = g.end_object e i; within = g.end_present e i };
    mirrored = g.mirrored;
  };
}

pub whole : {s : Schema} → Parts s → Good s
unfolding used_sds present has_end
whole {s} p = record {
  sds_room = p.sdss.room;
  type_room = p.types.kinds.room;
  presence_room = p.presences.rows.room;
  application_room = p.applications.rows.room;
  end_room = p.ends.rows.room;
  sds_named = p.sdss.named;
  sds_names_unique = p.sdss.unique;
  presence_type = p.presences.typed;
  presence_sds = p.presences.rows.in_used;
  presence_named = p.presences.rows.named;
  nameless_object = p.presences.nameless;
  modes_known = p.presences.rows.known;
  local_names_unique = p.presences.rows.unique;
  one_presence = p.presences.once;
  parents_few = p.types.kinds.few;
  parents_rising = p.types.parents.rises;
  parents_objects = λ t a by. p.types.parents.objects t a (parent_in t a by);
  root = p.types.parents.root;
  only_root = p.types.parents.only_root;
  value_kinds = p.types.kinds.value_kinds;
  categories = p.types.kinds.categories;
  reverse_different = p.types.reverses.different;
  reverse_in_turn = p.types.reverses.in_turn;
  not_both_implicit = p.types.reverses.not_both;
  applied_attribute = λ x i. (p.applications.each x i).attribute;
  applied_to = λ x i. (p.applications.each x i).to;
  application_present = λ x i. (p.applications.each x i).within;
  end_link = λ e i. (p.ends.each e i).link;
  end_object = λ e i. (p.ends.each e i).object;
  end_present = λ e i. (p.ends.each e i).within;
  system_named = p.sdss.system;
  system_holds = p.presences.rows.system;
  system_alone = p.presences.rows.system_alone;
  system_no_application = λ x i.
      let a = p.applications.each x i in
      lacks is_attribute refl x.sds x.attribute a.attribute (and_both (held x.sds x.to) (held x.sds x.attribute) a.within).1;
  system_no_end = λ e i.
      let a = p.ends.each e i in
      lacks is_link refl e.sds e.link a.link (and_both (held e.sds e.link) (held e.sds e.object) a.within).0;
  presences_rising = p.presences.rows.rises;
  applications_rising = p.applications.rows.rises;
  ends_rising = p.ends.rows.rises;
  acyclic = λ t d. p.types.acyclic t (descends_over parent_in d);
  somewhere = p.presences.somewhere;
  parents_present = λ d t a e by. (at d t e).parents a (parent_in t a by);
  reverse_present = λ d t c r e k. (at d t e).reverse c r k;
  reverse_modes = p.presences.alike;
  mirrored = p.ends.mirrored;
}
  where
    held : ℕ → ℕ → Bool
    held = present s

    lacks : (test : Kind → Bool) → test (object []) ≡ false → (d t : ℕ) → test (kind_of s t) ≡ true → held d t ≡ true → d ≡ 0 → ⊥
    lacks = system_lacks s p.types.parents.root p.presences.rows.system_alone

    at : (d t : ℕ) → present (of_presences s.presences) d t ≡ true → ClosedUnder s.types (present (of_presences s.presences) d) t
    at = present_each s.presences (λ d t. ClosedUnder s.types (present (of_presences s.presences) d) t) p.presences.closed

-- ---- over other types, and an SDS that holds others

module _ {ks : List Kind} {held held' : ℕ → Bool} where
  pub closed_over : {t : ℕ} → ((u : ℕ) → held u ≡ true → held' u ≡ true) → ClosedUnder ks held t → ClosedUnder ks held' t
  closed_over still c = record { parents = λ a by. still a (c.parents a by); reverse = λ b r k. still r (c.reverse b r k) }

-- where the two types of a row are what they were, and are held
module _ {ks ks' : List Kind} {held held' : ℕ → Bool} where
  pub applied_over : {x : Application} → ApplicationFits ks held x
      → kind_of (of_types ks') x.to ≡ kind_of (of_types ks) x.to → kind_of (of_types ks') x.attribute ≡ kind_of (of_types ks) x.attribute
      → held' x.to ≡ true → held' x.attribute ≡ true → ApplicationFits ks' held' x
  applied_over {x} g to attribute h i = record {
    attribute = ap is_attribute attribute ∙ g.attribute;
    to = ap (λ (k : Kind). is_object k || is_link k) to ∙ g.to;
    within = and_of (held' x.to) (held' x.attribute) h i;
  }

  pub ended_over : {e : End} → EndFits ks held e
      → kind_of (of_types ks') e.link ≡ kind_of (of_types ks) e.link → kind_of (of_types ks') e.object ≡ kind_of (of_types ks) e.object
      → held' e.link ≡ true → held' e.object ≡ true → EndFits ks' held' e
  ended_over {e} g same-link same_object h i = record {
    link = ap is_link same-link ∙ g.link;
    object = ap is_object same_object ∙ g.object;
    within = and_of (held' e.link) (held' e.object) h i;
  }

-- the two types of a row are held
module _ {ks : List Kind} {held : ℕ → Bool} where
  pub applied_held : {x : Application} → ApplicationFits ks held x → (held x.to ≡ true) × (held x.attribute ≡ true)
  applied_held {x} g = and_both (held x.to) (held x.attribute) g.within

  pub ended_held : {e : End} → EndFits ks held e → (held e.link ≡ true) × (held e.object ≡ true)
  ended_held {e} g = and_both (held e.link) (held e.object) g.within
