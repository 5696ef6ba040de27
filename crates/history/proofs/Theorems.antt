-- What every good schema has, so every schema that calls can lead to. `Good s` is the only premise.
use Prim.Native.Nat.{ℕ, ◌<◌}
use mathlib.Core.Path.{◌≡◌, refl, ap, subst}
use mathlib.Core.List.{List}
use mathlib.Core.Bool.{Bool, true, false}
use lib.Dec.{eqb}
use lib.ListN.{length}
use borrow.Author.Tests.{eqb-true, eqb-false}
use Rattle.rules.specs.01-Lists.{◌∈◌}
use Rattle.rules.specs.03-Names.{blank, same_name}
use Rattle.rules.specs.04-Schema.{Schema, Presence, Application, End, used_sds, kind_of, is_used, is_object, present, has_end}
use Rattle.rules.specs.04-Schema.Kind.{paired}
use Rattle.rules.specs.04-Schema.Side.{origin, destination}
use Rattle.rules.specs.05-Descent.{Parent, Descends, Chain, members}
use Rattle.rules.specs.05-Descent.Descends.{by_parent, by_step}
use Rattle.rules.specs.05-Descent.Chain.{at_root, up}
use Rattle.rules.specs.06-Good.{Good}
use Rattle.rules.specs.13-History.{WholeList}
use Rattle.rules.proofs.Bools.{and_both, same_test}
use Rattle.rules.proofs.05-Descent as Descent
use Rattle.rules.proofs.05-Descent.{object_used}
use Rattle.rules.proofs.11-Asks.{whole_list}
use Rattle.history.proofs.KindLaws.{attribute_used, link_used, either_used}
use Rattle.rules.proofs.Parts.{presence_of}
use Rattle.history.proofs.EndChanges.{has_in}

-- nothing that is stored points at a thing that is not there
pub record NothingDangles (s : Schema) : Type 0 where
  -- a presence: its SDS and its type
  pub presence_sds : (p : Presence) → p ∈ s.presences → used_sds s p.sds ≡ true
  pub presence_type : (p : Presence) → p ∈ s.presences → is_used (kind_of s p.type) ≡ true
  -- an application: its SDS, and its two types, which are in that SDS
  pub application_sds : (x : Application) → x ∈ s.applications → used_sds s x.sds ≡ true
  pub application_to : (x : Application) → x ∈ s.applications → is_used (kind_of s x.to) ≡ true
  pub application_attribute : (x : Application) → x ∈ s.applications → is_used (kind_of s x.attribute) ≡ true
  pub application_to_there : (x : Application) → x ∈ s.applications → present s x.sds x.to ≡ true
  pub application_attribute_there : (x : Application) → x ∈ s.applications → present s x.sds x.attribute ≡ true
  -- an end: its SDS, and its two types, which are in that SDS
  pub end_sds : (e : End) → e ∈ s.ends → used_sds s e.sds ≡ true
  pub end_link : (e : End) → e ∈ s.ends → is_used (kind_of s e.link) ≡ true
  pub end_object : (e : End) → e ∈ s.ends → is_used (kind_of s e.object) ≡ true
  pub end_link_there : (e : End) → e ∈ s.ends → present s e.sds e.link ≡ true
  pub end_object_there : (e : End) → e ∈ s.ends → present s e.sds e.object ≡ true
  -- a type: its parents and its reverse
  pub parent : (t a : ℕ) → Parent s t a → is_used (kind_of s a) ≡ true
  pub reverse : (t c r : ℕ) → kind_of s t ≡ paired c r → is_used (kind_of s r) ≡ true

module _ {s : Schema} (good : Good s) where
  -- ---- descent

  -- "no type is its own ancestor"
  pub no_own_ancestor : (t : ℕ) → Descends s t t → ⊥
  no_own_ancestor = good.acyclic

  -- a chain of parents up to type 0 is descent from it
  chain_descends : {t n : ℕ} → Chain s t n → (t ≡ 0 → ⊥) → Descends s t 0
  chain_descends at_root other = absurd (other refl)
  chain_descends (up {t = t} {p = p} by c) other = go (eqb p 0) refl (chain_descends c)
    where
      go : (x : Bool) → eqb p 0 ≡ x → ((p ≡ 0 → ⊥) → Descends s p 0) → Descends s t 0
      go true q f = by_parent (subst (λ (a : ℕ). Parent s t a) (eqb-true p 0 q) by)
      go false q f = by_step by (f (eqb-false p 0 q))

  -- every object type but type 0 descends from it
  pub from_type_0 : (t : ℕ) → is_object (kind_of s t) ≡ true → (t ≡ 0 → ⊥) → Descends s t 0
  from_type_0 t o = chain_descends (Descent.depth_reached good t o)

  -- the longest chain of parents above a type has fewer steps than there are object types
  pub chain_short : (t n : ℕ) → Chain s t n → n < length (members (λ t. is_object (kind_of s t)))
  chain_short = Descent.chain_short good

  -- ---- what an SDS holds

  -- with a type its parents
  pub parents_there : (d t a : ℕ) → present s d t ≡ true → Parent s t a → present s d a ≡ true
  parents_there = good.parents_present

  -- and any reverse
  pub reverse_there : (d t c r : ℕ) → present s d t ≡ true → kind_of s t ≡ paired c r → present s d r ≡ true
  reverse_there = good.reverse_present

  -- no two of its types bear one local name
  pub local_names_unique : (p q : Presence) → p ∈ s.presences → q ∈ s.presences → p.sds ≡ q.sds → blank p.name ≡ false
      → same_name p.name q.name ≡ true → p ≡ q
  local_names_unique = good.local_names_unique

  -- a nameless one is an object type (02, Q-8)
  pub nameless_object : (p : Presence) → p ∈ s.presences → blank p.name ≡ true → is_object (kind_of s p.type) ≡ true
  nameless_object = good.nameless_object

  -- "an object type is an origin of a link type in an SDS exactly when it is a destination of its reverse there"
  pub origins_are_destinations : (d l c r o : ℕ) → kind_of s l ≡ paired c r → has_end s d l origin o ≡ has_end s d r destination o
  unfolding has_end
  origins_are_destinations d l c r o k =
      let (c', h) = good.reverse_in_turn l c r k in
      same_test (has_end s d l origin o) (has_end s d r destination o)
      (λ e. good.mirrored (record { sds = d; link = l; side = origin; object = o })
      (has_in s.ends (record { sds = d; link = l; side = origin; object = o }) e) c r k)
      (λ e. good.mirrored (record { sds = d; link = r; side = destination; object = o })
      (has_in s.ends (record { sds = d; link = r; side = destination; object = o }) e) c' l h)

  -- ---- what points at something

  -- what is in an SDS is in one that is used
  present_sds : (d t : ℕ) → present s d t ≡ true → used_sds s d ≡ true
  unfolding present
  present_sds d t e =
      let (p, i, a, b) = presence_of s.presences d t e in
      rw a at (good.presence_sds p i)

  pub nothing_dangles : NothingDangles s
  nothing_dangles = record {
    presence_sds = good.presence_sds;
    presence_type = good.presence_type;
    application_sds = λ x i. present_sds x.sds x.to (applied x i).0;
    application_to = λ x i. either_used (kind_of s x.to) (good.applied_to x i);
    application_attribute = λ x i. attribute_used (kind_of s x.attribute) (good.applied_attribute x i);
    application_to_there = λ x i. (applied x i).0;
    application_attribute_there = λ x i. (applied x i).1;
    end_sds = λ e i. present_sds e.sds e.link (ended e i).0;
    end_link = λ e i. link_used (kind_of s e.link) (good.end_link e i);
    end_object = λ e i. object_used (kind_of s e.object) (good.end_object e i);
    end_link_there = λ e i. (ended e i).0;
    end_object_there = λ e i. (ended e i).1;
    parent = λ t a by. object_used (kind_of s a) (good.parents_objects t a by);
    reverse = λ t c r k. ap is_used (good.reverse_in_turn t c r k).1;
  }
    where
      applied : (x : Application) → x ∈ s.applications → (present s x.sds x.to ≡ true) × (present s x.sds x.attribute ≡ true)
      applied x i = and_both (present s x.sds x.to) (present s x.sds x.attribute) (good.application_present x i)

      ended : (e : End) → e ∈ s.ends → (present s e.sds e.link ≡ true) × (present s e.sds e.object ≡ true)
      ended e i = and_both (present s e.sds e.link) (present s e.sds e.object) (good.end_present e i)

  -- ---- lists

  -- the list of descendants holds every visible descendant once, and nothing else
  pub list_whole : (w : List ℕ) (t : ℕ) → WholeList s w t
  list_whole = whole_list good
