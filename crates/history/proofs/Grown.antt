-- A good schema with new types: each has a number that was unused, is as 01 asks of its kind, and is in one SDS with its parents and
-- its reverse. What was there stays, so it is good. Assumes nothing.
use Prim.Native.Nat.{ℕ, ◌≤◌}
use mathlib.Core.Path.{◌≡◌, refl, sym, ap, ◌∙◌, subst}
use mathlib.Core.Logic.{◌⊎◌, inl, inr, ⊎_elim}
use mathlib.Core.List.Memᴰ
use mathlib.Core.List.{List, []}
use mathlib.Core.Bool.{true, false, true≢false}
use lib.Dec.{ltb}
use lib.ListN.{length}
use Rattle.rules.specs.01-Lists.{◌∈◌, rising}
use Rattle.rules.specs.02-Limits.{limits}
use Rattle.rules.specs.03-Names.{Name, blank}
use Rattle.rules.specs.04-Schema.{Schema, Kind, Presence, kind_of, is_used, is_object, parents, parents_in, present, with_types, with_presences}
use Rattle.rules.specs.04-Schema.Kind.{unused, object, attribute, designation, paired}
use Rattle.rules.specs.05-Descent.{Parent, Descends}
use Rattle.rules.specs.05-Descent.Descends.{by_parent, by_step}
use Rattle.rules.specs.06-Good.{Good}
use Rattle.rules.specs.Parts.{of_types, of_presences, Types, Presences}
use Rattle.rules.proofs.Bools.{fails}
use Rattle.rules.proofs.05-Descent.{object_used}
use Rattle.rules.proofs.Parts.{presence_there, parts_of, whole}
use Rattle.history.proofs.Parts.{Rows, Placed, Full, placed_at, stayed, presences_still, applications_over, ends_over}
use Rattle.history.proofs.Rows.{present_over}

-- "An object type has 1 to 4 different parents, all object types", present in that SDS
pub record ParentsFit (ks : List Kind) (ps : List Presence) (d : ℕ) (qs : List ℕ) : Type 0 where
  pub some : qs ≡ [] → ⊥
  pub few : length qs ≤ 4
  pub rises : rising ltb qs ≡ true
  pub objects : (a : ℕ) → a ∈ qs → is_object (kind_of (of_types ks) a) ≡ true
  pub there : (a : ℕ) → a ∈ qs → present (of_presences ps) d a ≡ true

-- "exactly one, a different type, which has it in turn", and comes with it
pub record ReverseFits (ks' : List Kind) (ps' : List Presence) (d t c r : ℕ) : Type 0 where
  pub category : c ≤ 3
  pub different : r ≡ t → ⊥
  pub back : ℕ
  pub in_turn : kind_of (of_types ks') r ≡ paired back t
  pub not_both : c ≡ 3 → back ≡ 3 → ⊥
  pub there : present (of_presences ps') d r ≡ true

-- what a new type t of SDS d is asked, by its kind: parents are among the old types, a reverse among the new
abbrev pub Fits : List Kind → List Kind → List Presence → List Presence → ℕ → ℕ → Kind → Type 0
Fits ks ks' ps ps' d t unused = ⊥
Fits ks ks' ps ps' d t (object qs) = ParentsFit ks ps d qs
Fits ks ks' ps ps' d t (attribute v) = v ≤ 5
Fits ks ks' ps ps' d t designation = Unit {0}
Fits ks ks' ps ps' d t (paired c r) = ReverseFits ks' ps' d t c r

pub record New (ks ks' : List Kind) (ps ps' : List Presence) (d t : ℕ) : Type 0 where
  pub was : is_used (kind_of (of_types ks) t) ≡ false
  pub fits : Fits ks ks' ps ps' d t (kind_of (of_types ks') t)
  pub there : present (of_presences ps') d t ≡ true

pub record Grown (ks ks' : List Kind) (ps ps' : List Presence) (d : ℕ) : Type 0 where
  pub room : length ks' ≡ limits.types
  pub each : (t : ℕ) → (kind_of (of_types ks') t ≡ kind_of (of_types ks) t) ⊎ New ks ks' ps ps' d t
  pub old_rows : (p : Presence) → p ∈ ps → p ∈ ps'
  -- a row that was not there is in that SDS, of a type that was not there, and has all modes and a name
  pub rows : (p : Presence) → p ∈ ps' → (p ∈ ps) ⊎ ((p.sds ≡ d) × New ks ks' ps ps' d p.type × Full p × (blank p.name ≡ false))

module _ (ks ks' : List Kind) (ps ps' : List Presence) (d : ℕ) where
  abbrev KindFits : ℕ → Kind → Type 0
  KindFits t k = Fits ks ks' ps ps' d t k

  fits_used : (t : ℕ) (k : Kind) → KindFits t k → is_used k ≡ true
  fits_used t unused f = absurd f
  fits_used t (object qs) f = refl
  fits_used t (attribute v) f = refl
  fits_used t designation f = refl
  fits_used t (paired c r) f = refl

  -- a parent of a new type is an old object type, present there
  fits_parent : (t : ℕ) (k : Kind) → KindFits t k → (a : ℕ) → a ∈ parents_in k
      → (is_object (kind_of (of_types ks) a) ≡ true) × (present (of_presences ps) d a ≡ true)
  fits_parent t unused f a i = absurd f
  fits_parent t (object qs) f a i = (f.objects a i, f.there a i)
  fits_parent t (attribute v) f a i = absurd (Memᴰ.not-nil i)
  fits_parent t designation f a i = absurd (Memᴰ.not-nil i)
  fits_parent t (paired c r) f a i = absurd (Memᴰ.not-nil i)

  module _ (g : Grown ks ks' ps ps' d) where
    new_fits : {t : ℕ} (k : Kind) → New ks ks' ps ps' d t → kind_of (of_types ks') t ≡ k → KindFits t k
    new_fits {t} k n e = subst (KindFits t) e n.fits

    -- what is said of each kind holds of all where it held of the old and holds of the new
    said : {A : Type 0} (t : ℕ) (k : Kind) → kind_of (of_types ks') t ≡ k → (kind_of (of_types ks) t ≡ k → A) → (KindFits t k → A) → A
    said t k e old new = ⊎_elim (λ h. old (sym h ∙ e)) (λ n. new (new_fits k n e)) (g.each t)

    pub kept : (t : ℕ) → is_used (kind_of (of_types ks) t) ≡ true → kind_of (of_types ks') t ≡ kind_of (of_types ks) t
    kept t u = ⊎_elim (λ h. h) (λ n. absurd (true≢false (sym u ∙ n.was))) (g.each t)

    kept_kind : (t : ℕ) (k : Kind) → is_used k ≡ true → kind_of (of_types ks) t ≡ k → kind_of (of_types ks') t ≡ k
    kept_kind t k u e = kept t (ap is_used e ∙ u) ∙ e

    kept_used : (t : ℕ) → is_used (kind_of (of_types ks) t) ≡ true → is_used (kind_of (of_types ks') t) ≡ true
    kept_used t u = ap is_used (kept t u) ∙ u

    -- every parent is an old object type
    parent_old : Types ks → (t a : ℕ) → Parent (of_types ks') t a → is_object (kind_of (of_types ks) a) ≡ true
    unfolding parents
    parent_old old t a p =
        ⊎_elim
        (λ h. old.parents.objects t a (record { listed = subst (λ (k : Kind). a ∈ parents_in k) h p.listed }))
        (λ n. (fits_parent t (kind_of (of_types ks') t) n.fits a p.listed).0)
        (g.each t)

    -- an old type has the parents that it had
    parent_was : (t a : ℕ) → is_used (kind_of (of_types ks) t) ≡ true → Parent (of_types ks') t a → Parent (of_types ks) t a
    unfolding parents
    parent_was t a u p = record { listed = subst (λ (k : Kind). a ∈ parents_in k) (kept t u) p.listed }

    module _ (old : Types ks) where
      old_object : {t a : ℕ} → Parent (of_types ks') t a → is_used (kind_of (of_types ks) a) ≡ true
      old_object {t} {a} p = object_used (kind_of (of_types ks) a) (parent_old old t a p)

      -- a way up ends at an old type, and one that begins at an old type is an old way
      descends_old : {t a : ℕ} → Descends (of_types ks') t a → is_used (kind_of (of_types ks) a) ≡ true
      descends_old (by_parent p) = old_object p
      descends_old (by_step p w) = descends_old w

      descends_was : {t a : ℕ} → is_used (kind_of (of_types ks) t) ≡ true → Descends (of_types ks') t a → Descends (of_types ks) t a
      descends_was u (by_parent {t = t} {a = a} p) = by_parent (parent_was t a u p)
      descends_was u (by_step {t = t} {p = q} p w) = by_step (parent_was t q u p) (descends_was (old_object p) w)

      pub types_grown : Types ks'
      types_grown = record {
        kinds = record {
          room = g.room;
          few = λ t qs e. said t (object qs) e (old.kinds.few t qs) (λ f. f.few);
          value_kinds = λ t v e. said t (attribute v) e (old.kinds.value_kinds t v) (λ f. f);
          categories = λ t c r e. said t (paired c r) e (old.kinds.categories t c r) (λ f. f.category);
        };
        parents = record {
          rises = λ t qs e. said t (object qs) e (old.parents.rises t qs) (λ f. f.rises);
          objects = λ t a p. let o = parent_old old t a p in ap is_object (kept a (object_used (kind_of (of_types ks) a) o)) ∙ o;
          root = kept_kind 0 (object []) refl old.parents.root;
          only_root = λ t e. said t (object []) e (old.parents.only_root t) (λ f. absurd (f.some refl));
        };
        reverses = record {
          different = λ t c r e. said t (paired c r) e (old.reverses.different t c r) (λ f. f.different);
          in_turn = λ t c r e. said t (paired c r) e
              (λ h. let (c', h') = old.reverses.in_turn t c r h in (c', kept_kind r (paired c' t) refl h'))
              (λ f. (f.back, f.in_turn));
          not_both = λ t r e e'. said t (paired 3 r) e
              (λ h. let (c', h') = old.reverses.in_turn t 3 r h in old.reverses.not_both t r h (sym (kept r (ap is_used h')) ∙ e'))
              (λ f. f.not_both refl (same_category (sym f.in_turn ∙ e')));
        };
        acyclic = λ t w. old.acyclic t (descends_was (descends_old w) w);
      }
        where
          same_category : {c c' r : ℕ} → paired c r ≡ paired c' r → c ≡ c'
          same_category e = cc

    -- ---- the presences

    pub still : (e t : ℕ) → present (of_presences ps) e t ≡ true → present (of_presences ps') e t ≡ true
    still = present_over ps ps' (λ p i. presence_there (g.old_rows p i))

    -- an old type asks what it asked, and a new one has what it asks
    placed_old : {e t : ℕ} → Placed ks ps e t → Placed ks' ps' e t
    placed_old {e} {t} c = record {
      used = kept_used t c.used;
      closed = record {
        parents = λ a p. still e a (c.closed.parents a (parent_was t a c.used p));
        reverse = λ b r k. still e r (c.closed.reverse b r (sym (kept t c.used) ∙ k));
      };
    }

    placed_new : {t : ℕ} → New ks ks' ps ps' d t → Placed ks' ps' d t
    unfolding parents
    placed_new {t} n = record {
      used = fits_used t (kind_of (of_types ks') t) n.fits;
      closed = record {
        parents = λ a p. still d a (fits_parent t (kind_of (of_types ks') t) n.fits a p.listed).1;
        reverse = λ c r k. (new_fits (paired c r) n k).there;
      };
    }

    pub presences_grown : {ns : List Name} → Types ks → Presences ns ks ps → Rows ns ps' → Presences ns ks' ps'
    presences_grown types old rs =
        presences_still old (types_grown types).reverses
        (λ p i. ⊎_elim
        (λ j. inl (stayed j (kept p.type (old.typed p j))))
        (λ n. inr (record { lacked = lacked p.sds p.type n.1.was; nameless = λ e. absurd (true≢false (sym e ∙ n.3)); modes = n.2 }))
        (g.rows p i))
        rs
        (λ p i. ⊎_elim
        (λ j. placed_old (placed_at old p.sds p.type (presence_there j)))
        (λ n. subst (λ (x : ℕ). Placed ks' ps' x p.type) (sym n.0) (placed_new n.1))
        (g.rows p i))
        (λ t u. ⊎_elim (λ h. let (e, q) = old.somewhere t (ap is_used (sym h) ∙ u) in (e, still e t q)) (λ n. (d, n.there)) (g.each t))
      where
        lacked : (e t : ℕ) → is_used (kind_of (of_types ks) t) ≡ false → present (of_presences ps) e t ≡ false
        lacked e t u = fails (present (of_presences ps) e t) (λ h. true≢false (sym (placed_at old e t h).used ∙ u))

-- nothing else speaks of types or presences but applications and ends, and theirs stay
pub grown_good : {s : Schema} → Good s → (ks' : List Kind) (ps' : List Presence) (d : ℕ) → Grown s.types ks' s.presences ps' d → Rows s.sdss ps'
    → Good (with_presences (with_types s ks') ps')
grown_good {s} good ks' ps' d g rs =
    let p = parts_of good in
    let same = kept s.types ks' s.presences ps' d g in
    let there = still s.types ks' s.presences ps' d g in
    whole (record {
      sdss = p.sdss;
      types = types_grown s.types ks' s.presences ps' d g p.types;
      presences = presences_grown s.types ks' s.presences ps' d g p.types p.presences rs;
      applications = applications_over s.types ks' s.presences ps' same there p.applications;
      ends = ends_over s.types ks' s.presences ps' same there p.ends;
    })
