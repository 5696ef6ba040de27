-- Remove type, by name or by number, keeps a schema good. Assumes nothing.
use Prim.Native.Nat.{ℕ}
use mathlib.Core.Path.{◌≡◌, refl, sym, subst, ap, ◌∙◌}
use mathlib.Core.Logic.{inl, ⊎_elim}
use mathlib.Core.List.Memᴰ
use mathlib.Core.List.{List, [], ◌∷◌}
use mathlib.Core.Bool.{Bool, true, false, cond, ◌&&◌, true≢false, false≢true}
use lib.Dec.{leb, eqb}
use lib.ListN.{length, length-set, get_or, set, get_or-eq_default}
use lib.Seq.{get_or-set_same, get_or-set_other, set_out}
use borrow.Author.Tests.{eqb-true, eqb-false, eq-eqb, leb-true, leb-false}
use Rattle.rules.specs.01-Lists.{◌∈◌, any, among, without}
use Rattle.rules.specs.03-Names.{Name}
use Rattle.rules.specs.04-Schema.{Schema, Kind, Presence, Application, End, system_presence, kind_of, is_used, is_object, parents, parents_in}
use Rattle.rules.specs.04-Schema.{is_parent, with_reverse, present, type_named, applied, is_application, has_end, with_types}
use Rattle.rules.specs.04-Schema.{with_presences}
use Rattle.rules.specs.04-Schema.Kind.{unused, object, attribute, paired}
use Rattle.rules.specs.05-Descent.{Parent}
use Rattle.rules.specs.06-Good.{Good}
use Rattle.rules.specs.09-Refusals.{◌held_by◌, child_there, applied_there, end_of, end_there, in_the_way}
use Rattle.rules.specs.09-Refusals.Outcome.{done}
use Rattle.rules.specs.10-Changes.{less_gone, less_type, remove_type, remove_type_refusals, remove_number, remove_number_refusals}
use Rattle.rules.specs.13-History.{next}
use Rattle.rules.specs.Parts.{of_types, of_presences, Types, Presences, Applications, Ends, Parts}
use Rattle.rules.proofs.Bools.{or_left, or_right, and_both, and_of, fails}
use Rattle.rules.proofs.01-Lists.{any_at, any_where, none_at, among_in, in_among}
use Rattle.rules.proofs.05-Descent.{descends_over, used_below, object_used, child_object}
use Rattle.rules.proofs.Edits.{without_in, without_keeps}
use Rattle.rules.proofs.08-Working.{present_used}
use Rattle.rules.proofs.09-Refusals.{verdict_keeps, none_passes, on_side}
use Rattle.rules.proofs.Parts.{presence_there, presence_of, parts_of, whole, applied_over, ended_over, applied_held, ended_held}
use Rattle.history.proofs.EndChanges.{in_has}
use Rattle.history.proofs.KindLaws.{kind_unused}
use Rattle.history.proofs.Parts.{Placed, rows_of, placed_at, stayed, presences_still, pair_closed}
use Rattle.history.proofs.Passed.{aimed}
use Rattle.history.proofs.Rows.{rows_less}

-- ---- fewer presences, and of the types those alone that still have one

-- what is present is what it was, and what is not is unused
record Left (ks ks' : List Kind) (ps : List Presence) : Type 0 where
  long : length ks' ≡ length ks
  stays : (d t : ℕ) → present (of_presences ps) d t ≡ true → kind_of (of_types ks') t ≡ kind_of (of_types ks) t
  found : (t : ℕ) → is_used (kind_of (of_types ks') t) ≡ true → (d : ℕ) × (present (of_presences ps) d t ≡ true)

-- what is present is there with its parents and its reverse
abbrev AllPlaced : List Kind → List Presence → Type 0
AllPlaced ks ps = (d t : ℕ) → present (of_presences ps) d t ≡ true → Placed ks ps d t

module _ {ks ks' : List Kind} {ps : List Presence} (placed : AllPlaced ks ps) (left : Left ks ks' ps) where
  was : (t : ℕ) (k : Kind) → is_used k ≡ true → kind_of (of_types ks') t ≡ k → kind_of (of_types ks) t ≡ k
  was t k u e = let (d, h) = left.found t (ap is_used e ∙ u) in sym (left.stays d t h) ∙ e

  parent_used : (t a : ℕ) → Parent (of_types ks') t a → is_used (kind_of (of_types ks') t) ≡ true
  parent_used t a by = object_used (kind_of (of_types ks') t) (child_object by)

  parent_was : (t a : ℕ) → Parent (of_types ks') t a → Parent (of_types ks) t a
  unfolding parents
  parent_was t a by =
      let (d, h) = left.found t (parent_used t a by) in
      record { listed = subst (λ (k : Kind). a ∈ parents_in k) (left.stays d t h) by.listed }

  -- a parent, and a reverse, of a type that is left is left
  parent_left : (t a : ℕ) → Parent (of_types ks') t a → kind_of (of_types ks') a ≡ kind_of (of_types ks) a
  parent_left t a by =
      let (d, h) = left.found t (parent_used t a by) in
      left.stays d a ((placed d t h).closed.parents a (parent_was t a by))

  reverse_left : (t c r : ℕ) → kind_of (of_types ks') t ≡ paired c r → kind_of (of_types ks') r ≡ kind_of (of_types ks) r
  reverse_left t c r e =
      let (d, h) = left.found t (ap is_used e) in
      left.stays d r ((placed d t h).closed.reverse c r (was t (paired c r) refl e))

  types_left : system_presence ∈ ps → Types ks → Types ks'
  types_left system g = record {
    kinds = record {
      room = left.long ∙ g.kinds.room;
      few = λ t l e. g.kinds.few t l (was t (object l) refl e);
      value_kinds = λ t v e. g.kinds.value_kinds t v (was t (attribute v) refl e);
      categories = λ t c r e. g.kinds.categories t c r (was t (paired c r) refl e);
    };
    parents = record {
      rises = λ t l e. g.parents.rises t l (was t (object l) refl e);
      objects = λ t a by. ap is_object (parent_left t a by) ∙ g.parents.objects t a (parent_was t a by);
      root = left.stays 0 0 (presence_there system) ∙ g.parents.root;
      only_root = λ t e. g.parents.only_root t (was t (object []) refl e);
    };
    reverses = record {
      different = λ t c r e. g.reverses.different t c r (was t (paired c r) refl e);
      in_turn = λ t c r e. let (c', h) = g.reverses.in_turn t c r (was t (paired c r) refl e) in (c', reverse_left t c r e ∙ h);
      not_both = λ t r e h. g.reverses.not_both t r (was t (paired 3 r) refl e) (was r (paired 3 t) refl h);
    };
    acyclic = λ t d. g.acyclic t (descends_over parent_was d);
  }

  applications_left : {xs : List Application} {ps₀ : List Presence}
      → ((x : Application) → x ∈ xs → (present (of_presences ps) x.sds x.to ≡ true) × (present (of_presences ps) x.sds x.attribute ≡ true))
      → Applications ks ps₀ xs → Applications ks' ps xs
  applications_left both g = record {
    rows = g.rows;
    each = λ x i.
        let (a, b) = both x i in
        applied_over (g.each x i) (left.stays x.sds x.to a) (left.stays x.sds x.attribute b) a b;
  }

  ends_left : {es : List End} {ps₀ : List Presence}
      → ((e : End) → e ∈ es → (present (of_presences ps) e.sds e.link ≡ true) × (present (of_presences ps) e.sds e.object ≡ true))
      → Ends ks ps₀ es → Ends ks' ps es
  ends_left both g = record {
    rows = g.rows;
    each = λ e i.
        let (a, b) = both e i in
        ended_over (g.each e i) (left.stays e.sds e.link a) (left.stays e.sds e.object b) a b;
    mirrored = λ e i c r k. g.mirrored e i c r (was e.link (paired c r) refl k);
  }

presences_left : {ns : List Name} {ks ks' : List Kind} (q : Presence → Bool) {ps : List Presence} → AllPlaced ks (without q ps)
    → Left ks ks' (without q ps) → q system_presence ≡ false → Types ks' → Presences ns ks ps → Presences ns ks' (without q ps)
presences_left q {ps} placed left stays types g =
    presences_still g types.reverses
    (λ p i. inl (stayed (without_in q ps i).0 (left.stays p.sds p.type (presence_there i))))
    (rows_less (rows_of g) q stays)
    (λ p i.
    let c = placed p.sds p.type (presence_there i) in
    record {
      used = ap is_used (left.stays p.sds p.type (presence_there i)) ∙ c.used;
      closed = record {
        parents = λ a by. c.closed.parents a (parent_was placed left p.type a by);
        reverse = λ b r k. c.closed.reverse b r (was placed left p.type (paired b r) refl k);
      };
    })
    left.found

-- ---- the types that are gone

-- type t has a presence
abbrev has_presence : List Presence → ℕ → Bool
has_presence ps t = any (λ p. eqb p.type t) ps

-- nothing but the types changes
gone_is : (ts : List ℕ) (s : Schema) → less_gone ts s ≡ with_types s (less_gone ts s).types
unfolding less_gone
gone_is [] s = refl
gone_is (t ∷ ts) s = go (has_presence s.presences t) (gone_is ts s) (gone_is ts s₁)
  where
    s₁ : Schema
    s₁ = with_types s (set s.types t unused)

    go : (b : Bool) → less_gone ts s ≡ with_types s (less_gone ts s).types → less_gone ts s₁ ≡ with_types s₁ (less_gone ts s₁).types
        → less_gone ts (cond b s s₁) ≡ with_types s (less_gone ts (cond b s s₁)).types
    go true h k = h
    go false h k = k

-- what a type without presence leaves true when it is made unused stays true
gone_keeps : (P : List Kind → Type 0) (ts : List ℕ) (s : Schema)
    → ((ks : List Kind) (t : ℕ) → has_presence s.presences t ≡ false → P ks → P (set ks t unused)) → P s.types → P (less_gone ts s).types
unfolding less_gone
gone_keeps P [] s f h = h
gone_keeps P (t ∷ ts) s f h = go (has_presence s.presences t) refl (gone_keeps P ts s f h) (gone_keeps P ts s₁ f)
  where
    s₁ : Schema
    s₁ = with_types s (set s.types t unused)

    go : (b : Bool) → has_presence s.presences t ≡ b → P (less_gone ts s).types → (P s₁.types → P (less_gone ts s₁).types)
        → P (less_gone ts (cond b s s₁)).types
    go true q k l = k
    go false q k l = l (f s.types t q h)

gone_long : (ts : List ℕ) (s : Schema) → length (less_gone ts s).types ≡ length s.types
gone_long ts s = gone_keeps (λ ks. length ks ≡ length s.types) ts s (λ ks t _ h. length-set ks t unused ∙ h) refl

-- a type that is made unused is unused, whatever its number
set_unused : (ks : List Kind) (t : ℕ) → get_or (set ks t unused) t unused ≡ unused
set_unused ks t = go (leb (length ks) t) refl
  where
    go : (b : Bool) → leb (length ks) t ≡ b → get_or (set ks t unused) t unused ≡ unused
    go true e = rw (set_out ks t unused (leb-true (length ks) t e)) (get_or-eq_default ks unused (leb-true (length ks) t e))
    go false e = get_or-set_same ks t unused unused (leb-false (length ks) t e)

-- what is unused stays so
still_unused : (ks : List Kind) (t u : ℕ) → get_or ks u unused ≡ unused → get_or (set ks t unused) u unused ≡ unused
still_unused ks t u e = go (eqb u t) refl
  where
    go : (b : Bool) → eqb u t ≡ b → get_or (set ks t unused) u unused ≡ unused
    go true h = rw (eqb-true u t h) (set_unused ks t)
    go false h = get_or-set_other ks t u unused unused (eqb-false u t h) ∙ e

module _ (u : ℕ) where
  gone_unused : (ts : List ℕ) (s : Schema) → kind_of s u ≡ unused → kind_of (less_gone ts s) u ≡ unused
  gone_unused ts s = gone_keeps (λ ks. get_or ks u unused ≡ unused) ts s (λ ks t _. still_unused ks t u)

  -- a type with a presence stays what it is
  gone_stays : (ts : List ℕ) (s : Schema) → has_presence s.presences u ≡ true → kind_of (less_gone ts s) u ≡ kind_of s u
  gone_stays ts s e =
      gone_keeps (λ ks. get_or ks u unused ≡ kind_of s u) ts s
      (λ ks t q h. get_or-set_other ks t u unused unused (λ same. true≢false (sym e ∙ ap (has_presence s.presences) same ∙ q)) ∙ h)
      refl

  -- one without is gone
  gone_goes : (ts : List ℕ) (s : Schema) → u ∈ ts → has_presence s.presences u ≡ false → kind_of (less_gone ts s) u ≡ unused
  unfolding less_gone
  gone_goes [] s i e = absurd (Memᴰ.not-nil i)
  gone_goes (t ∷ ts) s i e = ⊎_elim here (λ j. there (has_presence s.presences t) (gone_goes ts s j e) (gone_goes ts s₁ j e)) (Memᴰ.cases_cons i)
    where
      s₁ : Schema
      s₁ = with_types s (set s.types t unused)

      here : u ≡ t → kind_of (less_gone ts (cond (has_presence s.presences t) s s₁)) u ≡ unused
      here same = rw (sym (ap (has_presence s.presences) same) ∙ e) (gone_unused ts s₁ (rw same (set_unused s.types t)))

      there : (b : Bool) → kind_of (less_gone ts s) u ≡ unused → kind_of (less_gone ts s₁) u ≡ unused → kind_of (less_gone ts (cond b s s₁)) u ≡ unused
      there true h k = h
      there false h k = k

-- ---- what goes from an SDS

-- a presence of one of the types ts in SDS d
abbrev goes : ℕ → List ℕ → Presence → Bool
goes d ts p = eqb p.sds d && among ts p.type

never_both : (x y : Bool) → (x ≡ true → y ≡ true → ⊥) → x && y ≡ false
never_both x y f = fails (x && y) (λ e. let (a, b) = and_both x y e in f a b)

module _ (d : ℕ) (ts : List ℕ) (ps : List Presence) where
  present_was : (e u : ℕ) → present (of_presences (without (goes d ts) ps)) e u ≡ true → (present (of_presences ps) e u ≡ true) × (e ≡ d → u ∈ ts → ⊥)
  present_was e u h =
      let (p, i, same, same') = presence_of (without (goes d ts) ps) e u h in
      let (j, q) = without_in (goes d ts) ps i in
      let q' : eqb e d && among ts u ≡ false = rw (same, same') at q in
      (rw (same, same') at (presence_there j), λ a m. true≢false (sym (and_of (eqb e d) (among ts u) (eq-eqb e d a) (in_among m)) ∙ q'))

  present_stays : (e u : ℕ) → present (of_presences ps) e u ≡ true → (e ≡ d → u ∈ ts → ⊥) → present (of_presences (without (goes d ts) ps)) e u ≡ true
  present_stays e u h n =
      let (p, i, same, same') = presence_of ps e u h in
      let out : goes d ts p ≡ false
      = never_both (eqb p.sds d) (among ts p.type) (λ a b. n (sym same ∙ eqb-true p.sds d a) (rw same' at (among_in ts p.type b))) in
      rw (same, same') at (presence_there (without_keeps (goes d ts) ps i out))

-- ---- remove type

module _ {s : Schema} (g : Good s) (d t : ℕ) (outside : d ≡ 0 → ⊥) (no_child : (16 held_by in_the_way (child_there s d) (with_reverse s t)).holds ≡ false)
    (no_application : (17 held_by in_the_way (applied_there s d) (with_reverse s t)).holds ≡ false)
    (no_end : (18 held_by in_the_way (end_there s d) (with_reverse s t)).holds ≡ false) where
  -- no type in SDS d stands in one of these ways
  free_of : (n : ℕ) (holds : ℕ → ℕ → Bool) → (n held_by in_the_way holds (with_reverse s t)).holds ≡ false → {u v : ℕ} → u ∈ with_reverse s t
      → present s d v ≡ true → holds u v ≡ true → ⊥
  unfolding in_the_way
  free_of n holds free {v = v} i h e =
      true≢false
      (sym e
      ∙ none_at (λ w. holds w v)
      (none_passes n (λ x. any (λ w. holds w x) (with_reverse s t)) free v (used_below g v (present_used g d v h))) i)

  -- so no child of theirs is present there, no application and no end speaks of them
  childless : (u v : ℕ) → u ∈ with_reverse s t → present s d v ≡ true → Parent (of_types s.types) v u → ⊥
  unfolding parents is_parent child_there
  childless u v i e by = free_of 16 (child_there s d) no_child i e (and_of (present s d v) (among (parents s v) u) e (in_among by.listed))

  unapplied : (x : Application) → x ∈ s.applications
      → (x.sds ≡ d → x.to ∈ with_reverse s t → ⊥) × (x.sds ≡ d → x.attribute ∈ with_reverse s t → ⊥)
  unfolding applied_there applied
  unapplied x j = (
    λ same i. free_of 17 (applied_there s d) no_application i (there same).1
        (or_right (applied s d x.attribute x.to) (applied s d x.to x.attribute) (is same)),
    λ same i. free_of 17 (applied_there s d) no_application i (there same).0
        (or_left (applied s d x.to x.attribute) (applied s d x.attribute x.to) (is same)),
  )
    where
      is : x.sds ≡ d → applied s d x.to x.attribute ≡ true
      is same =
          any_at (is_application d x.to x.attribute) j
          (and_of (eqb x.sds d) (eqb x.to x.to && eqb x.attribute x.attribute) (eq-eqb x.sds d same)
          (and_of (eqb x.to x.to) (eqb x.attribute x.attribute) (eq-eqb x.to x.to refl) (eq-eqb x.attribute x.attribute refl)))

      there : x.sds ≡ d → (present s d x.to ≡ true) × (present s d x.attribute ≡ true)
      there same = rw same at (and_both (present s x.sds x.to) (present s x.sds x.attribute) (g.application_present x j))

  endless : (x : End) → x ∈ s.ends → (x.sds ≡ d → x.link ∈ with_reverse s t → ⊥) × (x.sds ≡ d → x.object ∈ with_reverse s t → ⊥)
  unfolding end_there has_end
  endless x j = (
    λ same i. free_of 18 (end_there s d) no_end i (there same).1 (or_right (end_of s d x.object x.link) (end_of s d x.link x.object) (is same)),
    λ same i. free_of 18 (end_there s d) no_end i (there same).0 (or_left (end_of s d x.link x.object) (end_of s d x.object x.link) (is same)),
  )
    where
      is : x.sds ≡ d → end_of s d x.link x.object ≡ true
      is same =
          on_side s d x.link x.side x.object
          (subst (λ (y : ℕ). has_end s y x.link x.side x.object ≡ true) same (in_has s.ends x j))

      there : x.sds ≡ d → (present s d x.link ≡ true) × (present s d x.object ≡ true)
      there same = rw same at (and_both (present s x.sds x.link) (present s x.sds x.object) (g.end_present x j))

  -- the presences that are left, and the types
  abbrev rest : List Presence
  rest = without (goes d (with_reverse s t)) s.presences

  abbrev left : Schema
  left = less_gone (with_reverse s t) (with_presences s rest)

  stays_present : (e u : ℕ) → present (of_presences s.presences) e u ≡ true → (e ≡ d → u ∈ with_reverse s t → ⊥) → present (of_presences rest) e u ≡ true
  stays_present = present_stays d (with_reverse s t) s.presences

  rest_placed : AllPlaced s.types rest
  unfolding present
  rest_placed e v h =
      let (w, n) = present_was d (with_reverse s t) s.presences e v h in
      let c = placed_at (parts_of g).presences e v w in
      record {
        used = c.used;
        closed = record {
          parents = λ a by. stays_present e a (c.closed.parents a by)
              (λ same i. childless a v i (subst (λ (x : ℕ). present s x v ≡ true) same w) by);
          reverse = λ b r k. stays_present e r (c.closed.reverse b r k) (λ same i. n same (pair_closed g t v b r k i));
        };
      }

  types_rest : Left s.types left.types rest
  types_rest = record {
    long = gone_long (with_reverse s t) (with_presences s rest);
    stays = λ e u h.
        let (p, i, same, same') = presence_of rest e u h in
        gone_stays u (with_reverse s t) (with_presences s rest) (any_at (λ q. eqb q.type u) i (eq-eqb p.type u same'));
    found = λ u h. found u h (has_presence rest u) refl;
  }
    where
      used : (u : ℕ) → is_used (kind_of left u) ≡ true → (b : Bool) → is_used (kind_of s u) ≡ b → is_used (kind_of s u) ≡ true
      used u h true e = e
      used u h false e =
          absurd (false≢true (sym (ap is_used (gone_unused u (with_reverse s t) (with_presences s rest) (kind_unused (kind_of s u) e))) ∙ h))

      found : (u : ℕ) → is_used (kind_of left u) ≡ true → (b : Bool) → has_presence rest u ≡ b → (e : ℕ) × (present (of_presences rest) e u ≡ true)
      found u h true q =
          let (p, i, same) = any_where (λ q. eqb q.type u) rest q in
          (p.sds, subst (λ (x : ℕ). present (of_presences rest) p.sds x ≡ true) (eqb-true p.type u same) (presence_there i))
      found u h false q =
          let (e, w) = (parts_of g).presences.somewhere u (used u h (is_used (kind_of s u)) refl) in
          let never : u ∈ with_reverse s t → ⊥ = λ i. false≢true (sym (ap is_used (gone_goes u (with_reverse s t) (with_presences s rest) i q)) ∙ h) in
          (e, stays_present e u w (λ same i. never i))

  removed_good : Good left
  removed_good =
      subst Good (sym (gone_is (with_reverse s t) (with_presences s rest)))
      (whole (record {
        sdss = p.sdss;
        types = types;
        presences = presences_left (goes d (with_reverse s t)) rest_placed types_rest system types p.presences;
        applications = applications_left rest_placed types_rest applied p.applications;
        ends = ends_left rest_placed types_rest ended p.ends;
      }))
    where
      p : Parts s
      p = parts_of g

      system : goes d (with_reverse s t) system_presence ≡ false
      system = never_both (eqb 0 d) (among (with_reverse s t) 0) (λ e _. outside (sym (eqb-true 0 d e)))

      types : Types left.types
      types = types_left rest_placed types_rest (without_keeps (goes d (with_reverse s t)) s.presences p.presences.rows.system system) p.types

      applied : (x : Application) → x ∈ s.applications
          → (present (of_presences rest) x.sds x.to ≡ true) × (present (of_presences rest) x.sds x.attribute ≡ true)
      applied x i =
          let (a, b) = applied_held (p.applications.each x i) in
          let (to_free, attribute-free) = unapplied x i in
          (stays_present x.sds x.to a to_free, stays_present x.sds x.attribute b attribute-free)

      ended : (x : End) → x ∈ s.ends → (present (of_presences rest) x.sds x.link ≡ true) × (present (of_presences rest) x.sds x.object ≡ true)
      ended x i =
          let (a, b) = ended_held (p.ends.each x i) in
          let (link-free, object-free) = endless x i in
          (stays_present x.sds x.link a link-free, stays_present x.sds x.object b object-free)

pub remove_type_keeps : (d : ℕ) (n : Name) (s : Schema) → Good s → Good (next s (remove_type d n s))
unfolding remove_type
remove_type_keeps d n s g =
    verdict_keeps (λ o. Good (next s o)) (remove_type_refusals d n s)
    (done t 0 0 (less_type d t s))
    (λ _ _. g)
    (λ passed. removed_good g d t (aimed d (passed.fails 3)) (passed.fails 16) (passed.fails 17) (passed.fails 18))
  where
    t : ℕ
    t = type_named s d n

pub remove_number_keeps : (d t : ℕ) (s : Schema) → Good s → Good (next s (remove_number d t s))
unfolding remove_number
remove_number_keeps d t s g =
    verdict_keeps (λ o. Good (next s o)) (remove_number_refusals d t s) (done t 0 0 (less_type d t s))
    (λ _ _. g)
    (λ passed. removed_good g d t (aimed d (passed.fails 3)) (passed.fails 16) (passed.fails 17) (passed.fails 18))
