-- A presence put in, or some taken out: what the presences keep by themselves, and which types are then present. What a type asks of its
-- parents and its reverse is each call's own. Assumes nothing.
use Prim.Native.Nat.{ℕ, ◌+◌, ◌≤◌}
use native.Mathlib.Omega.{arith}
use mathlib.Core.Path.{◌≡◌, refl, sym, ap, ◌∙◌, subst₂}
use mathlib.Core.Logic.{◌⊎◌, inl, inr, ⊎_elim}
use mathlib.Core.List.{List, [], ◌∷◌}
use mathlib.Core.List.Memᴰ
use mathlib.Core.Bool.{Bool, true, false, ◌||◌, true≢false}
use lib.Dec.{eqb, lit≤}
use lib.ListN.{length}
use borrow.Author.Tests.{eq-eqb, ne_eqb}
use Rattle.rules.specs.01-Lists.{◌∈◌, any, without, put, put_all}
use Rattle.rules.specs.02-Limits.{limits}
use Rattle.rules.specs.03-Names.{Name, blank, well_formed, same_name}
use Rattle.rules.specs.04-Schema.{Schema, Presence, system_presence, new_presence, used_sds, holds_type, holds_name, present, bears}
use Rattle.rules.specs.04-Schema.{with_presences}
use Rattle.rules.specs.06-Good.{presence_before, KnownModes, Good}
use Rattle.rules.specs.09-Refusals.{unknown_sds, system_sds}
use Rattle.rules.specs.Parts.{of_sdss, of_presences, PresenceRows, Nameless, Alike}
use Rattle.rules.proofs.Bools.{and_of}
use Rattle.rules.proofs.01-Lists.{any_at}
use Rattle.rules.proofs.03-Names.{same_blank, same_turned}
use Rattle.rules.proofs.Edits.{put_long, put_each, put_none, put_in, put_new, put_old, without_in, without_keeps, without_long}
use Rattle.rules.proofs.Parts.{presence_there, present_each, parts_of, whole, closed_over}
use Rattle.rules.proofs.Orders.{presence_order, put_rises, without_rises}
use Rattle.history.proofs.Parts.{Rows, Placed, Stayed, Came, placed_at, presences_of, nameless_still, alike_still, applications_over}
use Rattle.history.proofs.Parts.{ends_over}
use Rattle.history.proofs.Passed.{known, aimed}

-- ---- which types are present

-- all are still present where each presence's type is
pub present_over : (ps ps' : List Presence) → ((p : Presence) → p ∈ ps → present (of_presences ps') p.sds p.type ≡ true)
    → (d t : ℕ) → present (of_presences ps) d t ≡ true → present (of_presences ps') d t ≡ true
present_over ps ps' = present_each ps (λ d t. present (of_presences ps') d t ≡ true)

module _ (x : Presence) (ps : List Presence) where
  -- with one more all are present that were, and its type
  pub present_still : (d t : ℕ) → present (of_presences ps) d t ≡ true → present (of_presences (put presence_before x ps)) d t ≡ true
  present_still = present_over ps (put presence_before x ps) (λ p i. presence_there (put_old presence_before x ps i))

  pub present_new : present (of_presences (put presence_before x ps)) x.sds x.type ≡ true
  present_new = presence_there (put_new presence_before x ps)

-- ---- one put in, some taken out

-- a presence that may be put in: of a type that is not there, nameless or under a name that none bears there
pub record RowFits (ns : List Name) (ps : List Presence) (x : Presence) : Type 0 where
  pub in_used : used_sds (of_sdss ns) x.sds ≡ true
  pub outside : x.sds ≡ 0 → ⊥
  pub named : blank x.name || well_formed x.name ≡ true
  pub known : KnownModes x
  pub free : blank x.name ≡ false → any (holds_name x.sds x.name) ps ≡ false
  pub new : any (holds_type x.sds x.type) ps ≡ false

pub row_fits : (s : Schema) (d t : ℕ) (n : Name) → unknown_sds s d ≡ false → system_sds d ≡ false → blank n || well_formed n ≡ true
    → (blank n ≡ false → bears s d n ≡ false) → present s d t ≡ false → RowFits s.sdss s.presences (new_presence d n t)
unfolding used_sds bears present
row_fits s d t n is_Known outside named free new = record {
  in_used = known s d is_Known;
  outside = aimed d outside;
  named = named;
  known = record { usage = lit≤ tt; definition = lit≤ tt };
  free = free;
  new = new;
}

-- of another type than x, and of another name if it has one
pub record Other (x y : Presence) : Type 0 where
  pub type : holds_type y.sds y.type x ≡ false
  pub name : blank y.name ≡ false → holds_name y.sds y.name x ≡ false

pub others : (d : ℕ) {t u : ℕ} {n m : Name} → (t ≡ u → ⊥) → (blank m ≡ false → same_name n m ≡ false) → Other (new_presence d n t) (new_presence d m u)
others d {t} {u} type name = record { type = rw (eq-eqb d d refl) (ne_eqb t u type); name = λ e. rw (eq-eqb d d refl) (name e) }

module _ {ns : List Name} {ps : List Presence} where
  -- it fits still when another, of another name and type, is put in
  pub fits_still : (x : Presence) {y : Presence} → RowFits ns ps y → Other x y → RowFits ns (put presence_before x ps) y
  fits_still x {y} f other = record {
    in_used = f.in_used;
    outside = f.outside;
    named = f.named;
    known = f.known;
    free = λ e. put_none presence_before (holds_name y.sds y.name) x ps (other.name e) (f.free e);
    new = put_none presence_before (holds_type y.sds y.type) x ps other.type f.new;
  }

  module _ (g : Rows ns ps) where
    r : PresenceRows ns ps
    r = g.rows

    pub rows_less : (out : Presence → Bool) → out system_presence ≡ false → Rows ns (without out ps)
    rows_less out stays = record {
      rows = record {
        room = omega (arith, without_long out ps, r.room);
        in_used = λ p i. r.in_used p (was i);
        named = λ p i. r.named p (was i);
        known = λ p i. r.known p (was i);
        unique = λ p q i j. r.unique p q (was i) (was j);
        system = without_keeps out ps r.system stays;
        system_alone = λ p i. r.system_alone p (was i);
        rises = without_rises presence_order out ps r.rises;
      };
      once = λ p q i j. g.once p q (was i) (was j);
    }
      where
        was : {p : Presence} → p ∈ without out ps → p ∈ ps
        was i = (without_in out ps i).0

    pub rows_more : (x : Presence) → length ps + 1 ≤ limits.presences → RowFits ns ps x → Rows ns (put presence_before x ps)
    rows_more x room f = record {
      rows = record {
        room = omega (arith, put_long presence_before x ps);
        in_used = λ p i. put_each presence_before i (λ q. used_sds (of_sdss ns) q.sds ≡ true) f.in_used (r.in_used p);
        named = λ p i. put_each presence_before i (λ q. blank q.name || well_formed q.name ≡ true) f.named (r.named p);
        known = λ p i. put_each presence_before i KnownModes f.known (r.known p);
        unique = λ p q i j d n e. both p q i j
            (λ k l. r.unique p q k l d n e)
            (λ h l. free q l (ap (λ r. r.sds) (sym h) ∙ d) (ap (λ r. blank r.name) (sym h) ∙ n)
            (ap (λ r. same_name q.name r.name) (sym h) ∙ same_turned q.name p.name ∙ e))
            (λ k h. free p k (ap (λ r. r.sds) (sym h) ∙ sym d) (ap (λ r. blank r.name) (sym h) ∙ sym (same_blank p.name q.name e) ∙ n)
            (ap (λ r. same_name p.name r.name) (sym h) ∙ e));
        system = put_old presence_before x ps r.system;
        system_alone = λ p i. put_each presence_before i (λ q. q.sds ≡ 0 → q ≡ system_presence) (λ z. absurd (f.outside z)) (r.system_alone p);
        rises = put_rises presence_order x ps r.rises (λ i. new x i refl refl);
      };
      once = λ p q i j d e. both p q i j
          (λ k l. g.once p q k l d e)
          (λ h l. new q l (ap (λ r. r.sds) (sym h) ∙ d) (ap (λ r. r.type) (sym h) ∙ e))
          (λ k h. new p k (ap (λ r. r.sds) (sym h) ∙ sym d) (ap (λ r. r.type) (sym h) ∙ sym e));
    }
      where
        free : (q : Presence) → q ∈ ps → x.sds ≡ q.sds → blank x.name ≡ false → same_name q.name x.name ≡ true → ⊥
        free q i d named n =
            true≢false (sym (any_at (holds_name x.sds x.name) i
            (and_of (eqb q.sds x.sds) (same_name q.name x.name) (eq-eqb q.sds x.sds (sym d)) n)) ∙ f.free named)

        new : (q : Presence) → q ∈ ps → x.sds ≡ q.sds → x.type ≡ q.type → ⊥
        new q i d t =
            true≢false (sym (any_at (holds_type x.sds x.type) i
            (and_of (eqb q.sds x.sds) (eqb q.type x.type) (eq-eqb q.sds x.sds (sym d)) (eq-eqb q.type x.type (sym t)))) ∙ f.new)

        both : (p q : Presence) → p ∈ put presence_before x ps → q ∈ put presence_before x ps → (p ∈ ps → q ∈ ps → p ≡ q) → (p ≡ x → q ∈ ps → ⊥)
            → (p ∈ ps → q ≡ x → ⊥) → p ≡ q
        both p q i j old first second =
            ⊎_elim
            (λ h. ⊎_elim (λ k. h ∙ sym k) (λ l. absurd (first h l)) (put_in presence_before x ps j))
            (λ m. ⊎_elim (λ k. absurd (second m k)) (λ l. old m l) (put_in presence_before x ps j))
            (put_in presence_before x ps i)

-- each is other than those before it
abbrev pub Apart : List Presence → Type 0
Apart [] = Unit {0}
Apart (x ∷ new) = ((y : Presence) → y ∈ new → Other x y) × Apart new

-- several put in
pub rows_all : {ns : List Name} (new : List Presence) {ps : List Presence} → Rows ns ps → length ps + length new ≤ limits.presences
    → ((x : Presence) → x ∈ new → RowFits ns ps x) → Apart new → Rows ns (put_all presence_before new ps)
unfolding put_all
rows_all [] g room fit apart = g
rows_all (x ∷ new) {ps = ps} g room fit apart =
    rows_all new (rows_more g x (omega arith) (fit x (Memᴰ.head refl))) (omega (arith, put_long presence_before x ps))
    (λ y i. fits_still x (fit y (Memᴰ.tail i)) (apart.0 y i)) apart.1

-- a good schema with its presences changed: all that was present still is, and what was not is there with its parents and its reverse
pub with_presences_good : {s : Schema} → Good s → {ps : List Presence} → Rows s.sdss ps → Nameless s.types ps → Alike s.types ps
    → ((d t : ℕ) → present (of_presences s.presences) d t ≡ true → present (of_presences ps) d t ≡ true)
    → ((p : Presence) → p ∈ ps → (present (of_presences s.presences) p.sds p.type ≡ true) ⊎ Placed s.types ps p.sds p.type)
    → Good (with_presences s ps)
with_presences_good {s} g {ps} rows nameless alike still each =
    let p = parts_of g in
    whole (record {
      sdss = p.sdss;
      types = p.types;
      presences = presences_of rows
          (λ q i. ⊎_elim (λ h. over (placed_at p.presences q.sds q.type h)) (λ c. c) (each q i))
          nameless alike
          (λ t u. let (d, e) = p.presences.somewhere t u in (d, still d t e));
      applications = applications_over s.types s.types s.presences ps (λ t u. refl) still p.applications;
      ends = ends_over s.types s.types s.presences ps (λ t u. refl) still p.ends;
    })
  where
    over : {d t : ℕ} → Placed s.types s.presences d t → Placed s.types ps d t
    over {d} c = record { used = c.used; closed = closed_over (still d) c.closed }

-- what was not there has all modes, and a name unless it is an object type
pub with_more_good : {s : Schema} → Good s → {ps : List Presence} → Rows s.sdss ps
    → ((d t : ℕ) → present (of_presences s.presences) d t ≡ true → present (of_presences ps) d t ≡ true)
    → ((p : Presence) → p ∈ ps → Stayed s.types s.types s.presences p ⊎ (Came s.types s.presences p × Placed s.types ps p.sds p.type))
    → Good (with_presences s ps)
with_more_good {s} g {ps} rows still each =
    let p = parts_of g in
    let was : (q : Presence) → q ∈ ps → Stayed s.types s.types s.presences q ⊎ Came s.types s.presences q
    = λ q i. ⊎_elim inl (λ (c, _). inr c) (each q i) in
    with_presences_good g rows
    (nameless_still p.presences p.types.reverses was)
    (alike_still p.presences p.types.reverses was)
    still
    (λ q i. ⊎_elim
    (λ f. inl (subst₂ (λ d t. present (of_presences s.presences) d t ≡ true) f.sds f.type (presence_there f.there)))
    (λ (_, c). inr c)
    (each q i))
