-- The sets that are gathered are what the rules say that a working schema shows. Assumes nothing.
use Prim.Native.Nat.{ℕ}
use mathlib.Core.Path.{◌≡◌, refl, sym, ap, ◌∙◌}
use mathlib.Core.List.{List}
use mathlib.Core.Bool.{Bool, true, ◌&&◌}
use lib.Dec.{eqb}
use borrow.Author.Tests.{eqb-true, eq-eqb}
use Rattle.rules.specs.01-Lists.{◌∈◌, any, among}
use Rattle.rules.specs.04-Schema.{Schema, Side, End, holds_type, present, is_application, applied, side_code, is_end, has_end}
use Rattle.rules.specs.05-Descent.{Parent}
use Rattle.rules.specs.06-Good.{Good}
use Rattle.rules.specs.08-Working.{visible, applied_in, end_in}
use Rattle.rules.proofs.Bools.{same_test, and_both, and_of}
use Rattle.rules.proofs.01-Lists.{any_at, any_where, among_in, in_among}
use Rattle.visible.specs.Shown.{gathered, held_in}

-- a row that passes and puts k in
module _ {A : Type 0} (test : A → Bool) (type : A → ℕ) (l : List A) (k : ℕ) where
  pub gathered_where : gathered test type l k ≡ true → (x : A) × (x ∈ l) × (test x ≡ true) × (k ≡ type x)
  unfolding gathered
  gathered_where e =
      let (x, i, h) = any_where (λ x. test x && eqb k (type x)) l e in
      let (t, q) = and_both (test x) (eqb k (type x)) h in
      (x, i, t, eqb-true k (type x) q)

  pub gathered_at : {x : A} → x ∈ l → test x ≡ true → k ≡ type x → gathered test type l k ≡ true
  unfolding gathered
  gathered_at {x} i t q = any_at (λ x. test x && eqb k (type x)) i (and_of (test x) (eqb k (type x)) t (eq-eqb k (type x) q))

-- an SDS that holds a type holds its parents
pub held_up : {s : Schema} → Good s → (sdss : ℕ → Bool) (k a : ℕ) → held_in s sdss k ≡ true → Parent s k a → held_in s sdss a ≡ true
unfolding present
held_up {s} good sdss k a e by =
    let (p, i, t, q) = gathered_where (λ p. sdss p.sds) (λ p. p.type) s.presences k e in
    let here : present s p.sds k ≡ true
    = any_at (holds_type p.sds k) i
    (and_of (eqb p.sds p.sds) (eqb p.type k) (eq-eqb p.sds p.sds refl) (eq-eqb p.type k (sym q))) in
    let (x, j, g) = any_where (holds_type p.sds a) s.presences (good.parents_present p.sds k a here by) in
    let (u, v) = and_both (eqb x.sds p.sds) (eqb x.type a) g in
    gathered_at (λ p. sdss p.sds) (λ p. p.type) s.presences a j (ap sdss (eqb-true x.sds p.sds u) ∙ t) (sym (eqb-true x.type a v))

module _ (s : Schema) (w : List ℕ) (sdss : ℕ → Bool) (listed : (d : ℕ) → sdss d ≡ among w d) where
  inside : {d : ℕ} → sdss d ≡ true → d ∈ w
  inside {d} e = among_in w d (sym (listed d) ∙ e)

  held : {d : ℕ} → d ∈ w → sdss d ≡ true
  held {d} i = listed d ∙ in_among i

  -- what one of these SDSs holds is visible
  seen : (d k : ℕ) → sdss d ≡ true → present s d k ≡ true → visible s w k ≡ true
  unfolding visible
  seen d k e h = any_at (λ d. present s d k) (inside e) h

  pub visible_are : (k : ℕ) → held_in s sdss k ≡ visible s w k
  unfolding visible present
  visible_are k =
      same_test (held_in s sdss k) (any (λ d. any (holds_type d k) s.presences) w)
      (λ e.
      let (p, i, t, q) = gathered_where (λ p. sdss p.sds) (λ p. p.type) s.presences k e in
      any_at (λ d. any (holds_type d k) s.presences) (inside t)
      (any_at (holds_type p.sds k) i (and_of (eqb p.sds p.sds) (eqb p.type k) (eq-eqb p.sds p.sds refl) (eq-eqb p.type k (sym q)))))
      (λ e.
      let (d, i, h) = any_where (λ d. any (holds_type d k) s.presences) w e in
      let (p, j, g) = any_where (holds_type d k) s.presences h in
      let (x, y) = and_both (eqb p.sds d) (eqb p.type k) g in
      gathered_at (λ p. sdss p.sds) (λ p. p.type) s.presences k j (ap sdss (eqb-true p.sds d x) ∙ held i) (sym (eqb-true p.type k y)))

  module _ (types : ℕ → Bool) (l : List ℕ) (of : (t : ℕ) → types t ≡ among l t) where
    pub attributes_are : (k : ℕ)
        → gathered (λ x. sdss x.sds && types x.to) (λ x. x.attribute) s.applications k ≡ any (λ a. applied_in s w a k) l
    unfolding applied_in applied
    attributes_are k =
        same_test (gathered (λ x. sdss x.sds && types x.to) (λ x. x.attribute) s.applications k)
        (any (λ a. any (λ d. any (is_application d a k) s.applications) w) l)
        (λ e.
        let (x, i, t, q) = gathered_where (λ x. sdss x.sds && types x.to) (λ x. x.attribute) s.applications k e in
        let (u, v) = and_both (sdss x.sds) (types x.to) t in
        any_at (λ a. any (λ d. any (is_application d a k) s.applications) w) (among_in l x.to (sym (of x.to) ∙ v))
        (any_at (λ d. any (is_application d x.to k) s.applications) (inside u)
        (any_at (is_application x.sds x.to k) i
        (and_of (eqb x.sds x.sds) (eqb x.to x.to && eqb x.attribute k) (eq-eqb x.sds x.sds refl)
        (and_of (eqb x.to x.to) (eqb x.attribute k) (eq-eqb x.to x.to refl) (eq-eqb x.attribute k (sym q)))))))
        (λ e.
        let (a, i, h) = any_where (λ a. any (λ d. any (is_application d a k) s.applications) w) l e in
        let (d, j, g) = any_where (λ d. any (is_application d a k) s.applications) w h in
        let (x, m, f) = any_where (is_application d a k) s.applications g in
        let (u, v) = and_both (eqb x.sds d) (eqb x.to a && eqb x.attribute k) f in
        let (y, z) = and_both (eqb x.to a) (eqb x.attribute k) v in
        gathered_at (λ x. sdss x.sds && types x.to) (λ x. x.attribute) s.applications k m
        (and_of (sdss x.sds) (types x.to) (ap sdss (eqb-true x.sds d u) ∙ held j) (ap types (eqb-true x.to a y) ∙ of a ∙ in_among i))
        (sym (eqb-true x.attribute k z)))

  module _ (side : Side) where
    -- an end that is listed, on this side
    abbrev counts : End → Bool
    counts e = sdss e.sds && eqb (side_code e.side) (side_code side)

    -- one row of ends says all four
    row_is : (e : End) → is_end e.sds e.link side e.object e ≡ eqb (side_code e.side) (side_code side)
    row_is e = rw (eq-eqb e.sds e.sds refl, eq-eqb e.link e.link refl, eq-eqb e.object e.object refl) (mathlib.Core.Bool.and-true _)

    end_at : (e : End) → e ∈ s.ends → counts e ≡ true → end_in s w e.link side e.object ≡ true
    unfolding end_in has_end
    end_at e i t =
        let (u, v) = and_both (sdss e.sds) (eqb (side_code e.side) (side_code side)) t in
        any_at (λ d. any (is_end d e.link side e.object) s.ends) (inside u) (any_at (is_end e.sds e.link side e.object) i (row_is e ∙ v))

    end_where : (l o : ℕ) → end_in s w l side o ≡ true → (e : End) × (e ∈ s.ends) × (counts e ≡ true) × (e.link ≡ l) × (e.object ≡ o)
    unfolding end_in has_end
    end_where l o h =
        let (d, j, g) = any_where (λ d. any (is_end d l side o) s.ends) w h in
        let (e, m, f) = any_where (is_end d l side o) s.ends g in
        let (u, v) = and_both (eqb e.sds d) (eqb e.link l && (eqb (side_code e.side) (side_code side) && eqb e.object o)) f in
        let (x, y) = and_both (eqb e.link l) (eqb (side_code e.side) (side_code side) && eqb e.object o) v in
        let (z, t) = and_both (eqb (side_code e.side) (side_code side)) (eqb e.object o) y in (
          e,
          m,
          and_of (sdss e.sds) (eqb (side_code e.side) (side_code side)) (ap sdss (eqb-true e.sds d u) ∙ held j) z,
          eqb-true e.link l x,
          eqb-true e.object o t,
        )

    pub links_are : (types : ℕ → Bool) (l : List ℕ) → ((t : ℕ) → types t ≡ among l t) → (k : ℕ)
        → gathered (λ e. (sdss e.sds && eqb (side_code e.side) (side_code side)) && types e.object) (λ e. e.link) s.ends k
        ≡ any (λ a. end_in s w k side a) l
    links_are types l of k =
        same_test (gathered (λ e. counts e && types e.object) (λ e. e.link) s.ends k) (any (λ a. end_in s w k side a) l)
        (λ h.
        let (e, i, t, q) = gathered_where (λ e. counts e && types e.object) (λ e. e.link) s.ends k h in
        let (u, v) = and_both (counts e) (types e.object) t in
        any_at (λ a. end_in s w k side a) (among_in l e.object (sym (of e.object) ∙ v))
        (ap (λ (x : ℕ). end_in s w x side e.object) q ∙ end_at e i u))
        (λ h.
        let (a, i, g) = any_where (λ a. end_in s w k side a) l h in
        let (e, m, t, x, y) = end_where k a g in
        gathered_at (λ e. counts e && types e.object) (λ e. e.link) s.ends k m
        (and_of (counts e) (types e.object) t (ap types y ∙ of a ∙ in_among i)) (sym x))

    pub objects_are : (link k : ℕ)
        → gathered (λ e. (sdss e.sds && eqb (side_code e.side) (side_code side)) && eqb e.link link) (λ e. e.object) s.ends k
        ≡ end_in s w link side k
    objects_are link k =
        same_test (gathered (λ e. counts e && eqb e.link link) (λ e. e.object) s.ends k) (end_in s w link side k)
        (λ h.
        let (e, i, t, q) = gathered_where (λ e. counts e && eqb e.link link) (λ e. e.object) s.ends k h in
        let (u, v) = and_both (counts e) (eqb e.link link) t in
        ap (λ (x : ℕ). end_in s w x side k) (sym (eqb-true e.link link v)) ∙ ap (end_in s w e.link side) q ∙ end_at e i u)
        (λ h.
        let (e, m, t, x, y) = end_where link k h in
        gathered_at (λ e. counts e && eqb e.link link) (λ e. e.object) s.ends k m
        (and_of (counts e) (eqb e.link link) t (eq-eqb e.link link x)) (sym y))

  -- ---- and so is what is applied, or is an end, in one of these SDSs

  module _ (good : Good s) where
    pub attributes_seen : (types : ℕ → Bool) (k : ℕ)
        → gathered (λ x. sdss x.sds && types x.to) (λ x. x.attribute) s.applications k ≡ true → visible s w k ≡ true
    attributes_seen types k e =
        let (x, i, t, q) = gathered_where (λ x. sdss x.sds && types x.to) (λ x. x.attribute) s.applications k e in
        let (u, v) = and_both (present s x.sds x.to) (present s x.sds x.attribute) (good.application_present x i) in
        seen x.sds k (and_both (sdss x.sds) (types x.to) t).0 (ap (present s x.sds) q ∙ v)

    module _ (side : ℕ) (also : End → Bool) (k : ℕ) where
      pub links_seen : gathered (λ e. (sdss e.sds && eqb (side_code e.side) side) && also e) (λ e. e.link) s.ends k ≡ true
          → visible s w k ≡ true
      links_seen h =
          let (e, i, t, q) = gathered_where (λ e. (sdss e.sds && eqb (side_code e.side) side) && also e) (λ e. e.link) s.ends k h in
          let (u, v) = and_both (present s e.sds e.link) (present s e.sds e.object) (good.end_present e i) in
          seen e.sds k (and_both (sdss e.sds) _ (and_both (sdss e.sds && eqb (side_code e.side) side) (also e) t).0).0
          (ap (present s e.sds) q ∙ u)

      pub objects_seen : gathered (λ e. (sdss e.sds && eqb (side_code e.side) side) && also e) (λ e. e.object) s.ends k ≡ true
          → visible s w k ≡ true
      objects_seen h =
          let (e, i, t, q) = gathered_where (λ e. (sdss e.sds && eqb (side_code e.side) side) && also e) (λ e. e.object) s.ends k h in
          let (u, v) = and_both (present s e.sds e.link) (present s e.sds e.object) (good.end_present e i) in
          seen e.sds k (and_both (sdss e.sds) _ (and_both (sdss e.sds && eqb (side_code e.side) side) (also e) t).0).0
          (ap (present s e.sds) q ∙ v)
