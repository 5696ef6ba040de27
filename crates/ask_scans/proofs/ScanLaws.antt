-- The sets behind the scans, code by code. Assumes nothing.
use Prim.Native.Nat.{ℕ, ◌+◌, ◌/◌, ◌%◌, ◌≤◌, ◌<◌}
use native.Mathlib.Omega.{arith}
use mathlib.Core.Path.{◌≡◌, refl, sym, ap, ap₂, ◌∙◌}
use mathlib.Core.List.{List, [], ◌∷◌}
use mathlib.Core.Bool.{Bool, true, false, not, ◌&&◌, ◌||◌, and-true, and-false, or-false, true≢false, false≢true}
use lib.Dec.{ltb, eqb}
use borrow.Author.Tests.{eqb-true, eqb-false, ltb-true, ltb-false}
use Rattle.rules.specs.01-Lists.{any, among}
use Rattle.rules.specs.04-Schema.{Schema, Side, is_parent, side_code}
use Rattle.rules.specs.04-Schema.Side.{origin, destination}
use Rattle.rules.specs.05-Descent.{Descends, descends, members}
use Rattle.rules.specs.05-Descent.Descends.{by_parent}
use Rattle.rules.specs.06-Good.{Good}
use Rattle.rules.specs.08-Working.{visible, applied_in, end_in, upward}
use Rattle.rules.proofs.Bools.{same_test, fails}
use Rattle.rules.proofs.01-Lists.{any_at, any_where}
use Rattle.rules.proofs.05-Descent.{members_in, members_of, members_among, descends_sound}
use Rattle.rules.proofs.08-Working.{ancestors_visible}
use Rattle.kin.specs.Kin.{parents_of, children_of, ancestors_of, descendants_of, with_descendants}
use Rattle.kin.proofs.KinLaws.{parent_is, one_member, above}
use Rattle.visible.specs.Shown.{gathered, held_in}
use Rattle.visible.proofs.Rules.{visible_are, attributes_are, links_are, objects_are, attributes_seen, links_seen, objects_seen}
use Rattle.ask_scans.specs.Scans.{object_scan, link_scan, sources, Scanned}

-- ---- members

any_alike : (p q : ℕ → Bool) → ((k : ℕ) → p k ≡ q k) → (l : List ℕ) → any p l ≡ any q l
unfolding any
any_alike p q e [] = refl
any_alike p q e (x ∷ l) = ap₂ ◌||◌ (e x) (any_alike p q e l)

-- some type is in both
members_turned : (p q : ℕ → Bool) → any q (members p) ≡ any p (members q)
members_turned p q = same_test (any q (members p)) (any p (members q)) (turn p q) (turn q p)
  where
    turn : (p q : ℕ → Bool) → any q (members p) ≡ true → any p (members q) ≡ true
    turn p q e =
        let (x, i, h) = any_where q (members p) e in
        let (u, g) = members_in p x i in
        any_at p (members_of q x u h) g

-- a scan whose types are all visible
all_seen : {p y : Bool} {x : Bool} → p ≡ y → (y ≡ true → x ≡ true) → p ≡ x && y
all_seen {p} {y} {x} e seen = e ∙ go y seen
  where
    go : (y : Bool) → (y ≡ true → x ≡ true) → y ≡ x && y
    go true seen = sym (ap (λ (x : Bool). x && true) (seen refl))
    go false seen = sym (and-false x)

-- visible types, and more that may not be
beside : (x v y : Bool) → (x ≡ true → v ≡ true) → x || (v && y) ≡ v && (x || y)
beside true v y seen = sym (ap (λ (b : Bool). b && true) (seen refl))
beside false v y seen = refl

-- ---- a set of one type

module _ (p : ℕ → Bool) (t : ℕ) (small : t < 128) (is : (k : ℕ) → p k ≡ eqb k t) where
  pub one_among : (k : ℕ) → p k ≡ among (t ∷ []) k
  unfolding any
  one_among k = is k ∙ sym (or-false (eqb k t))

  module _ (s : Schema) where
    module _ (sdss r : ℕ → Bool) (code : ℕ) where
      pub child_scan : code ≡ 0 → ((k : ℕ) → r k ≡ held_in s sdss k && children_of s p k) → Scanned s sdss (λ w. object_scan s w t code) r
      unfolding children_of
      child_scan e made = record { is = λ w listed k. rw e (made k ∙ ap₂ ◌&&◌ (visible_are s w sdss listed k) (one_member p t small is (is_parent s k))) }

      module _ (good : Good s) where
        -- the type itself is no descendant
        pub descendant_scan : code ≡ 1 → ((k : ℕ) → r k ≡ with_descendants s sdss p k && not (eqb k t))
            → Scanned s sdss (λ w. object_scan s w t code) r
        unfolding with_descendants descendants_of
        descendant_scan e made = record {
          is = λ w listed k.
              rw e (made k ∙ ap₂ (λ (x y : Bool). (x || y) && not (eqb k t)) (is k) (ap₂ ◌&&◌ (visible_are s w sdss listed k) (one_member p t small is (descends s k)))
              ∙ but_itself w k (eqb k t) refl);
        }
          where
            but_itself : (w : List ℕ) (k : ℕ) (x : Bool) → eqb k t ≡ x → (x || (visible s w k && descends s k t)) && not x ≡ visible s w k && descends s k t
            but_itself w k true same =
                sym (ap (λ (x : Bool). visible s w k && x)
                (fails (descends s k t) (λ d. good.acyclic t (descends_sound good t t (ap (λ (u : ℕ). descends s u t) (sym (eqb-true k t same)) ∙ d))))
                ∙ and-false (visible s w k))
            but_itself w k false other = and-true (visible s w k && descends s k t)

        -- with the type all above it is visible
        module _ (held : held_in s sdss t ≡ true) where
          seen_above : (w : List ℕ) → ((d : ℕ) → sdss d ≡ among w d) → (k : ℕ) → Descends s t k → visible s w k ≡ true
          seen_above w listed k d = ancestors_visible good w t k (sym (visible_are s w sdss listed t) ∙ held) d

          pub parent_scan : code ≡ 2 → ((k : ℕ) → r k ≡ parents_of s p k) → Scanned s sdss (λ w. object_scan s w t code) r
          unfolding parents_of
          parent_scan e made = record {
            is = λ w listed k.
                rw e (all_seen (made k ∙ one_member p t small is (λ u. is_parent s u k)) (λ g. seen_above w listed k (by_parent (parent_is s t k g))));
          }

          pub ancestor_scan : code ≡ 3 → ((k : ℕ) → r k ≡ ancestors_of s p k) → Scanned s sdss (λ w. object_scan s w t code) r
          ancestor_scan e made = record {
            is = λ w listed k. rw e (all_seen (made k ∙ above p t small is s k) (λ g. seen_above w listed k (descends_sound good t k g)));
          }

    -- the type alone, and with its ancestors
    pub source_alone : (all : Bool) → all ≡ false → (k : ℕ) → p k ≡ among (sources s all t) k
    source_alone true e k = absurd (true≢false e)
    source_alone false e k = one_among k

    pub source_all : (all : Bool) → all ≡ true → (q r : ℕ → Bool) → ((k : ℕ) → q k ≡ ancestors_of s p k) → ((k : ℕ) → 128 ≤ k → q k ≡ false)
        → ((k : ℕ) → r k ≡ p k || q k) → (k : ℕ) → r k ≡ among (sources s all t) k
    unfolding upward any
    source_all true e q r up past made k =
        made k ∙ ap₂ ◌||◌ (is k) (up k ∙ above p t small is s k ∙ sym (members_among (descends s t) k (λ h. sym (up k ∙ above p t small is s k) ∙ past k h)))
    source_all false e q r up past made k = absurd (false≢true e)

-- ---- a code without "all", and the next with it

module _ (s : Schema) (t : ℕ) where
  codes_are : (n : ℕ) (f scan : ℕ → Bool) → eqb (n % 2) 1 ≡ false → eqb ((n + 1) % 2) 1 ≡ true → scan n ≡ f t → scan (n + 1) ≡ any f (upward s t)
      → (code : ℕ) → n ≤ code → code < n + 2 → any f (sources s (eqb (code % 2) 1) t) ≡ scan code
  unfolding any
  codes_are n f scan even odd plain «all» code l u = go (eqb code n) refl
    where
      go : (x : Bool) → eqb code n ≡ x → any f (sources s (eqb (code % 2) 1) t) ≡ scan code
      go true e = let same : code ≡ n = eqb-true code n e in rw (same, even, plain) (or-false (f t))
      go false e =
          let other = eqb-false code n e in
          let same : code ≡ n + 1 = omega arith in
          rw (same, odd, «all»)

  module _ (good : Good s) (sdss types : ℕ → Bool) (code : ℕ) (of : (k : ℕ) → types k ≡ among (sources s (eqb (code % 2) 1) t) k) (p : ℕ → Bool) where
    pub attribute_scans : 4 ≤ code → code < 6
        → ((k : ℕ) → p k ≡ gathered (λ x. sdss x.sds && types x.to) (λ x. x.attribute) s.applications k)
        → Scanned s sdss (λ w. object_scan s w t code) p
    attribute_scans l u made = record {
      is = λ w listed k.
          let scan = attributes_are s w sdss listed types (sources s (eqb (code % 2) 1) t) of k
          ∙ codes_are 4 (λ a. applied_in s w a k) (λ c. object_scan s w t c k) refl refl refl refl code l u in
          all_seen (made k ∙ scan) (λ e. attributes_seen s w sdss listed good types k (scan ∙ e));
    }

    -- origins from code 6 on, destinations from code 8 on
    link_scans : (side : Side) (n : ℕ) → eqb (n % 2) 1 ≡ false → eqb ((n + 1) % 2) 1 ≡ true
        → ((w : List ℕ) (k : ℕ) → object_scan s w t n k ≡ end_in s w k side t)
        → ((w : List ℕ) (k : ℕ) → object_scan s w t (n + 1) k ≡ any (λ a. end_in s w k side a) (upward s t)) → n ≤ code → code < n + 2
        → ((k : ℕ) → p k ≡ gathered (λ e. (sdss e.sds && eqb (side_code e.side) (side_code side)) && types e.object) (λ e. e.link) s.ends k)
        → Scanned s sdss (λ w. object_scan s w t code) p
    link_scans side n even odd plain «all» l u made = record {
      is = λ w listed k.
          let scan = links_are s w sdss listed side types (sources s (eqb (code % 2) 1) t) of k
          ∙ codes_are n (λ a. end_in s w k side a) (λ c. object_scan s w t c k) even odd (plain w k) («all» w k) code l u in
          all_seen (made k ∙ scan) (λ e. links_seen s w sdss listed good (side_code side) (λ e. types e.object) k (scan ∙ e));
    }

    pub origin_scans : 6 ≤ code → code < 8
        → ((k : ℕ) → p k ≡ gathered (λ e. (sdss e.sds && eqb (side_code e.side) 0) && types e.object) (λ e. e.link) s.ends k)
        → Scanned s sdss (λ w. object_scan s w t code) p
    origin_scans = link_scans origin 6 refl refl (λ w k. refl) (λ w k. refl)

    pub destination_scans : 8 ≤ code → code < 10
        → ((k : ℕ) → p k ≡ gathered (λ e. (sdss e.sds && eqb (side_code e.side) 1) && types e.object) (λ e. e.link) s.ends k)
        → Scanned s sdss (λ w. object_scan s w t code) p
    destination_scans = link_scans destination 8 refl refl (λ w k. refl) (λ w k. refl)

-- ---- the ends of a link type

module _ (s : Schema) (good : Good s) (t : ℕ) (sdss : ℕ → Bool) where
  abbrev ends_on : ℕ → ℕ → Bool
  ends_on side = gathered (λ e. (sdss e.sds && eqb (side_code e.side) side) && eqb e.link t) (λ e. e.object) s.ends

  -- "All" adds descendants of the object types
  and_descendants : (p f : ℕ → Bool) → ((k : ℕ) → p k ≡ f k) → (k : ℕ) → p k || descendants_of s p k ≡ any f (upward s k)
  unfolding descendants_of upward any
  and_descendants p f e k = ap₂ ◌||◌ (e k) (members_turned p (descends s k) ∙ any_alike p f e (members (descends s k)))

  module _ (code : ℕ) (u : code < 4) (p : ℕ → Bool) (made : (k : ℕ) → p k ≡ ends_on (code / 2) k) where
    plain : (side : Side) (w : List ℕ) → code / 2 ≡ side_code side → ((d : ℕ) → sdss d ≡ among w d) → (k : ℕ) → p k ≡ end_in s w t side k
    plain side w e listed k = made k ∙ ap (λ (x : ℕ). ends_on x k) e ∙ objects_are s w sdss listed side t k

    p_seen : (w : List ℕ) → ((d : ℕ) → sdss d ≡ among w d) → (k : ℕ) → p k ≡ true → visible s w k ≡ true
    p_seen w listed k e = objects_seen s w sdss listed good (code / 2) (λ x. eqb x.link t) k (sym (made k) ∙ e)

    half_low : code < 2 → code / 2 ≡ 0
    half_low h = omega arith

    half_high : 2 ≤ code → code / 2 ≡ 1
    half_high h = omega arith

    pub end_scans : code % 2 ≡ 0 → Scanned s sdss (λ w. link_scan s w t code) p
    end_scans even = record {
      is = λ w listed k. let scan = go w listed k (ltb code 2) refl in all_seen scan (λ e. p_seen w listed k (scan ∙ e));
    }
      where
        go : (w : List ℕ) → ((d : ℕ) → sdss d ≡ among w d) → (k : ℕ) → (x : Bool) → ltb code 2 ≡ x → p k ≡ link_scan s w t code k
        go w listed k true e =
            let same : code ≡ 0 = omega (arith, ltb-true code 2 e) in
            plain origin w (half_low (ltb-true code 2 e)) listed k ∙ ap (λ (c : ℕ). link_scan s w t c k) (sym same)
        go w listed k false e =
            let same : code ≡ 2 = omega (arith, ltb-false code 2 e) in
            plain destination w (half_high (ltb-false code 2 e)) listed k ∙ ap (λ (c : ℕ). link_scan s w t c k) (sym same)

    pub end_all_scans : (code % 2 ≡ 0 → ⊥) → (r : ℕ → Bool) → ((k : ℕ) → r k ≡ with_descendants s sdss p k)
        → Scanned s sdss (λ w. link_scan s w t code) r
    unfolding with_descendants
    end_all_scans odd r down = record { is = λ w listed k. go w listed k (ltb code 2) refl }
      where
        all_of : (side : Side) (w : List ℕ) → code / 2 ≡ side_code side → ((d : ℕ) → sdss d ≡ among w d) → (k : ℕ)
            → r k ≡ visible s w k && any (λ a. end_in s w t side a) (upward s k)
        all_of side w e listed k =
            down k ∙ ap (λ (x : Bool). p k || (x && descendants_of s p k)) (visible_are s w sdss listed k)
            ∙ beside (p k) (visible s w k) (descendants_of s p k) (p_seen w listed k)
            ∙ ap (λ (x : Bool). visible s w k && x) (and_descendants p (λ a. end_in s w t side a) (plain side w e listed) k)

        go : (w : List ℕ) → ((d : ℕ) → sdss d ≡ among w d) → (k : ℕ) → (x : Bool) → ltb code 2 ≡ x → r k ≡ visible s w k && link_scan s w t code k
        go w listed k true e =
            let same : code ≡ 1 = omega (arith, ltb-true code 2 e) in
            all_of origin w (half_low (ltb-true code 2 e)) listed k ∙ ap (λ (c : ℕ). visible s w k && link_scan s w t c k) (sym same)
        go w listed k false e =
            let same : code ≡ 3 = omega (arith, ltb-false code 2 e) in
            all_of destination w (half_high (ltb-false code 2 e)) listed k ∙ ap (λ (c : ℕ). visible s w k && link_scan s w t c k) (sym same)

  pub applied_scan : (code : ℕ) → code ≡ 4 → (types p : ℕ → Bool) → ((k : ℕ) → types k ≡ among (t ∷ []) k)
      → ((k : ℕ) → p k ≡ gathered (λ x. sdss x.sds && types x.to) (λ x. x.attribute) s.applications k)
      → Scanned s sdss (λ w. link_scan s w t code) p
  unfolding any
  applied_scan code e types p of made = record {
    is = λ w listed k.
        let scan = attributes_are s w sdss listed types (t ∷ []) of k ∙ or-false (applied_in s w t k) ∙ ap (λ (c : ℕ). link_scan s w t c k) (sym e) in
        all_seen (made k ∙ scan) (λ g. attributes_seen s w sdss listed good types k (scan ∙ g));
  }
