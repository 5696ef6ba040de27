-- Ways up. Where parents are numbered below their children none is its own ancestor. Else a walk settles type after type; the types of
-- a way that is longer than there are types are not all different, so one of them is its own ancestor. Assumes nothing.
use Prim.Native.Nat.{ℕ, suc, ◌+◌, ◌-◌, ◌≤◌, ◌<◌}
use native.Mathlib.Numerals.{add-one}
use native.Mathlib.Omega.{arith}
use mathlib.Core.Path.{◌≡◌, refl, sym, ap, ◌∙◌}
use mathlib.Core.Logic.{◌⊎◌, inl, inr, ⊎_elim}
use mathlib.Core.List.Memᴰ
use mathlib.Core.List.{List, [], ◌∷◌}
use mathlib.Core.Bool.{Bool, true, false, ◌||◌, false≢true}
use lib.Dec.{eqb, ltb}
use lib.ListN.{length, get_or, set, drop, length-set, length-drop, drop_of_length-le}
use lib.Seq.{drop-cons, drop-set-lt, get_or-set_same}
use borrow.Author.Tests.{eqb-true, eq-eqb, ne_eqb, ltb-true, ltb-false}
use Rattle.rules.specs.01-Lists.{◌∈◌}
use Rattle.rules.specs.04-Schema.{Schema, is_object, kind_of}
use Rattle.rules.specs.05-Descent.{Parent, Descends, members}
use Rattle.rules.specs.05-Descent.Descends.{by_parent, by_step}
use Rattle.rules.specs.Read.{count_offset, parents_offset}
use Rattle.rules.proofs.Bools.{or_cases, or_left, or_right}
use Rattle.rules.proofs.01-Lists.{Different}
use Rattle.rules.specs.Parts.{Acyclic}
use Rattle.rules.proofs.05-Descent.{past, child_object, descends_over, members_at_most, members_most}
use Rattle.rules.proofs.Parts.{parent_in, parent_of}
use Rattle.base.specs.Rows.{type_at}
use Rattle.base.specs.Back.{schema_of}
use Rattle.type_set.proofs.Members.{members_same}
use Rattle.graph.specs.Graph.{reached, Unsettled, AllSettled, Grounded, AllGrounded, Settled}
use Rattle.graph.specs.Graph.Grounded.{ground}
use Rattle.lookup.specs.Parents.{Parental, Falling}
use Rattle.lookup.proofs.Parents.{object_below, parent_below, parent_at, parent_place}

-- a way up from t: each type on it is a parent of the one before
abbrev pub Way : Schema → ℕ → List ℕ → Type 0
Way s t [] = Unit {0}
Way s t (a ∷ l) = Parent s (reached t l) a × Way s t l

-- a walk that began with p₀ settled, has settled p, and is on a way up from t, which stands in w from `at` on: what is settled is grounded,
-- what is on the way is not settled
pub record Walk (s : Schema) (p₀ p : ℕ → Bool) (t : ℕ) (w : List ℕ) (at : ℕ) : Type 0 where
  pub grounded : AllGrounded s p
  pub kept : (k : ℕ) → p₀ k ≡ true → p k ≡ true
  pub way : Way s t (drop at w)
  pub out : (x : ℕ) → x ∈ drop at w → p x ≡ false

-- ---- where a way has come to

module _ (t : ℕ) (w : List ℕ) (at : ℕ) where
  pub reached_none : length w ≤ at → t ≡ reached t (drop at w)
  reached_none h = rw (drop_of_length-le w h)

  pub reached_at : at < length w → get_or w at 0 ≡ reached t (drop at w)
  reached_at h = rw (drop-cons w at 0 h)

pub reached_set : (t : ℕ) (w : List ℕ) (at a : ℕ) → at < length w → a ≡ reached t (drop at (set w at a))
reached_set t w at a h = sym (get_or-set_same w at a 0 h) ∙ reached_at t (set w at a) at (omega (arith, length-set w at a))

-- ---- on any schema

module _ {s : Schema} where
  -- where parents are numbered below their children
  falls : Falling s → {t a : ℕ} → Descends s t a → a < t
  falls f (by_parent {t = t} {a = a} by) = f t a by
  falls f (by_step {t = t} {p = p} by d) = omega (arith, f t p by, falls f d)

  pub falling_acyclic : Falling s → Acyclic s.types
  falling_acyclic f t d = omega (arith, falls f (descends_over parent_of d))

  -- where every way up ends there is no way around
  loopless : {t : ℕ} → Grounded s t → Descends s t t → ⊥
  loopless (ground f) d =
      let (a, by, r) = first d in
      loopless (f a by) (⊎_elim (λ e. rw e d) (λ g. past g by) r)
    where
      first : {t u : ℕ} → Descends s t u → (a : ℕ) × Parent s t a × ((a ≡ u) ⊎ Descends s a u)
      first {u = u} (by_parent by) = (u, by, inl refl)
      first (by_step {p = a} by d) = (a, by, inr d)

  -- what a way has left descends from where it has come to
  left : (t a : ℕ) (l : List ℕ) → Way s t (a ∷ l) → (x : ℕ) → x ∈ (t ∷ l) → Descends s x a
  left t a [] (by, w) x i = ⊎_elim (λ e. rw e (by_parent by)) (λ j. absurd (Memᴰ.not-nil j)) (Memᴰ.cases_cons i)
  left t a (b ∷ l) (by, w) x i =
      ⊎_elim
      (λ e. past (left t b l w x (Memᴰ.head e)) by)
      (λ j. ⊎_elim (λ e. rw e (by_parent by)) (λ k. past (left t b l w x (Memᴰ.tail k)) by) (Memᴰ.cases_cons j))
      (Memᴰ.cases_cons i)

  -- so where no type is its own ancestor a way meets none twice
  apart : ((x : ℕ) → Descends s x x → ⊥) → (t : ℕ) (l : List ℕ) → Way s t l → Different (t ∷ l)
  apart h t [] w = (Memᴰ.not-nil, tt)
  apart h t (a ∷ l) (by, w) =
      let up : (x : ℕ) → x ∈ (t ∷ l) → Descends s x a = left t a l (by, w) in
      let (other, rest) = apart h t l w in (
        (λ i. ⊎_elim (λ e. h t (rw (← e) at (up t (Memᴰ.head refl)))) other (Memᴰ.cases_cons i)),
        ((λ i. h a (up a (Memᴰ.tail i))), rest),
      )

  pub walk_none : (p : ℕ → Bool) (t : ℕ) (w : List ℕ) → length w ≡ 128 → AllGrounded s p → Walk s p p t w 128
  walk_none p t w long all =
      let empty : drop 128 w ≡ [] = drop_of_length-le w {i = 128} (omega arith) in
      record {
        grounded = all;
        kept = λ k e. e;
        way = rw empty tt;
        out = rw empty (λ x i. absurd (Memᴰ.not-nil i));
      }

  module _ {p₀ p : ℕ → Bool} {t : ℕ} {w : List ℕ} {at : ℕ} (walk : Walk s p₀ p t w at) {c : ℕ} (here : c ≡ reached t (drop at w)) where
    -- from c, where it has come to, a way goes on to a parent that is not settled
    pub walk_up : {a : ℕ} → at ≤ length w → 0 < at → Parent s c a → p a ≡ false → Walk s p₀ p t (set w (at - 1) a) (at - 1)
    walk_up {a} le more by e = record {
      grounded = walk.grounded;
      kept = walk.kept;
      way = rw longer ((rw here at by), walk.way);
      out = rw longer (λ x i. ⊎_elim (λ q. rw q e) (walk.out x) (Memᴰ.cases_cons i));
    }
      where
        longer : drop (at - 1) (set w (at - 1) a) ≡ a ∷ drop at w
        longer =
            let up : suc (at - 1) ≡ at = omega arith in
            drop-cons (set w (at - 1) a) (at - 1) 0 (omega (arith, length-set w (at - 1) a))
            ∙ rw (get_or-set_same w (at - 1) a 0 (omega arith), up, drop-set-lt at w (at - 1) a (omega arith))

    -- where all its parents are settled c is: r is p with c
    module _ {r : ℕ → Bool} (parents : AllSettled s p c) (made : (k : ℕ) → r k ≡ eqb k c || p k) where
      ends : Grounded s c
      ends = ground (λ a by. walk.grounded a (parents a by))

      stays : (k : ℕ) → p k ≡ true → r k ≡ true
      stays k e = made k ∙ or_right (eqb k c) (p k) e

      settled : r c ≡ true
      settled = made c ∙ or_left (eqb c c) (p c) (eq-eqb c c refl)

      still : AllGrounded s r
      still k e = ⊎_elim (λ i. rw (eqb-true k c i) ends) (walk.grounded k) (or_cases (eqb k c) (p k) (sym (made k) ∙ e))

      -- with nothing on the way c is t, and all is done
      pub walk_done : length w ≤ at → Settled s p₀ t r
      walk_done over =
          let none : drop at w ≡ [] = drop_of_length-le w over in
          record {
            kept = λ k e. stays k (walk.kept k e);
            here = rw (← (here ∙ ap (reached t) none)) settled;
            grounded = still;
          }

      -- else c is the last on the way, and goes off it
      module _ (h : at < length w) where
        last : drop at w ≡ c ∷ drop (at + 1) w
        last =
            let split : drop at w ≡ get_or w at 0 ∷ drop (at + 1) w = rw (add-one at) (drop-cons w at 0 h) in
            split ∙ ap (λ (x : ℕ). x ∷ drop (at + 1) w) (sym (here ∙ ap (reached t) split))

        before : (x : ℕ) → x ∈ (c ∷ drop (at + 1) w) → p x ≡ false
        before = rw last at walk.out

        trail : Way s t (c ∷ drop (at + 1) w)
        trail = rw last at walk.way

        pub settles_more : c < 128 → length (members p) < length (members r)
        settles_more u = go (ltb (length (members p)) (length (members r))) refl
          where
            go : (b : Bool) → ltb (length (members p)) (length (members r)) ≡ b → length (members p) < length (members r)
            go true e = ltb-true (length (members p)) (length (members r)) e
            go false e =
                let same = members_same p r stays (ltb-false (length (members p)) (length (members r)) e) c u settled in
                absurd (false≢true (sym (before c (Memᴰ.head refl)) ∙ same))

        pub walk_down : Walk s p₀ r t w (at + 1)
        walk_down = record {
          grounded = still;
          kept = λ k e. stays k (walk.kept k e);
          way = trail.1;
          out = λ x i.
              let other : x ≡ c → ⊥ = λ e. loopless ends (rw e at (left t c (drop (at + 1) w) trail x (Memᴰ.tail i))) in
              made x ∙ rw (ne_eqb x c other) (before x (Memᴰ.tail i));
        }

-- ---- on a base

module _ (b : List ℕ) where
  -- with every type grounded there is no way around
  pub all_grounded : ((k : ℕ) → k < 128 → Grounded (schema_of b) k) → Acyclic (schema_of b).types
  all_grounded all t d =
      let around = descends_over parent_of d in
      loopless (all t (object_below b t (child around))) around
    where
      child : {t a : ℕ} → Descends (schema_of b) t a → is_object (kind_of (schema_of b) t) ≡ true
      child (by_parent by) = child_object by
      child (by_step by d) = child_object by

module _ {b : List ℕ} (rows : Parental b) where
  -- a parent that is not settled stands at a place below the count, and where none does all are
  module _ (p : ℕ → Bool) (t : ℕ) (h : t < 128) where
    pub unsettled_at : (i a : ℕ) → i < get_or b (type_at t + count_offset) 0 → a ≡ get_or b (type_at t + parents_offset + i) 0 → p a ≡ false
        → Unsettled (schema_of b) p t a
    unsettled_at i a l e o =
        let by : Parent (schema_of b) t a = rw e (parent_at rows t h i l) in
        record { parent = by; out = o }

    pub unsettled_none : ((i : ℕ) → i < get_or b (type_at t + count_offset) 0 → p (get_or b (type_at t + parents_offset + i) 0) ≡ true)
        → AllSettled (schema_of b) p t
    unsettled_none f a by = let (i, l, e) = parent_place rows t h a by in rw e at (f i l)

  module _ (t : ℕ) (h : t < 128) where
    on_way : (l : List ℕ) → Way (schema_of b) t l → (x : ℕ) → x ∈ (t ∷ l) → x < 128
    on_way [] w x i = ⊎_elim (λ e. rw e h) (λ j. absurd (Memᴰ.not-nil j)) (Memᴰ.cases_cons i)
    on_way (a ∷ l) (by, w) x i =
        ⊎_elim
        (λ e. rw e h)
        (λ j. ⊎_elim (λ e. rw e (parent_below rows by)) (λ k. on_way l w x (Memᴰ.tail k)) (Memᴰ.cases_cons j))
        (Memᴰ.cases_cons i)

    come_to : (l : List ℕ) → Way (schema_of b) t l → reached t l < 128
    come_to [] w = h
    come_to (a ∷ l) (by, w) = parent_below rows by

    module _ {p₀ p : ℕ → Bool} {w : List ℕ} {at : ℕ} (walk : Walk (schema_of b) p₀ p t w at) where
      pub reached_below : {c : ℕ} → c ≡ reached t (drop at w) → c < 128
      reached_below here = rw here (come_to (drop at w) walk.way)

      -- with t, a way of 128 types has more than there are
      pub too_long : length w ≡ 128 → at ≡ 0 → Acyclic (schema_of b).types → ⊥
      too_long long full acyclic =
          let way = t ∷ drop at w in
          let different = apart (λ x d. acyclic x (descends_over parent_in d)) t (drop at w) walk.way in
          omega (
            arith,
            members_at_most (λ x. true) way different (λ x i. (on_way (drop at w) walk.way x i, refl)),
            members_most (λ x. true),
            length-drop at w,
          )
