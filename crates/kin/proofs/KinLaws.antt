-- Laws of parents and children. What is left decides: the parents or the types that a loop has not come to, with what it has found, make
-- its answer. Assumes nothing.
use Prim.Native.Nat.{ℕ, ◌+◌, ◌<◌}
use native.Mathlib.Numerals.{add-one}
use native.Mathlib.Omega.{arith}
use mathlib.Core.Path.{◌≡◌, refl, sym, ap, ◌∙◌}
use mathlib.Core.Logic.{◌⊎◌, inl, inr, ⊎_elim}
use mathlib.Core.List.{List}
use mathlib.Core.Bool.{Bool, true, false, not, ◌&&◌, ◌||◌, and-false, or-false, false≢true}
use lib.Dec.{eqb, ltb}
use lib.ListN.{length, get_or, drop}
use lib.Seq.{drop-cons, drop-length}
use borrow.Author.Tests.{eqb-true, eq-eqb, ltb-true, ltb-false}
use Rattle.rules.specs.01-Lists.{any}
use Rattle.rules.specs.04-Schema.{Schema, parents, is_parent}
use Rattle.rules.specs.05-Descent.{Parent, descends, members}
use Rattle.rules.specs.Read.{count_offset, parents_offset}
use Rattle.rules.proofs.Bools.{same_test, or_cases, or_left, or_right, and_both}
use Rattle.rules.proofs.01-Lists.{any_at, any_where, numbers_none}
use Rattle.rules.proofs.05-Descent.{members_in, members_of, child_object}
use Rattle.base.specs.Rows.{type_at}
use Rattle.base.specs.Back.{schema_of}
use Rattle.type_set.specs.declared.TypeSet.{TypeSet}
use Rattle.type_set.specs.Set.{has}
use Rattle.type_set.specs.Round.{grow_to}
use Rattle.type_set.proofs.Set.{has_past}
use Rattle.type_set.proofs.Members.{members_fewer}
use Rattle.type_set.proofs.Round.{grow_cases, grow_taken}
use Rattle.lookup.specs.Parents.{Parental}
use Rattle.kin.specs.Kin.{parents_of, children_of, ancestors_of}
use Rattle.lookup.proofs.Parents.{object_below, parent_below, parents_count, parents_place}

-- ---- tests

-- what is found goes over from what is left
moved : (x left found : Bool) → left || (x || found) ≡ (x || left) || found
moved true true found = refl
moved true false found = refl
moved false left found = refl

-- some element from place i on passes: that one, or one behind it
any_left : (f : ℕ → Bool) (l : List ℕ) (i : ℕ) → i < length l → any f (drop i l) ≡ f (get_or l i 0) || any f (drop (i + 1) l)
unfolding any
any_left f l i h = rw (drop-cons l i 0 h, add-one i)

-- some type of p passes
pub any_member : (f p : ℕ → Bool) → any f (members p) ≡ true → (t : ℕ) × (t < 128) × (p t ≡ true) × (f t ≡ true)
any_member f p e =
    let (t, i, h) = any_where f (members p) e in
    let (l, g) = members_in p t i in
    (t, l, g, h)

-- `is_parent` and `Parent` say the same
module _ (s : Schema) (t a : ℕ) where
  pub parent_is : is_parent s t a ≡ true → Parent s t a
  unfolding is_parent
  parent_is e = let (x, i, g) = any_where (eqb a) (parents s t) e in record { listed = rw (eqb-true a x g) i }

  pub is_parent_of : Parent s t a → is_parent s t a ≡ true
  unfolding is_parent
  is_parent_of by = any_at (eqb a) by.listed (eq-eqb a a refl)

-- ---- the parents of a type, place by place

-- of the parents of t those from place i on are still to be added to q, which was p at first
pub record Adds (s : Schema) (t i : ℕ) (p q : ℕ → Bool) : Type 0 where
  pub left : (k : ℕ) → any (eqb k) (drop i (parents s t)) || q k ≡ is_parent s t k || p k

-- a parent of t in p stands at place i or behind it, if there is one
pub record Finds (s : Schema) (t i : ℕ) (p : ℕ → Bool) : Type 0 where
  pub left : any p (drop i (parents s t)) ≡ children_of s p t

pub adds_none : (s : Schema) (t : ℕ) (p : ℕ → Bool) → Adds s t 0 p p
unfolding is_parent
adds_none s t p = record { left = λ k. refl }

module _ {b : List ℕ} (rows : Parental b) (t : ℕ) (h : t < 128) where
  abbrev ps : List ℕ
  ps = parents (schema_of b) t

  left_first : (f : ℕ → Bool) (i : ℕ) → i < get_or b (type_at t + count_offset) 0
      → any f (drop i ps) ≡ f (get_or b (type_at t + parents_offset + i) 0) || any f (drop (i + 1) ps)
  left_first f i l =
      any_left f ps i (omega (arith, parents_count rows t h))
      ∙ ap (λ (a : ℕ). f a || any f (drop (i + 1) ps)) (parents_place rows t h i l)

  left_none : (f : ℕ → Bool) (i : ℕ) → i ≡ get_or b (type_at t + count_offset) 0 → any f (drop i ps) ≡ false
  unfolding any
  left_none f i l = rw (l, ← parents_count rows t h, drop-length ps)

  module _ {p q : ℕ → Bool} {i : ℕ} (so_far : Adds (schema_of b) t i p q) where
    pub adds_more : (r : ℕ → Bool) → i < get_or b (type_at t + count_offset) 0 → ((k : ℕ) → r k ≡ eqb k (get_or b (type_at t + parents_offset + i) 0) || q k)
        → Adds (schema_of b) t (i + 1) p r
    adds_more r l made = record {
      left = λ k.
          ap (λ (x : Bool). any (eqb k) (drop (i + 1) ps) || x) (made k)
          ∙ moved (eqb k (get_or b (type_at t + parents_offset + i) 0)) (any (eqb k) (drop (i + 1) ps)) (q k)
          ∙ ap (λ (x : Bool). x || q k) (sym (left_first (eqb k) i l)) ∙ so_far.left k;
    }

    pub adds_all : i ≡ get_or b (type_at t + count_offset) 0 → (k : ℕ) → q k ≡ is_parent (schema_of b) t k || p k
    adds_all l k = ap (λ (x : Bool). x || q k) (sym (left_none (eqb k) i l)) ∙ so_far.left k

  module _ (p : ℕ → Bool) where
    -- a parent that is in the set is a type of the set that is a parent
    pub finds_none : Finds (schema_of b) t 0 p
    unfolding children_of
    finds_none = record {
      left = same_test _ _
          (λ e. let (a, i, g) = any_where p ps e in
          let by : Parent (schema_of b) t a = record { listed = i } in
          any_at (λ a. is_parent (schema_of b) t a) (members_of p a (parent_below rows by) g) (is_parent_of (schema_of b) t a by))
          (λ e. let (a, l, g, h) = any_member (λ a. is_parent (schema_of b) t a) p e in any_at p (parent_is (schema_of b) t a h).listed g);
    }

    module _ {i : ℕ} (so_far : Finds (schema_of b) t i p) where
      passed : i < get_or b (type_at t + count_offset) 0 → (x : Bool) → p (get_or b (type_at t + parents_offset + i) 0) ≡ x
          → x || any p (drop (i + 1) ps) ≡ children_of (schema_of b) p t
      passed l x e = sym (ap (λ (x : Bool). x || any p (drop (i + 1) ps)) e) ∙ sym (left_first p i l) ∙ so_far.left

      pub finds_here : i < get_or b (type_at t + count_offset) 0 → p (get_or b (type_at t + parents_offset + i) 0) ≡ true → true ≡ children_of (schema_of b) p t
      finds_here l e = passed l true e

      pub finds_more : i < get_or b (type_at t + count_offset) 0 → p (get_or b (type_at t + parents_offset + i) 0) ≡ false → Finds (schema_of b) t (i + 1) p
      finds_more l e = record { left = passed l false e }

      pub finds_all : i ≡ get_or b (type_at t + count_offset) 0 → false ≡ children_of (schema_of b) p t
      finds_all l = sym (left_none p i l) ∙ so_far.left

-- ---- a set of one type

module _ (p : ℕ → Bool) (t : ℕ) (small : t < 128) (is : (k : ℕ) → p k ≡ eqb k t) where
  pub one_member : (f : ℕ → Bool) → any f (members p) ≡ f t
  one_member f =
      same_test (any f (members p)) (f t)
      (λ e.
      let (x, i, h) = any_where f (members p) e in
      ap f (sym (eqb-true x t (sym (is x) ∙ (members_in p x i).1))) ∙ h)
      (λ e. any_at f (members_of p t small (is t ∙ eq-eqb t t refl)) e)

  pub above : (s : Schema) (k : ℕ) → ancestors_of s p k ≡ descends s t k
  unfolding ancestors_of
  above s k = one_member (λ u. descends s u k)

-- ---- the parents of a set, type by type

-- q is what is left of a set p without one type t
module _ (p q : ℕ → Bool) (t : ℕ) (h : t < 128) (e : p t ≡ true) (out : (k : ℕ) → q k ≡ p k && not (eqb k t)) where
  pub fewer_left : length (members q) < length (members p)
  fewer_left =
      members_fewer q p (λ k g. (and_both (p k) (not (eqb k t)) (sym (out k) ∙ g)).0) t h
      (out t ∙ ap (λ (x : Bool). p t && not x) (eq-eqb t t refl) ∙ and-false (p t)) e

  others : (k : ℕ) → p k ≡ true → (x : Bool) → eqb k t ≡ x → (k ≡ t) ⊎ (q k ≡ true)
  others k g true d = inl (eqb-true k t d)
  others k g false d = inr (out k ∙ rw (g, d))

  any_taken : (f : ℕ → Bool) → any f (members p) ≡ f t || any f (members q)
  any_taken f = same_test _ _
      (λ a.
      let (u, l, g, i) = any_member f p a in
      ⊎_elim (λ s. or_left (f t) _ (ap f (sym s) ∙ i)) (λ g. or_right (f t) _ (any_at f (members_of q u l g) i)) (others u g (eqb u t) refl))
      (λ a. ⊎_elim
      (λ i. any_at f (members_of p t h e) i)
      (λ b. let (u, l, g, i) = any_member f q b in any_at f (members_of p u l (and_both (p u) (not (eqb u t)) (sym (out u) ∙ g)).0) i)
      (or_cases (f t) (any f (members q)) a))

-- the types that are left are those whose parents are still to be added to q
pub record ParentsLeft (s : Schema) (p left q : ℕ → Bool) : Type 0 where
  pub all : (k : ℕ) → any (λ t. is_parent s t k) (members left) || q k ≡ parents_of s p k

module _ (s : Schema) (p : ℕ → Bool) where
  pub parents_none : (q : ℕ → Bool) → ((k : ℕ) → q k ≡ false) → ParentsLeft s p p q
  unfolding parents_of
  parents_none q none = record { all = λ k. rw (none k) (or-false (any (λ t. is_parent s t k) (members p))) }

module _ {s : Schema} {p left q : ℕ → Bool} (so_far : ParentsLeft s p left q) where
  pub parents_more : (rest r : ℕ → Bool) (t : ℕ) → t < 128 → left t ≡ true → ((k : ℕ) → rest k ≡ left k && not (eqb k t))
      → ((k : ℕ) → r k ≡ is_parent s t k || q k) → ParentsLeft s p rest r
  parents_more rest r t h e out made = record {
    all = λ k.
        let f : ℕ → Bool = λ t. is_parent s t k in
        ap (λ (x : Bool). any f (members rest) || x) (made k) ∙ moved (f t) (any f (members rest)) (q k)
        ∙ ap (λ (x : Bool). x || q k) (sym (any_taken left rest t h e out f)) ∙ so_far.all k;
  }

  pub parents_all : ((k : ℕ) → left k ≡ false) → (k : ℕ) → q k ≡ parents_of s p k
  unfolding members any
  parents_all none k = ap (λ (l : List ℕ). any (λ t. is_parent s t k) l || q k) (sym (numbers_none left 0 128 (λ k l u. none k))) ∙ so_far.all k

-- ---- the children of a set: a round over the types, from nothing

module _ (b : List ℕ) (p none q : ℕ → Bool) where
  children_below : (k : ℕ) → children_of (schema_of b) p k ≡ true → k < 128
  unfolding children_of
  children_below k e =
      let (a, l, g, h) = any_member (λ a. is_parent (schema_of b) k a) p e in
      object_below b k (child_object (parent_is (schema_of b) k a h))

  pub children_all : (n : ℕ) → n ≡ 128 → ((k : ℕ) → none k ≡ false) → ((k : ℕ) → q k ≡ grow_to n (children_of (schema_of b) p) none k)
      → (k : ℕ) → q k ≡ children_of (schema_of b) p k
  children_all n e empty made k = (rw e at (made k)) ∙ same_test _ _
      (λ g. ⊎_elim (λ z. absurd (false≢true (sym (empty k) ∙ z))) (λ w. w.1) (grow_cases (children_of (schema_of b) p) none k g))
      (λ g. grow_taken (children_of (schema_of b) p) none k (children_below k g) g)

-- ---- a set has types alone

pub has_below : (s : TypeSet) (k : ℕ) → has s k ≡ true → k < 128
has_below s k e = go (ltb k 128) refl
  where
    go : (x : Bool) → ltb k 128 ≡ x → k < 128
    go true h = ltb-true k 128 h
    go false h = absurd (false≢true (sym (has_past s k (ltb-false k 128 h)) ∙ e))
