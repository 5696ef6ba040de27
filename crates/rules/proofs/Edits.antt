-- Lists edited: an element put in at its place, those that pass a test taken out, and what the list then holds. Assumes nothing.
use Prim.Native.Nat.{ℕ, zero, suc, ◌+◌, ◌≤◌, ◌<◌}
use native.Mathlib.Omega.{arith}
use mathlib.Core.Path.{◌≡◌, refl, sym, ap, subst, ◌∙◌}
use mathlib.Core.Logic.{◌⊎◌, inl, inr, ⊎_elim}
use mathlib.Core.List.Memᴰ
use mathlib.Core.List.{List, [], ◌∷◌, ◌++◌, map}
use mathlib.Core.Bool.{Bool, true, false, cond, ◌||◌, true≢false, false≢true}
use lib.Dec.{eqb}
use lib.ListN.{length, get_or, set, take, drop}
use lib.Seq.{get_or-set_same, get_or-set_other}
use borrow.Author.Tests.{eqb-true, eqb-false}
use Rattle.rules.specs.01-Lists.{◌∈◌, any, first, place, without, rising, put, put_all}
use Rattle.rules.proofs.Bools.{or_neither, and_both, and_of}
use Rattle.rules.proofs.01-Lists.{any_at, any_where, none_at}

-- ---- one put in

module _ {A : Type 0} (before : A → A → Bool) where
  pub put_long : (a : A) (rs : List A) → length (put before a rs) ≡ suc (length rs)
  unfolding put
  put_long a [] = refl
  put_long a (x ∷ rs) = go (before x a) (put_long a rs)
    where
      go : (t : Bool) → length (put before a rs) ≡ suc (length rs) → length (cond t (x ∷ put before a rs) (a ∷ x ∷ rs)) ≡ suc (suc (length rs))
      go true ih = ap suc ih
      go false ih = refl

  pub put_in : (a : A) (rs : List A) {y : A} → y ∈ put before a rs → (y ≡ a) ⊎ (y ∈ rs)
  unfolding put
  put_in a [] i = Memᴰ.cases_cons i
  put_in a (x ∷ rs) {y} i = go (before x a) i (λ h. put_in a rs h)
    where
      go : (t : Bool) → y ∈ cond t (x ∷ put before a rs) (a ∷ x ∷ rs) → (y ∈ put before a rs → (y ≡ a) ⊎ (y ∈ rs)) → (y ≡ a) ⊎ (y ∈ x ∷ rs)
      go true i ih =
          ⊎_elim (λ h. inr (Memᴰ.head h)) (λ h. ⊎_elim (λ e. inl e) (λ m. inr (Memᴰ.tail m)) (ih h)) (Memᴰ.cases_cons i)
      go false i ih = Memᴰ.cases_cons i

  -- x before all of a list that is put into
  put_behind : (x a : A) (rs : List A) → before x a ≡ true → rising before (x ∷ rs) ≡ true → rising before (put before a rs) ≡ true
      → rising before (x ∷ put before a rs) ≡ true
  unfolding put rising
  put_behind x a [] h r q = and_of (before x a) true h refl
  put_behind x a (y ∷ rs) h r q = go (before y a) q
    where
      go : (t : Bool) → rising before (cond t (y ∷ put before a rs) (a ∷ y ∷ rs)) ≡ true
          → rising before (x ∷ cond t (y ∷ put before a rs) (a ∷ y ∷ rs)) ≡ true
      go true q = and_of (before x y) (rising before (y ∷ put before a rs)) (and_both (before x y) (rising before (y ∷ rs)) r).0 q
      go false q = and_of (before x a) (rising before (a ∷ y ∷ rs)) h q

  pub tail_rising : (x : A) (rs : List A) → rising before (x ∷ rs) ≡ true → rising before rs ≡ true
  unfolding rising
  tail_rising x [] e = refl
  tail_rising x (y ∷ rs) e = (and_both (before x y) (rising before (y ∷ rs)) e).1

  pub put_rising : (a : A) (rs : List A) → rising before rs ≡ true → ((x : A) → x ∈ rs → before x a ≡ false → before a x ≡ true)
      → rising before (put before a rs) ≡ true
  unfolding put rising
  put_rising a [] r f = refl
  put_rising a (x ∷ rs) r f = go (before x a) refl (put_rising a rs (tail_rising x rs r) (λ y i. f y (Memᴰ.tail i)))
    where
      go : (t : Bool) → before x a ≡ t → rising before (put before a rs) ≡ true → rising before (cond t (x ∷ put before a rs) (a ∷ x ∷ rs)) ≡ true
      go true q ih = put_behind x a rs q r ih
      go false q ih = and_of (before a x) (rising before (x ∷ rs)) (f x (Memᴰ.head refl) q) r

  -- the first k elements are before a, and the next is not
  pub put_place : (a d : A) (rs : List A) (k : ℕ) → k ≤ length rs → ((i : ℕ) → i < k → before (get_or rs i d) a ≡ true)
      → (k < length rs → before (get_or rs k d) a ≡ false) → put before a rs ≡ take k rs ++ a ∷ drop k rs
  unfolding put
  put_place a d [] zero h f g = refl
  put_place a d [] (suc k) h f g = absurd (omega arith)
  put_place a d (x ∷ rs) zero h f g = rw (g (omega arith))
  put_place a d (x ∷ rs) (suc k) h f g =
      rw (f 0 (omega arith))
      (ap (λ (l : List A). x ∷ l) (put_place a d rs k (omega arith) (λ i l. f (suc i) (omega arith)) (λ l. g (omega arith))))

  -- what was put in, and what was there
  pub put_new : (a : A) (rs : List A) → a ∈ put before a rs
  unfolding put
  put_new a [] = Memᴰ.head refl
  put_new a (x ∷ rs) = go (before x a) (put_new a rs)
    where
      go : (t : Bool) → a ∈ put before a rs → a ∈ cond t (x ∷ put before a rs) (a ∷ x ∷ rs)
      go true i = Memᴰ.tail i
      go false i = Memᴰ.head refl

  pub put_old : (a : A) (rs : List A) {y : A} → y ∈ rs → y ∈ put before a rs
  unfolding put
  put_old a [] i = absurd (Memᴰ.not-nil i)
  put_old a (x ∷ rs) {y} i = go (before x a) i (λ h. put_old a rs h)
    where
      go : (t : Bool) → y ∈ x ∷ rs → (y ∈ rs → y ∈ put before a rs) → y ∈ cond t (x ∷ put before a rs) (a ∷ x ∷ rs)
      go true i f = ⊎_elim (λ h. Memᴰ.head h) (λ m. Memᴰ.tail (f m)) (Memᴰ.cases_cons i)
      go false i f = Memᴰ.tail i

  pub put_none : (p : A → Bool) (a : A) (rs : List A) → p a ≡ false → any p rs ≡ false → any p (put before a rs) ≡ false
  unfolding put any
  put_none p a [] e f = rw e
  put_none p a (x ∷ rs) e f = go (before x a) (put_none p a rs e (or_neither (p x) (any p rs) f).1)
    where
      go : (t : Bool) → any p (put before a rs) ≡ false → any p (cond t (x ∷ put before a rs) (a ∷ x ∷ rs)) ≡ false
      go true ih = rw ((or_neither (p x) (any p rs) f).0, ih)
      go false ih = rw e f

  -- what holds of the new element and of all that were there holds of all
  pub put_each : {a : A} {rs : List A} {y : A} → y ∈ put before a rs → (P : A → Type 0) → P a → (y ∈ rs → P y) → P y
  put_each {a} {rs} i P h f = ⊎_elim (λ e. subst P (sym e) h) f (put_in a rs i)

  -- ---- several put in

  pub put_all_long : (new rs : List A) → length (put_all before new rs) ≡ length rs + length new
  unfolding put_all
  put_all_long [] rs = omega arith
  put_all_long (a ∷ new) rs = omega (arith, put_all_long new (put before a rs), put_long a rs)

  pub put_all_in : (new rs : List A) {y : A} → y ∈ put_all before new rs → (y ∈ new) ⊎ (y ∈ rs)
  unfolding put_all
  put_all_in [] rs i = inr i
  put_all_in (a ∷ new) rs i =
      ⊎_elim (λ j. inl (Memᴰ.tail j)) (λ j. ⊎_elim (λ e. inl (Memᴰ.head e)) inr (put_in a rs j)) (put_all_in new (put before a rs) i)

  pub put_all_old : (new rs : List A) {y : A} → y ∈ rs → y ∈ put_all before new rs
  unfolding put_all
  put_all_old [] rs i = i
  put_all_old (a ∷ new) rs i = put_all_old new (put before a rs) (put_old a rs i)

  pub put_all_new : (new rs : List A) {y : A} → y ∈ new → y ∈ put_all before new rs
  unfolding put_all
  put_all_new [] rs i = absurd (Memᴰ.not-nil i)
  put_all_new (a ∷ new) rs {y} i =
      ⊎_elim
      (λ e. put_all_old new (put before a rs) (subst (λ (x : A). x ∈ put before a rs) (sym e) (put_new a rs)))
      (put_all_new new (put before a rs))
      (Memᴰ.cases_cons i)

-- ---- one written

-- what stands at a place of a list of which one element was written
pub set_either : {A : Type 0} (l : List A) (i : ℕ) (x d : A) → i < length l
    → (j : ℕ) → ((j ≡ i) × (get_or (set l i x) j d ≡ x)) ⊎ ((j ≡ i → ⊥) × (get_or (set l i x) j d ≡ get_or l j d))
set_either l i x d h j = go (eqb j i) refl
  where
    go : (t : Bool) → eqb j i ≡ t → ((j ≡ i) × (get_or (set l i x) j d ≡ x)) ⊎ ((j ≡ i → ⊥) × (get_or (set l i x) j d ≡ get_or l j d))
    go true q = let same = eqb-true j i q in inl (same, ap (λ (k : ℕ). get_or (set l i x) k d) same ∙ get_or-set_same l i x d h)
    go false q = inr (eqb-false j i q, get_or-set_other l i j x d (eqb-false j i q))

-- ---- the first that passes; what is left when those that pass are gone

module _ {A : Type 0} (p : A → Bool) where
  pub first_in : (d : A) (l : List A) → any p l ≡ true → (first p d l ∈ l) × (p (first p d l) ≡ true)
  unfolding any first
  first_in d [] e = absurd (false≢true e)
  first_in d (x ∷ l) e = go (p x) refl e (first_in d l)
    where
      go : (b : Bool) → p x ≡ b → any p (x ∷ l) ≡ true
          → (any p l ≡ true → (first p d l ∈ l) × (p (first p d l) ≡ true))
          → (cond b x (first p d l) ∈ x ∷ l) × (p (cond b x (first p d l)) ≡ true)
      go true q e f = (Memᴰ.head refl, q)
      go false q e f = let (i, h) = f (rw q at e) in (Memᴰ.tail i, h)

  pub without_in : (l : List A) {x : A} → x ∈ without p l → (x ∈ l) × (p x ≡ false)
  unfolding without
  without_in [] i = absurd (Memᴰ.not-nil i)
  without_in (y ∷ l) {x} i = go (p y) refl i (λ h. without_in l h)
    where
      go : (b : Bool) → p y ≡ b → x ∈ cond b (without p l) (y ∷ without p l) → (x ∈ without p l → (x ∈ l) × (p x ≡ false)) → (x ∈ y ∷ l) × (p x ≡ false)
      go true q i f = let (j, h) = f i in (Memᴰ.tail j, h)
      go false q i f =
          ⊎_elim (λ e. (Memᴰ.head e, ap p e ∙ q)) (λ m. let (j, h) = f m in (Memᴰ.tail j, h)) (Memᴰ.cases_cons i)

  pub without_keeps : (l : List A) {x : A} → x ∈ l → p x ≡ false → x ∈ without p l
  unfolding without
  without_keeps [] i e = absurd (Memᴰ.not-nil i)
  without_keeps (y ∷ l) {x} i e = go (p y) refl (Memᴰ.cases_cons i) (λ m. without_keeps l m e)
    where
      go : (b : Bool) → p y ≡ b → (x ≡ y) ⊎ (x ∈ l) → (x ∈ l → x ∈ without p l) → x ∈ cond b (without p l) (y ∷ without p l)
      go true q c f = ⊎_elim (λ h. absurd (true≢false (sym q ∙ sym (ap p h) ∙ e))) f c
      go false q c f = ⊎_elim (λ h. Memᴰ.head h) (λ m. Memᴰ.tail (f m)) c

  -- what is left is no more, and fewer where one passes
  pub without_long : (l : List A) → length (without p l) ≤ length l
  unfolding without
  without_long [] = omega arith
  without_long (x ∷ l) = go (p x) (without_long l)
    where
      go : (b : Bool) → length (without p l) ≤ length l → length (cond b (without p l) (x ∷ without p l)) ≤ suc (length l)
      go true h = omega arith
      go false h = omega arith

  pub without_fewer : (l : List A) → any p l ≡ true → suc (length (without p l)) ≤ length l
  unfolding without any
  without_fewer [] e = absurd (false≢true e)
  without_fewer (x ∷ l) e = go (p x) refl (without_fewer l)
    where
      go : (b : Bool) → p x ≡ b → (any p l ≡ true → suc (length (without p l)) ≤ length l)
          → suc (length (cond b (without p l) (x ∷ without p l))) ≤ suc (length l)
      go true q ih = omega (arith, without_long l)
      go false q ih = omega (arith, ih (rw q at e))

-- the first that passes is a new one where no old one does
pub first_put : {A : Type 0} (before : A → A → Bool) (p : A → Bool) (d : A) (new rs : List A) → any p new ≡ true → any p rs ≡ false
    → first p d (put_all before new rs) ∈ new
first_put before p d new rs some none =
    let (y, j, e) = any_where p new some in
    let (i, h) = first_in p d (put_all before new rs) (any_at p (put_all_new before new rs j) e) in
    ⊎_elim (λ k. k) (λ k. absurd (true≢false (sym h ∙ none_at p none k))) (put_all_in before new rs i)

module _ {A : Type 0} where
  pub without_same : (p q : A → Bool) (l : List A) → ((x : A) → x ∈ l → p x ≡ q x) → without p l ≡ without q l
  unfolding without
  without_same p q [] e = refl
  without_same p q (x ∷ l) e =
      rw (e x (Memᴰ.head refl)) (ap (λ (r : List A). cond (q x) r (x ∷ r)) (without_same p q l (λ y i. e y (Memᴰ.tail i))))

  pub without_twice : (p q : A → Bool) (l : List A) → without q (without p l) ≡ without (λ x. p x || q x) l
  unfolding without
  without_twice p q [] = refl
  without_twice p q (x ∷ l) = go (p x) (without_twice p q l)
    where
      go : (b : Bool) → without q (without p l) ≡ without (λ x. p x || q x) l
          → without q (cond b (without p l) (x ∷ without p l))
          ≡ cond (b || q x) (without (λ x. p x || q x) l) (x ∷ without (λ x. p x || q x) l)
      go true ih = ih
      go false ih = ap (λ (r : List A). cond (q x) r (x ∷ r)) ih

-- ---- each made another

pub map_of : {A B : Type 0} (f : A → B) {x : A} {l : List A} → x ∈ l → f x ∈ map f l
map_of f (Memᴰ.head h) = Memᴰ.head (ap f h)
map_of f (Memᴰ.tail i) = Memᴰ.tail (map_of f i)

-- where a test does not see the change, it finds the same
module _ {A : Type 0} (p : A → Bool) (f : A → A) (same : (x : A) → p (f x) ≡ p x) where
  pub any_mapped : (l : List A) → any p (map f l) ≡ any p l
  unfolding any
  any_mapped [] = refl
  any_mapped (x ∷ l) = λ i. same x i || any_mapped l i

  pub place_mapped : (l : List A) → place p (map f l) ≡ place p l
  unfolding place
  place_mapped [] = refl
  place_mapped (x ∷ l) = λ i. cond (same x i) 0 (suc (place_mapped l i))

  -- and what g tells of the first, where the change leaves that
  pub first_mapped : {B : Type 0} (g : A → B) → ((x : A) → p x ≡ true → g (f x) ≡ g x) → (d : A) (l : List A)
      → g (first p d (map f l)) ≡ g (first p d l)
  unfolding first
  first_mapped g told d [] = refl
  first_mapped {B} g told d (x ∷ l) = rw (same x) (go (p x) refl (first_mapped g told d l))
    where
      go : (b : Bool) → p x ≡ b → g (first p d (map f l)) ≡ g (first p d l) → g (cond b (f x) (first p d (map f l))) ≡ g (cond b x (first p d l))
      go true e ih = told x e
      go false e ih = ih
