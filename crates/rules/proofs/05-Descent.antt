-- The tests of descent and depth agree with `Descends` and `Chain` on every good schema: a way up that meets no type twice is no
-- longer than there are object types. Assumes nothing.
use Prim.Native.Nat.{ℕ, zero, suc, ◌+◌, ◌≤◌, ◌<◌, max}
use native.Mathlib.Omega.{arith}
use mathlib.Core.Path.{◌≡◌, refl, sym, ap, ◌∙◌, subst}
use mathlib.Core.Logic.{◌⊎◌, inl, inr, ⊎_elim, ◌↔◌}
use mathlib.Core.List.Memᴰ
use mathlib.Core.List.{List, [], ◌∷◌}
use mathlib.Core.Bool.{Bool, true, false, ◌||◌, true≢false, false≢true}
use lib.Dec.{ltb, eqb}
use lib.ListN.{length, get_or, get_or-eq_default}
use borrow.Author.Tests.{ltb-false, ltb-true, eqb-true, eq-eqb}
use Rattle.rules.specs.01-Lists.{◌∈◌, any, among, rising, greatest}
use Rattle.rules.specs.02-Limits.{limits}
use Rattle.rules.specs.04-Schema.{Schema, Kind, kind_of, is_used, is_object, parents, parents_in}
use Rattle.rules.specs.04-Schema.Kind.{unused, object, attribute, designation, paired}
use Rattle.rules.specs.05-Descent.{Parent, Descends, Chain, climbs, descends, height, depth, members}
use Rattle.rules.specs.05-Descent.Descends.{by_parent, by_step}
use Rattle.rules.specs.05-Descent.Chain.{at_root, up}
use Rattle.rules.specs.06-Good.{Good}
use Rattle.rules.proofs.Bools.{or_cases, or_left, or_right, same_test}
use Rattle.rules.proofs.01-Lists.{any_at, any_where, among_in, in_among, rising_once, Different, at_most}
use Rattle.rules.proofs.01-Lists.{numbers_in, numbers_of, numbers_rising, numbers_most}

-- descent over parents that were there
pub descends_over : {s s' : Schema} → ((t a : ℕ) → Parent s t a → Parent s' t a) → {t a : ℕ} → Descends s t a → Descends s' t a
descends_over f (by_parent {t = t} {a = a} p) = by_parent (f t a p)
descends_over f (by_step {t = t} {p = q} p d) = by_step (f t q p) (descends_over f d)

-- descent and depth are the types' alone
module _ (s s' : Schema) (same : s.types ≡ s'.types) where
  climbs_same : (n t a : ℕ) → climbs s n t a ≡ climbs s' n t a
  unfolding climbs parents
  climbs_same zero t a = refl
  climbs_same (suc n) t a = λ i. any (λ p. eqb p a || climbs_same n p a i) (parents_in (get_or (same i) t unused))

  height_same : (n t : ℕ) → height s n t ≡ height s' n t
  unfolding height parents
  height_same zero t = refl
  height_same (suc n) t = λ i. greatest (λ p. suc (height_same n p i)) (parents_in (get_or (same i) t unused))

  pub descends_same : descends s ≡ descends s'
  unfolding descends
  descends_same = λ i t a. climbs_same limits.types t a i

  pub depth_same : depth s ≡ depth s'
  unfolding depth
  depth_same = λ i t. height_same limits.types t i

-- ---- members: rising, each once, and exactly the types that pass

pub members_in : (p : ℕ → Bool) (k : ℕ) → k ∈ members p → (k < 128) × (p k ≡ true)
unfolding members
members_in p k i = let (l, u, e) = numbers_in p 0 128 k i in (omega arith, e)

pub members_of : (p : ℕ → Bool) (k : ℕ) → k < 128 → p k ≡ true → k ∈ members p
unfolding members
members_of p k h e = numbers_of p 0 128 k (omega arith) (omega arith) e

pub members_among : (q : ℕ → Bool) (k : ℕ) → (128 ≤ k → q k ≡ false) → among (members q) k ≡ q k
members_among q k past = same_test (among (members q) k) (q k) (λ e. (members_in q k (among_in (members q) k e)).1) (λ e. in_among (members_of q k (below e) e))
  where
    below : q k ≡ true → k < 128
    below e = go (ltb k 128) refl
      where
        go : (x : Bool) → ltb k 128 ≡ x → k < 128
        go true h = ltb-true k 128 h
        go false h = absurd (true≢false (sym e ∙ past (ltb-false k 128 h)))

pub members_rising : (p : ℕ → Bool) → rising ltb (members p) ≡ true
unfolding members
members_rising p = numbers_rising p 0 128

pub members_once : (p : ℕ → Bool) (i j : ℕ) → i < length (members p) → j < length (members p) → get_or (members p) i 0 ≡ get_or (members p) j 0 → i ≡ j
members_once p = rising_once (members p) (members_rising p)

pub members_at_most : (p : ℕ → Bool) (l : List ℕ) → Different l → ((x : ℕ) → x ∈ l → (x < 128) × (p x ≡ true)) → length l ≤ length (members p)
unfolding members
members_at_most p l d h = at_most p 0 128 l d (λ x i. let (u, e) = h x i in (omega arith, omega arith, e))

pub members_most : (p : ℕ → Bool) → length (members p) ≤ 128
unfolding members
members_most p = numbers_most p 0 128

-- ---- on any schema

parents_object : (k : Kind) (a : ℕ) → a ∈ parents_in k → is_object k ≡ true
parents_object unused a i = absurd (Memᴰ.not-nil i)
parents_object (object ps) a i = refl
parents_object (attribute v) a i = absurd (Memᴰ.not-nil i)
parents_object designation a i = absurd (Memᴰ.not-nil i)
parents_object (paired c r) a i = absurd (Memᴰ.not-nil i)

no_parents : (k : Kind) → is_object k ≡ true → parents_in k ≡ [] → k ≡ object []
no_parents unused o e = absurd (false≢true o)
no_parents (object ps) o e = ap object e
no_parents (attribute v) o e = absurd (false≢true o)
no_parents designation o e = absurd (false≢true o)
no_parents (paired c r) o e = absurd (false≢true o)

pub object_used : (k : Kind) → is_object k ≡ true → is_used k ≡ true
object_used unused o = o
object_used (object ps) o = refl
object_used (attribute v) o = refl
object_used designation o = refl
object_used (paired c r) o = refl

greatest_at : (f : ℕ → ℕ) {a : ℕ} {l : List ℕ} → a ∈ l → f a ≤ greatest f l
unfolding greatest
greatest_at f (Memᴰ.head {x = x} {xs = l} h) = let e : f x ≤ max (f x) (greatest f l) = omega arith in rw h e
greatest_at f (Memᴰ.tail {x = x} {xs = l} i) = omega (arith, greatest_at f i)

greatest_where : (f : ℕ → ℕ) (x : ℕ) (l : List ℕ) → (a : ℕ) × (a ∈ (x ∷ l)) × (greatest f (x ∷ l) ≡ f a)
unfolding greatest
greatest_where f x [] = (x, Memᴰ.head refl, omega arith)
greatest_where f x (y ∷ l) = go (greatest_where f y l) (ltb (f x) (greatest f (y ∷ l))) refl
  where
    go : (a : ℕ) × (a ∈ (y ∷ l)) × (greatest f (y ∷ l) ≡ f a) → (b : Bool) → ltb (f x) (greatest f (y ∷ l)) ≡ b
        → (a : ℕ) × (a ∈ (x ∷ y ∷ l)) × (max (f x) (greatest f (y ∷ l)) ≡ f a)
    go w true e = (w.0, Memᴰ.tail w.1, let h = ltb-true (f x) (greatest f (y ∷ l)) e in omega (arith, w.2))
    go w false e = (x, Memᴰ.head refl, let h = ltb-false (f x) (greatest f (y ∷ l)) e in omega arith)

module _ {s : Schema} where
  pub past : {t p a : ℕ} → Descends s t p → Parent s p a → Descends s t a
  past (by_parent x) by = by_step x (by_parent by)
  past (by_step x d) by = by_step x (past d by)

  pub child_object : {t a : ℕ} → Parent s t a → is_object (kind_of s t) ≡ true
  unfolding parents
  child_object {t} {a} by = parents_object (kind_of s t) a by.listed

  pub descendant_object : {t a : ℕ} → Descends s t a → is_object (kind_of s t) ≡ true
  descendant_object (by_parent by) = child_object by
  descendant_object (by_step by d) = child_object by

  climbs_sound : (n t a : ℕ) → climbs s n t a ≡ true → Descends s t a
  unfolding climbs
  climbs_sound zero t a e = absurd (false≢true e)
  climbs_sound (suc n) t a e =
      let (p, i, g) = any_where (λ p. eqb p a || climbs s n p a) (parents s t) e in
      ⊎_elim
      (λ h. by_parent (record { listed = rw (eqb-true p a h) at i }))
      (λ h. by_step (record { listed = i }) (climbs_sound n p a h))
      (or_cases (eqb p a) (climbs s n p a) g)

-- a way up from `from`, the last type first
data Trail (s : Schema) (from : ℕ) : ℕ → List ℕ → Type 0 where
  here : Trail s from from (from ∷ [])
  on : {t a : ℕ} {l : List ℕ} → Trail s from t l → Parent s t a → Trail s from a (a ∷ l)

trail_up : {s : Schema} {from t : ℕ} {l : List ℕ} → Trail s from t l → (x : ℕ) → x ∈ l → (x ≡ t) ⊎ Descends s x t
trail_up here x i = inl (Memᴰ.eq_of_singleton i)
trail_up {s} (on {t = t} {a = a} tr by) x i =
    ⊎_elim inl (λ j. inr (⊎_elim (λ e. by_parent (subst (λ (y : ℕ). Parent s y a) (sym e) by)) (λ d. past d by) (trail_up tr x j))) (Memᴰ.cases_cons i)

-- ---- on a good schema

module _ {s : Schema} (good : Good s) where
  abbrev pub objects : ℕ → Bool
  objects t = is_object (kind_of s t)

  pub used_below : (t : ℕ) → is_used (kind_of s t) ≡ true → t < 128
  used_below t e = go (ltb t 128) refl
    where
      go : (b : Bool) → ltb t 128 ≡ b → t < 128
      go true h = ltb-true t 128 h
      go false h =
          let over = ltb-false t 128 h in
          absurd (false≢true (sym (ap is_used (get_or-eq_default s.types unused {n = t} (omega (arith, good.type_room)))) ∙ e))

  pub object_below : (t : ℕ) → is_object (kind_of s t) ≡ true → t < 128
  object_below t e = used_below t (object_used (kind_of s t) e)

  pub ancestor_object : {t a : ℕ} → Descends s t a → is_object (kind_of s a) ≡ true
  ancestor_object (by_parent {t = t} {a = a} by) = good.parents_objects t a by
  ancestor_object (by_step by d) = ancestor_object d

  trail_different : {from t : ℕ} {l : List ℕ} → Trail s from t l → Different l
  trail_different here = (Memᴰ.not-nil, tt)
  trail_different (on {t = t} {a = a} tr by) = (
    (λ i. good.acyclic a (⊎_elim (λ e. by_parent (subst (λ (y : ℕ). Parent s y a) (sym e) by)) (λ d. past d by) (trail_up tr a i))),
    trail_different tr,
  )

  trail_objects : {from t : ℕ} {l : List ℕ} → is_object (kind_of s from) ≡ true → Trail s from t l → (x : ℕ) → x ∈ l → is_object (kind_of s x) ≡ true
  trail_objects o here x i = rw (Memᴰ.eq_of_singleton i) o
  trail_objects o (on {t = t} {a = a} tr by) x i =
      ⊎_elim (λ e. rw e (good.parents_objects t a by)) (trail_objects o tr x) (Memᴰ.cases_cons i)

  trail_short : {from t : ℕ} {l : List ℕ} → is_object (kind_of s from) ≡ true → Trail s from t l → length l ≤ length (members objects)
  trail_short {l = l} o tr =
      members_at_most objects l (trail_different tr) (λ x i. let e = trail_objects o tr x i in (object_below x e, e))

  climbs_full : {from t : ℕ} {l : List ℕ} → is_object (kind_of s from) ≡ true → (n a : ℕ) → n + length l ≡ 129 → Trail s from t l → Descends s t a
      → climbs s n t a ≡ true
  unfolding climbs
  climbs_full {l = l} o zero a e tr d = absurd (let short = trail_short o tr in omega (arith, members_most objects))
  climbs_full {t = t} o (suc n) a e tr (by_parent by) =
      any_at (λ p. eqb p a || climbs s n p a) by.listed (or_left (eqb a a) (climbs s n a a) (eq-eqb a a refl))
  climbs_full {t = t} o (suc n) a e tr (by_step {p = p} by d) =
      any_at (λ p. eqb p a || climbs s n p a) by.listed
      (or_right (eqb p a) (climbs s n p a) (climbs_full o n a (omega arith) (on tr by) d))

  pub descends_sound : (t a : ℕ) → descends s t a ≡ true → Descends s t a
  unfolding descends
  descends_sound t a e = climbs_sound 128 t a e

  pub descends_full : (t a : ℕ) → Descends s t a → descends s t a ≡ true
  unfolding descends
  descends_full t a d = climbs_full (descendant_object d) 128 a refl here d

  -- the test of descent is 01's sentence
  pub descends_is : (t a : ℕ) → (descends s t a ≡ true) ↔ Descends s t a
  descends_is t a = (descends_sound t a, descends_full t a)

  -- ---- chains and depth

  chain_object : {t n : ℕ} → Chain s t n → is_object (kind_of s t) ≡ true
  chain_object at_root = ap is_object good.root
  chain_object (up by c) = child_object by

  chain_trail : {from t n : ℕ} {l : List ℕ} → is_object (kind_of s from) ≡ true → Trail s from t l → Chain s t n → n + length l ≤ length (members objects)
  chain_trail o tr at_root = let short = trail_short o tr in omega arith
  chain_trail o tr (up by c) = let more = chain_trail o (on tr by) c in omega arith

  -- the longest chain of parents above a type has fewer steps than there are object types
  pub chain_short : (t n : ℕ) → Chain s t n → n < length (members objects)
  chain_short t n c = let all = chain_trail (chain_object c) here c in omega arith

  chain_height : {t n : ℕ} → Chain s t n → (m : ℕ) → n ≤ m → n ≤ height s m t
  unfolding height
  chain_height at_root m h = omega arith
  chain_height (up by c) zero h = absurd (omega arith)
  chain_height (up {t = t} {p = p} {n = n} by c) (suc m) h = at_height (chain_height c m (omega arith))
    where
      at_height : n ≤ height s m p → suc n ≤ height s (suc m) t
      at_height k = let top = greatest_at (λ p. suc (height s m p)) by.listed in omega arith

  -- no chain is longer than the depth
  pub depth_greatest : (t n : ℕ) → Chain s t n → n ≤ depth s t
  unfolding depth
  depth_greatest t n c = chain_height c 128 (let short = chain_short t n c in omega (arith, members_most objects))

  height_chain : {from t : ℕ} {l : List ℕ} → is_object (kind_of s from) ≡ true → is_object (kind_of s t) ≡ true
      → (n : ℕ) → n + length l ≡ 129 → Trail s from t l → Chain s t (height s n t)
  unfolding height parents greatest
  height_chain o k zero e tr = absurd (let short = trail_short o tr in omega (arith, members_most objects))
  height_chain {from} {t} o k (suc n) e tr = go (parents s t) refl (λ a by. height_chain o (good.parents_objects t a by) n (omega arith) (on tr by))
    where
      go : (ps : List ℕ) → parents s t ≡ ps → ((a : ℕ) → Parent s t a → Chain s a (height s n a)) → Chain s t (height s (suc n) t)
      go [] q ih =
          let zero_type : t ≡ 0 = good.only_root t (no_parents (kind_of s t) k q) in
          rw (q, zero_type) at_root
      go (p ∷ ps) q ih =
          let (a, i, g) = greatest_where (λ p. suc (height s n p)) p ps in
          let by : Parent s t a = record { listed = rw q i } in
          rw (q, g) (up by (ih a by))

  -- there is a chain as long as the depth
  pub depth_reached : (t : ℕ) → is_object (kind_of s t) ≡ true → Chain s t (depth s t)
  unfolding depth
  depth_reached t o = height_chain o o 128 refl here
