-- Laws of the words on lists: what a test over a list says, the numbers that pass, and how many different ones there can be.
-- Assumes nothing.
use Prim.Native.Nat.{ℕ, zero, suc, ◌+◌, ◌-◌, ◌≤◌, ◌<◌}
use native.Mathlib.Omega.{arith}
use mathlib.Core.Path.{◌≡◌, refl, sym, ap, subst, ◌∙◌}
use mathlib.Core.Logic.{◌⊎◌, inl, inr, ⊎_elim, ∥∥₁_elim}
use mathlib.Core.List.Memᴰ
use mathlib.Core.List.{List, [], ◌∷◌, ◌++◌, map, Permᴰ, Perm}
use mathlib.Core.Bool.{Bool, true, false, cond, ◌&&◌, ◌||◌, Bool-set, true≢false, false≢true, or_assoc}
use lib.Dec.{ltb, eqb}
use lib.ListN.{length, get_or}
use borrow.Author.Tests.{ltb-true, ltb-false, lt-ltb, le-ltb, eqb-true, eqb-false, eq-eqb}
use Rattle.rules.specs.01-Lists.{◌∈◌, same_bytes, bytes_before, any, all, first, among, repeated, rising, numbers}
use Rattle.rules.proofs.Bools.{or_cases, or_left, or_right, or_neither, or_turned, or_crossed, and_both, and_of, and_rest, fails, eqb_turned}

-- ---- tests over a list

module _ {A : Type 0} where
  pub any_at : (p : A → Bool) {x : A} {l : List A} → x ∈ l → p x ≡ true → any p l ≡ true
  unfolding any
  any_at p (Memᴰ.head {x = y} {xs = l} h) e = or_left (p y) (any p l) (ap p (sym h) ∙ e)
  any_at p (Memᴰ.tail {x = y} {xs = l} h) e = or_right (p y) (any p l) (any_at p h e)

  pub any_where : (p : A → Bool) (l : List A) → any p l ≡ true → (x : A) × (x ∈ l) × (p x ≡ true)
  unfolding any
  any_where p [] e = absurd (false≢true e)
  any_where p (y ∷ l) e =
      ⊎_elim
      (λ h. (y, Memᴰ.head refl, h))
      (λ h. let (x, i, g) = any_where p l h in (x, Memᴰ.tail i, g))
      (or_cases (p y) (any p l) e)

  pub all_at : (p : A → Bool) {x : A} {l : List A} → all p l ≡ true → x ∈ l → p x ≡ true
  unfolding all
  all_at p e (Memᴰ.head {x = y} {xs = l} h) = ap p h ∙ (and_both (p y) (all p l) e).0
  all_at p e (Memᴰ.tail {x = y} {xs = l} h) = all_at p (and_both (p y) (all p l) e).1 h

  -- an element is at some place
  pub at_place : (d : A) {x : A} {l : List A} → x ∈ l → (i : ℕ) × (i < length l) × (get_or l i d ≡ x)
  at_place d (Memᴰ.head h) = (0, omega arith, sym h)
  at_place d (Memᴰ.tail h) = let (i, k, e) = at_place d h in (suc i, omega arith, e)

  pub place_in : (d : A) (l : List A) (i : ℕ) → i < length l → get_or l i d ∈ l
  place_in d [] i h = absurd (omega arith)
  place_in d (x ∷ l) zero h = Memᴰ.head refl
  place_in d (x ∷ l) (suc i) h = Memᴰ.tail (place_in d l i (omega arith))

  -- some element passes one test or the other
  pub any_either : (p q : A → Bool) (l : List A) → any (λ x. p x || q x) l ≡ any p l || any q l
  unfolding any
  any_either p q [] = refl
  any_either p q (x ∷ l) = rw (any_either p q l) (go (p x) (q x) (any p l))
    where
      go : (a b c : Bool) → (a || b) || (c || any q l) ≡ (a || c) || (b || any q l)
      go true b c = refl
      go false true true = refl
      go false true false = refl
      go false false c = refl

  pub any_none : (p : A → Bool) (l : List A) → ((x : A) → x ∈ l → p x ≡ false) → any p l ≡ false
  any_none p l none = fails (any p l) (λ e. let (x, i, h) = any_where p l e in true≢false (sym h ∙ none x i))

  pub none_at : (p : A → Bool) {x : A} {l : List A} → any p l ≡ false → x ∈ l → p x ≡ false
  none_at p {x} e i = fails (p x) (λ h. true≢false (sym (any_at p i h) ∙ e))

-- a test of each number, place by place
module _ (p : ℕ → Bool) (l : List ℕ) where
  pub any_there : (i : ℕ) → i < length l → p (get_or l i 0) ≡ true → any p l ≡ true
  any_there i h e = any_at p (place_in 0 l i h) e

  pub any_nowhere : ((i : ℕ) → i < length l → p (get_or l i 0) ≡ false) → any p l ≡ false
  any_nowhere none = any_none p l (λ x m. let (i, h, e) = at_place 0 m in ap p (sym e) ∙ none i h)

pub map_in : {A B : Type 0} (f : A → B) (l : List A) {y : B} → y ∈ map f l → (x : A) × (x ∈ l) × (y ≡ f x)
map_in f [] i = absurd (Memᴰ.not-nil i)
map_in f (x ∷ l) i =
    ⊎_elim (λ e. (x, Memᴰ.head refl, e)) (λ m. let (z, j, e) = map_in f l m in (z, Memᴰ.tail j, e)) (Memᴰ.cases_cons i)

pub among_in : (l : List ℕ) (n : ℕ) → among l n ≡ true → n ∈ l
among_in l n e = let (x, i, h) = any_where (eqb n) l e in rw (eqb-true n x h) i

pub in_among : {l : List ℕ} {n : ℕ} → n ∈ l → among l n ≡ true
in_among {n = n} i = any_at (eqb n) i (eq-eqb n n refl)

-- ---- bytes

pub same_bytes_is : (a b : List ℕ) → same_bytes a b ≡ true → a ≡ b
unfolding same_bytes
same_bytes_is [] [] e = refl
same_bytes_is [] (y ∷ b) e = absurd (false≢true e)
same_bytes_is (x ∷ a) [] e = absurd (false≢true e)
same_bytes_is (x ∷ a) (y ∷ b) e =
    let (h, t) = and_both (eqb x y) (same_bytes a b) e in
    λ i. eqb-true x y h i ∷ same_bytes_is a b t i

pub same_bytes_refl : (a : List ℕ) → same_bytes a a ≡ true
unfolding same_bytes
same_bytes_refl [] = refl
same_bytes_refl (x ∷ a) = and_of (eqb x x) (same_bytes a a) (eq-eqb x x refl) (same_bytes_refl a)

-- the same of each
pub map_same : {A B : Type 0} {f g : A → B} (l : List A) → ((x : A) → x ∈ l → f x ≡ g x) → map f l ≡ map g l
map_same [] e = refl
map_same (x ∷ l) e = λ i. e x (Memᴰ.head refl) i ∷ map_same l (λ y m. e y (Memᴰ.tail m)) i

-- ---- the numbers that pass

module _ (p : ℕ → Bool) where
  -- one number more
  pub numbers_taken : (a m : ℕ) → p a ≡ true → numbers a (suc m) p ≡ a ∷ numbers (suc a) m p
  unfolding numbers
  numbers_taken a m e = rw e

  pub numbers_passed : (a m : ℕ) → p a ≡ false → numbers a (suc m) p ≡ numbers (suc a) m p
  unfolding numbers
  numbers_passed a m e = rw e

  -- the lowest that passes comes first
  pub numbers_first : (a m n : ℕ) → a ≤ n → n < a + m → ((k : ℕ) → a ≤ k → k < n → p k ≡ false) → p n ≡ true
      → numbers a m p ≡ n ∷ numbers (suc n) (a + m - suc n) p
  numbers_first a zero n l u none e = absurd (omega arith)
  numbers_first a (suc m) n l u none e = go (eqb n a) refl (λ h. numbers_first (suc a) m n h (omega arith) (λ k h w. none k (omega arith) w) e)
    where
      go : (b : Bool) → eqb n a ≡ b → (suc a ≤ n → numbers (suc a) m p ≡ n ∷ numbers (suc n) (suc a + m - suc n) p)
          → numbers a (suc m) p ≡ n ∷ numbers (suc n) (a + suc m - suc n) p
      go true g ih =
          let same : n ≡ a = eqb-true n a g in
          let rest : a + suc m - suc a ≡ m = omega arith in
          rw (same, rest) (numbers_taken a m (ap p (sym same) ∙ e))
      go false g ih =
          let ne = eqb-false n a g in
          let along : suc a + m - suc n ≡ a + suc m - suc n = omega arith in
          numbers_passed a m (none a (omega arith) (omega arith)) ∙ ih (omega arith) ∙ ap (λ (j : ℕ). n ∷ numbers (suc n) j p) along

  pub numbers_none : (a m : ℕ) → ((k : ℕ) → a ≤ k → k < a + m → p k ≡ false) → numbers a m p ≡ []
  unfolding numbers
  numbers_none a zero none = refl
  numbers_none a (suc m) none = numbers_passed a m (none a (omega arith) (omega arith)) ∙ numbers_none (suc a) m (λ k h w. none k (omega arith) (omega arith))

  -- none before the first passes
  pub numbers_lowest : (a m k : ℕ) → a ≤ k → k < get_or (numbers a m p) 0 (a + m) → p k ≡ false
  unfolding numbers
  numbers_lowest a zero k l u = absurd (omega arith)
  numbers_lowest a (suc m) k l u = go (p a) refl u (numbers_lowest (suc a) m k)
    where
      along : suc a + m ≡ a + suc m
      along = omega arith

      go : (b : Bool) → p a ≡ b → k < get_or (cond b (a ∷ numbers (suc a) m p) (numbers (suc a) m p)) 0 (a + suc m)
          → (suc a ≤ k → k < get_or (numbers (suc a) m p) 0 (suc a + m) → p k ≡ false) → p k ≡ false
      go true e u ih = absurd (omega arith)
      go false e u ih = next (eqb k a) refl
        where
          next : (b : Bool) → eqb k a ≡ b → p k ≡ false
          next true g = ap p (eqb-true k a g) ∙ e
          next false g = let ne = eqb-false k a g in ih (omega arith) (rw along u)

  pub numbers_in : (a m n : ℕ) → n ∈ numbers a m p → (a ≤ n) × (n < a + m) × (p n ≡ true)
  unfolding numbers
  numbers_in a zero n i = absurd (Memᴰ.not-nil i)
  numbers_in a (suc m) n i = go (p a) refl i (numbers_in (suc a) m n)
    where
      go : (b : Bool) → p a ≡ b → n ∈ cond b (a ∷ numbers (suc a) m p) (numbers (suc a) m p)
          → (n ∈ numbers (suc a) m p → (suc a ≤ n) × (n < suc a + m) × (p n ≡ true)) → (a ≤ n) × (n < a + suc m) × (p n ≡ true)
      go true e i ih =
          ⊎_elim (λ h. (omega arith, omega arith, ap p h ∙ e)) (λ h. let (l, u, g) = ih h in (omega arith, omega arith, g)) (Memᴰ.cases_cons i)
      go false e i ih = let (l, u, g) = ih i in (omega arith, omega arith, g)

  pub numbers_of : (a m n : ℕ) → a ≤ n → n < a + m → p n ≡ true → n ∈ numbers a m p
  numbers_of a zero n l u e = absurd (omega arith)
  numbers_of a (suc m) n l u e = go (eqb n a) refl (λ h. numbers_of (suc a) m n h (omega arith) e)
    where
      kept : (b : Bool) → p a ≡ b → n ∈ numbers (suc a) m p → n ∈ numbers a (suc m) p
      kept true g i = rw (numbers_taken a m g) (Memᴰ.tail i)
      kept false g i = rw (numbers_passed a m g) i

      go : (b : Bool) → eqb n a ≡ b → (suc a ≤ n → n ∈ numbers (suc a) m p) → n ∈ numbers a (suc m) p
      go true g ih =
          let same : n ≡ a = eqb-true n a g in
          rw (numbers_taken a m (ap p (sym same) ∙ e)) (Memᴰ.head same)
      go false g ih = kept (p a) refl (ih (let ne = eqb-false n a g in omega arith))

  -- every number of the list is past what stands before it
  below_all : (h a m : ℕ) → h < a → rising ltb (numbers a m p) ≡ true → rising ltb (h ∷ numbers a m p) ≡ true
  unfolding numbers rising
  below_all h a zero l e = refl
  below_all h a (suc m) l e = go (p a) refl e (below_all h (suc a) m (omega arith))
    where
      go : (b : Bool) → p a ≡ b → rising ltb (cond b (a ∷ numbers (suc a) m p) (numbers (suc a) m p)) ≡ true
          → (rising ltb (numbers (suc a) m p) ≡ true → rising ltb (h ∷ numbers (suc a) m p) ≡ true)
          → rising ltb (h ∷ cond b (a ∷ numbers (suc a) m p) (numbers (suc a) m p)) ≡ true
      go true g e ih = and_of (ltb h a) (rising ltb (a ∷ numbers (suc a) m p)) (lt-ltb h a l) e
      go false g e ih = ih e

  pub numbers_rising : (a m : ℕ) → rising ltb (numbers a m p) ≡ true
  unfolding numbers rising
  numbers_rising a zero = refl
  numbers_rising a (suc m) = go (p a) refl (numbers_rising (suc a) m)
    where
      go : (b : Bool) → p a ≡ b → rising ltb (numbers (suc a) m p) ≡ true → rising ltb (cond b (a ∷ numbers (suc a) m p) (numbers (suc a) m p)) ≡ true
      go true g e = below_all a (suc a) m (omega arith) e
      go false g e = e

-- ---- a rising list of numbers has none twice

rising_past : (h : ℕ) (l : List ℕ) → rising ltb (h ∷ l) ≡ true → (j : ℕ) → j < length l → h < get_or l j 0
unfolding rising
rising_past h [] e j u = absurd (omega arith)
rising_past h (x ∷ l) e zero u = ltb-true h x (and_both (ltb h x) (rising ltb (x ∷ l)) e).0
rising_past h (x ∷ l) e (suc j) u =
    let (b, r) = and_both (ltb h x) (rising ltb (x ∷ l)) e in
    let past = rising_past x l r j (omega arith) in
    omega (arith, ltb-true h x b)

rising_tail : (h : ℕ) (l : List ℕ) → rising ltb (h ∷ l) ≡ true → rising ltb l ≡ true
unfolding rising
rising_tail h [] e = refl
rising_tail h (x ∷ l) e = (and_both (ltb h x) (rising ltb (x ∷ l)) e).1

pub rising_once : (l : List ℕ) → rising ltb l ≡ true → (i j : ℕ) → i < length l → j < length l → get_or l i 0 ≡ get_or l j 0 → i ≡ j
rising_once [] e i j u v s = absurd (omega arith)
rising_once (x ∷ l) e zero zero u v s = refl
rising_once (x ∷ l) e zero (suc j) u v s = absurd (let past = rising_past x l e j (omega arith) in omega arith)
rising_once (x ∷ l) e (suc i) zero u v s = absurd (let past = rising_past x l e i (omega arith) in omega arith)
rising_once (x ∷ l) e (suc i) (suc j) u v s = ap suc (rising_once l (rising_tail x l e) i j (omega arith) (omega arith) s)

-- ---- how many different numbers there can be

-- none stands in the list twice
abbrev pub Different : {A : Type 0} → List A → Type 0
Different [] = Unit {0}
Different (x ∷ l) = (x ∈ l → ⊥) × Different l

pub unrepeated : (l : List ℕ) → repeated l ≡ false → Different l
unfolding repeated
unrepeated [] e = tt
unrepeated (x ∷ l) e = let (once, rest) = or_neither (among l x) (repeated l) e in (λ i. true≢false (sym (in_among i) ∙ once), unrepeated l rest)

-- numbers that pass two tests alike
pub numbers_alike : (p q : ℕ → Bool) (a m : ℕ) → ((k : ℕ) → a ≤ k → k < a + m → p k ≡ q k) → numbers a m p ≡ numbers a m q
unfolding numbers
numbers_alike p q a zero h = refl
numbers_alike p q a (suc m) h = rw (numbers_alike p q (suc a) m (λ k l u. h k (omega arith) (omega arith)), h a (omega arith) (omega arith))

-- the list less an element that stands in it
one_fewer : {A : Type 0} {x : A} {m : List A} → x ∈ m → (k : List A) × (length m ≡ suc (length k)) × ((y : A) → y ∈ m → (y ≡ x) ⊎ (y ∈ k))
one_fewer (Memᴰ.head {xs = m} h) = (m, refl, λ y j. ⊎_elim (λ e. inl (e ∙ sym h)) inr (Memᴰ.cases_cons j))
one_fewer (Memᴰ.tail {x = z} {xs = m} i) =
    let (k, long, f) = one_fewer i in
    (z ∷ k, ap suc long, λ y j. ⊎_elim (λ e. inr (Memᴰ.head e)) (λ g. ⊎_elim inl (λ q. inr (Memᴰ.tail q)) (f y g)) (Memᴰ.cases_cons j))

-- different ones that all stand in a list are no more than it has
pub at_most_in : {A : Type 0} (l m : List A) → Different l → ((x : A) → x ∈ l → x ∈ m) → length l ≤ length m
at_most_in [] m d h = omega arith
at_most_in {A} (x ∷ l) m d h =
    let (k, long, f) = one_fewer (h x (Memᴰ.head refl)) in
    let fewer = at_most_in l k d.1
    (λ y i. ⊎_elim (λ e. absurd (d.0 (subst (λ (z : A). z ∈ l) e i))) (λ j. j) (f y (h y (Memᴰ.tail i)))) in
    omega (arith, fewer, long)

-- different ones stay so where each is made another
pub different_mapped : {A B : Type 0} (f : A → B) (l : List A) → ((x y : A) → x ∈ l → y ∈ l → f x ≡ f y → x ≡ y) → Different l → Different (map f l)
different_mapped f [] h d = tt
different_mapped {A} f (x ∷ l) h d = (
  (λ i. let (y, j, e) = map_in f l i in d.0 (subst (λ (z : A). z ∈ l) (sym (h x y (Memᴰ.head refl) (Memᴰ.tail j) e)) j)),
  different_mapped f l (λ y z i j. h y z (Memᴰ.tail i) (Memᴰ.tail j)) d.1,
)

-- different numbers that pass are no more than all that pass
pub at_most : (p : ℕ → Bool) (a m : ℕ) (l : List ℕ) → Different l → ((x : ℕ) → x ∈ l → (a ≤ x) × (x < a + m) × (p x ≡ true))
    → length l ≤ length (numbers a m p)
at_most p a m l d h = at_most_in l (numbers a m p) d (λ x i. let (low, high, e) = h x i in numbers_of p a m x low high e)

pub numbers_most : (p : ℕ → Bool) (a m : ℕ) → length (numbers a m p) ≤ m
unfolding numbers
numbers_most p a zero = omega arith
numbers_most p a (suc m) = go (p a) (numbers_most p (suc a) m)
  where
    go : (b : Bool) → length (numbers (suc a) m p) ≤ m → length (cond b (a ∷ numbers (suc a) m p) (numbers (suc a) m p)) ≤ suc m
    go true h = omega arith
    go false h = omega arith

-- ---- lists end to end, and a list in another order

pub any_joined : {A : Type 0} (p : A → Bool) (v w : List A) → any p (v ++ w) ≡ any p v || any p w
unfolding any
any_joined p [] w = refl
any_joined p (d ∷ v) w = rw (any_joined p v w) (sym (or_assoc (p d) (any p v) (any p w)))

pub first_joined : (p : ℕ → Bool) (n : ℕ) (v w : List ℕ) → first p n (v ++ w) ≡ cond (any p v) (first p n v) (first p n w)
unfolding any first
first_joined p n [] w = refl
first_joined p n (d ∷ v) w = go (p d) (first_joined p n v w)
  where
    go : (b : Bool) → first p n (v ++ w) ≡ cond (any p v) (first p n v) (first p n w)
        → cond b d (first p n (v ++ w)) ≡ cond (b || any p v) (cond b d (first p n v)) (first p n w)
    go true e = refl
    go false e = e

pub once_joined : (v w : List ℕ) → repeated (v ++ w) ≡ false → (repeated v ≡ false) × (repeated w ≡ false)
unfolding repeated
once_joined [] w e = (refl, e)
once_joined (d ∷ v) w e =
    let (new, rest) = or_neither (among (v ++ w) d) (repeated (v ++ w)) e in
    let (once, others) = once_joined v w rest in
    let apart = (or_neither (among v d) (among w d) (sym (any_joined (eqb d) v w) ∙ new)).0 in
    (rw (apart, once), others)

any_turned : (p : ℕ → Bool) {v w : List ℕ} → Permᴰ v w → any p v ≡ any p w
unfolding any
any_turned p Permᴰ.nil = refl
any_turned p (Permᴰ.cons e d) = λ i. p (e i) || any_turned p d i
any_turned p (Permᴰ.swap {a' = a'} {b' = b'} {l = l} e f) = (λ i. p (e i) || (p (f i) || any p l)) ∙ or_turned (p b') (p a') (any p l)
any_turned p (Permᴰ.trans d d') = any_turned p d ∙ any_turned p d'

repeated_turned : {v w : List ℕ} → Permᴰ v w → repeated v ≡ repeated w
unfolding repeated any
repeated_turned Permᴰ.nil = refl
repeated_turned (Permᴰ.cons e d) = λ i. any_turned (eqb (e i)) d i || repeated_turned d i
repeated_turned (Permᴰ.swap {a' = a'} {b' = b'} {l = l} e f) =
    (λ i. (eqb (e i) (f i) || among l (e i)) || (among l (f i) || repeated l))
    ∙ or_crossed (eqb b' a') (among l b') (among l a') (repeated l)
    ∙ ap (λ (x : Bool). (x || among l a') || (among l b' || repeated l)) (eqb_turned b' a')
repeated_turned (Permᴰ.trans d d') = repeated_turned d ∙ repeated_turned d'

module _ {v w : List ℕ} (turned : Perm v w) where
  pub any_order : (p : ℕ → Bool) → any p v ≡ any p w
  any_order p = ∥∥₁_elim turned (Bool-set (any p v) (any p w)) (any_turned p)

  pub repeated_order : repeated v ≡ repeated w
  repeated_order = ∥∥₁_elim turned (Bool-set (repeated v) (repeated w)) repeated_turned

-- ---- the order of bytes: strict and total

pub before_irreflexive : (a : List ℕ) → bytes_before a a ≡ false
unfolding bytes_before
before_irreflexive [] = refl
before_irreflexive (x ∷ a) = rw (le-ltb x x (omega arith), eq-eqb x x refl) (before_irreflexive a)

-- x ∷ a before y ∷ b, in its two ways
data Way (x : ℕ) (a : List ℕ) (y : ℕ) (b : List ℕ) : Type 0 where
  smaller : x < y → Way x a y b
  same : x ≡ y → bytes_before a b ≡ true → Way x a y b

way : (x : ℕ) (a : List ℕ) (y : ℕ) (b : List ℕ) → bytes_before (x ∷ a) (y ∷ b) ≡ true → Way x a y b
unfolding bytes_before
way x a y b e =
    ⊎_elim (λ h. smaller (ltb-true x y h)) (λ h. let (q, r) = and_both (eqb x y) (bytes_before a b) h in same (eqb-true x y q) r)
    (or_cases (ltb x y) (eqb x y && bytes_before a b) e)

pub before_by_less : (x : ℕ) (a : List ℕ) (y : ℕ) (b : List ℕ) → x < y → bytes_before (x ∷ a) (y ∷ b) ≡ true
unfolding bytes_before
before_by_less x a y b h = or_left (ltb x y) (eqb x y && bytes_before a b) (lt-ltb x y h)

pub before_by_same : (x : ℕ) (a : List ℕ) (y : ℕ) (b : List ℕ) → x ≡ y → bytes_before a b ≡ true → bytes_before (x ∷ a) (y ∷ b) ≡ true
unfolding bytes_before
before_by_same x a y b h e = or_right (ltb x y) (eqb x y && bytes_before a b) (and_of (eqb x y) (bytes_before a b) (eq-eqb x y h) e)

pub before_first : (x : ℕ) (a : List ℕ) (y : ℕ) (b : List ℕ) → bytes_before (x ∷ a) (y ∷ b) ≡ true → x ≤ y
before_first x a y b e = go (way x a y b e)
  where
    go : Way x a y b → x ≤ y
    go (smaller h) = omega arith
    go (same h q) = omega arith

pub before_transitive : (a b c : List ℕ) → bytes_before a b ≡ true → bytes_before b c ≡ true → bytes_before a c ≡ true
unfolding bytes_before
before_transitive [] [] c p q = absurd (false≢true p)
before_transitive [] (y ∷ b) [] p q = absurd (false≢true q)
before_transitive [] (y ∷ b) (z ∷ c) p q = refl
before_transitive (x ∷ a) [] c p q = absurd (false≢true p)
before_transitive (x ∷ a) (y ∷ b) [] p q = absurd (false≢true q)
before_transitive (x ∷ a) (y ∷ b) (z ∷ c) p q = go (way x a y b p) (way y b z c q) (before_transitive a b c)
  where
    go : Way x a y b → Way y b z c → (bytes_before a b ≡ true → bytes_before b c ≡ true → bytes_before a c ≡ true) → bytes_before (x ∷ a) (z ∷ c) ≡ true
    go (smaller h) (smaller k) f = before_by_less x a z c (omega arith)
    go (smaller h) (same k e) f = before_by_less x a z c (omega arith)
    go (same h e) (smaller k) f = before_by_less x a z c (omega arith)
    go (same h e) (same k d) f = before_by_same x a z c (h ∙ k) (f e d)

-- of two that are not the same one is before the other
pub before_connected : (a b : List ℕ) → bytes_before a b ≡ false → bytes_before b a ≡ false → a ≡ b
unfolding bytes_before
before_connected [] [] p q = refl
before_connected [] (y ∷ b) p q = absurd (true≢false p)
before_connected (x ∷ a) [] p q = absurd (true≢false q)
before_connected (x ∷ a) (y ∷ b) p q =
    let (l, e) = or_neither (ltb x y) (eqb x y && bytes_before a b) p in
    let (m, f) = or_neither (ltb y x) (eqb y x && bytes_before b a) q in
    let same : x ≡ y = omega (arith, ltb-false x y l, ltb-false y x m) in
    let rest = before_connected a b (and_rest (eqb x y) (bytes_before a b) (eq-eqb x y same) e)
    (and_rest (eqb y x) (bytes_before b a) (eq-eqb y x (sym same)) f) in
    λ i. same i ∷ rest i

-- ---- runs with others behind them

-- of runs of one length the order decides, whatever stands behind them
pub before_ahead : (a b u v : List ℕ) → length a ≡ length b → bytes_before a b ≡ true → bytes_before (a ++ u) (b ++ v) ≡ true
unfolding bytes_before
before_ahead [] [] u v l e = absurd (false≢true e)
before_ahead [] (y ∷ b) u v l e = absurd (omega arith)
before_ahead (x ∷ a) [] u v l e = absurd (omega arith)
before_ahead (x ∷ a) (y ∷ b) u v l e = go (way x a y b e) (before_ahead a b u v (omega arith))
  where
    go : Way x a y b → (bytes_before a b ≡ true → bytes_before (a ++ u) (b ++ v) ≡ true) → bytes_before (x ∷ (a ++ u)) (y ∷ (b ++ v)) ≡ true
    go (smaller h) f = before_by_less x (a ++ u) y (b ++ v) h
    go (same h k) f = before_by_same x (a ++ u) y (b ++ v) h (f k)

-- behind one run what follows decides
pub before_behind : (a u v : List ℕ) → bytes_before (a ++ u) (a ++ v) ≡ bytes_before u v
unfolding bytes_before
before_behind [] u v = refl
before_behind (x ∷ a) u v = rw (le-ltb x x (omega arith), eq-eqb x x refl) (before_behind a u v)

pub before_asymmetric : (a b : List ℕ) → bytes_before a b ≡ true → bytes_before b a ≡ false
before_asymmetric a b e = fails (bytes_before b a) (λ f. true≢false (sym (before_transitive a b a e f) ∙ before_irreflexive a))

-- ---- a rising list, neighbour by neighbour

module _ {A : Type 0} (before : A → A → Bool) (d : A) where
  pub rising_at : (l : List A) → rising before l ≡ true → (i : ℕ) → suc i < length l → before (get_or l i d) (get_or l (suc i) d) ≡ true
  unfolding rising
  rising_at [] e i h = absurd (omega arith)
  rising_at (x ∷ []) e i h = absurd (omega arith)
  rising_at (x ∷ y ∷ l) e zero h = (and_both (before x y) (rising before (y ∷ l)) e).0
  rising_at (x ∷ y ∷ l) e (suc i) h = rising_at (y ∷ l) (and_both (before x y) (rising before (y ∷ l)) e).1 i (omega arith)

  pub at_rising : (l : List A) → ((i : ℕ) → suc i < length l → before (get_or l i d) (get_or l (suc i) d) ≡ true) → rising before l ≡ true
  unfolding rising
  at_rising [] h = refl
  at_rising (x ∷ []) h = refl
  at_rising (x ∷ y ∷ l) h = and_of (before x y) (rising before (y ∷ l)) (h 0 (omega arith)) (at_rising (y ∷ l) (λ i q. h (suc i) (omega arith)))
