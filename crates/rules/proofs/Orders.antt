-- The orders in which rows are kept are strict and total, so a rising list stays one when a new row is put in or some are taken out, and
-- is known by what stands in it. Assumes nothing.
use Prim.Native.Nat.{ℕ, ◌<◌}
use native.Mathlib.Omega.{arith}
use mathlib.Core.Path.{◌≡◌, refl, sym, ap, subst, ◌∙◌}
use mathlib.Core.Logic.{⊎_elim}
use mathlib.Core.List.Memᴰ
use mathlib.Core.List.{List, [], ◌∷◌, ◌++◌, map}
use mathlib.Core.Bool.{Bool, true, false, not, cond, ◌&&◌, ◌||◌, true≢false, false≢true, and-false}
use lib.Dec.{ltb, eqb}
use borrow.Author.Tests.{ltb-true, ltb-false, lt-ltb, le-ltb, eqb-true, eq-eqb}
use Rattle.rules.specs.01-Lists.{◌∈◌, bytes_before, rising, without, put, put_all}
use Rattle.rules.specs.03-Names.{Name, name_before}
use Rattle.rules.specs.04-Schema.{Side, side_code}
use Rattle.rules.specs.06-Good.{presence_before, application_before, end_before}
use Rattle.rules.specs.04-Schema.Side.{origin, destination}
use Rattle.rules.proofs.Bools.{or_cases, or_left, or_right, or_neither, and_both, and_of}
use Rattle.rules.proofs.01-Lists.{Different, before_irreflexive, before_transitive, before_connected}
use Rattle.rules.proofs.03-Names.{name_irreflexive, name_transitive, name_connected}
use Rattle.rules.proofs.Edits.{tail_rising, put_rising, put_in, without_in}

pub record Order {A : Type 0} (before : A → A → Bool) : Type 0 where
  pub strict : (x : A) → before x x ≡ false
  pub connected : (x y : A) → before x y ≡ false → before y x ≡ false → x ≡ y
  pub transitive : (x y z : A) → before x y ≡ true → before y z ≡ true → before x z ≡ true

pub number_order : Order ltb
number_order = record {
  strict = λ x. le-ltb x x (omega arith);
  connected = λ x y p q. omega (arith, ltb-false x y p, ltb-false y x q);
  transitive = λ x y z p q. lt-ltb x z (omega (arith, ltb-true x y p, ltb-true y z q));
}

pub bytes_order : Order bytes_before
bytes_order = record { strict = before_irreflexive; connected = before_connected; transitive = before_transitive }

-- ---- by a number first, and then by the rest

abbrev by : ℕ → ℕ → Bool → Bool
by x y rest = ltb x y || (eqb x y && rest)

by_strict : (x : ℕ) {r : Bool} → r ≡ false → by x x r ≡ false
by_strict x e = rw (le-ltb x x (omega arith), e) (and-false (eqb x x))

by_connected : (x y : ℕ) (r q : Bool) → by x y r ≡ false → by y x q ≡ false → (x ≡ y) × (r ≡ false) × (q ≡ false)
by_connected x y r q e f =
    let (a, b) = or_neither (ltb x y) (eqb x y && r) e in
    let (c, d) = or_neither (ltb y x) (eqb y x && q) f in
    let same : x ≡ y = omega (arith, ltb-false x y a, ltb-false y x c) in
    (same, rw (eq-eqb x y same) at b, rw (eq-eqb y x (sym same)) at d)

by_transitive : (x y z : ℕ) (r q p : Bool) → by x y r ≡ true → by y z q ≡ true → (r ≡ true → q ≡ true → p ≡ true) → by x z p ≡ true
by_transitive x y z r q p e f g =
    ⊎_elim
    (λ a. ⊎_elim
    (λ b. first (omega (arith, ltb-true x y a, ltb-true y z b)))
    (λ b. first (omega (arith, ltb-true x y a, eqb-true y z (and_both (eqb y z) q b).0)))
    (or_cases (ltb y z) (eqb y z && q) f))
    (λ a. let (same, rest) = and_both (eqb x y) r a in
    ⊎_elim
    (λ b. first (omega (arith, eqb-true x y same, ltb-true y z b)))
    (λ b. let (same', rest') = and_both (eqb y z) q b in
    or_right (ltb x z) (eqb x z && p) (and_of (eqb x z) p (eq-eqb x z (eqb-true x y same ∙ eqb-true y z same')) (g rest rest')))
    (or_cases (ltb y z) (eqb y z && q) f))
    (or_cases (ltb x y) (eqb x y && r) e)
  where
    first : x < z → by x z p ≡ true
    first h = or_left (ltb x z) (eqb x z && p) (lt-ltb x z h)

-- ---- the three tables

pub application_order : Order application_before
unfolding application_before
application_order = record {
  strict = λ x. by_strict x.sds (by_strict x.to (number_order.strict x.attribute));
  connected = λ x y p q.
      let (a, p1, q1) = by_connected x.sds y.sds _ _ p q in
      let (b, p2, q2) = by_connected x.to y.to _ _ p1 q1 in
      λ i. record { sds = a i; to = b i; attribute = number_order.connected x.attribute y.attribute p2 q2 i };
  transitive = λ x y z p q.
      by_transitive x.sds y.sds z.sds _ _ _ p q (λ p1 q1.
      by_transitive x.to y.to z.to _ _ _ p1 q1 (λ p2 q2.
      number_order.transitive x.attribute y.attribute z.attribute p2 q2));
}

pub side_is : (x y : Side) → side_code x ≡ side_code y → x ≡ y
side_is origin origin e = refl
side_is origin destination e = absurd (omega arith)
side_is destination origin e = absurd (omega arith)
side_is destination destination e = refl

pub end_order : Order end_before
unfolding end_before
end_order = record {
  strict = λ x. by_strict x.sds (by_strict x.link (by_strict (side_code x.side) (number_order.strict x.object)));
  connected = λ x y p q.
      let (a, p1, q1) = by_connected x.sds y.sds _ _ p q in
      let (b, p2, q2) = by_connected x.link y.link _ _ p1 q1 in
      let (c, p3, q3) = by_connected (side_code x.side) (side_code y.side) _ _ p2 q2 in
      λ i. record {
        sds = a i;
        link = b i;
        side = side_is x.side y.side c i;
        object = number_order.connected x.object y.object p3 q3 i;
      };
  transitive = λ x y z p q.
      by_transitive x.sds y.sds z.sds _ _ _ p q (λ p1 q1.
      by_transitive x.link y.link z.link _ _ _ p1 q1 (λ p2 q2.
      by_transitive (side_code x.side) (side_code y.side) (side_code z.side) _ _ _ p2 q2 (λ p3 q3.
      number_order.transitive x.object y.object z.object p3 q3)));
}

flip : (x : Bool) → not x ≡ true → x ≡ false
flip true h = absurd (false≢true h)
flip false h = refl

-- by a name first, and then by the rest
abbrev named : Name → Name → Bool → Bool
named n m rest = name_before n m || (not (name_before m n) && rest)

named_strict : (n : Name) {r : Bool} → r ≡ false → named n n r ≡ false
named_strict n e = rw (name_irreflexive n, e)

named_connected : (n m : Name) (r q : Bool) → named n m r ≡ false → named m n q ≡ false → (n ≡ m) × (r ≡ false) × (q ≡ false)
named_connected n m r q e f =
    let (a, b) = or_neither (name_before n m) (not (name_before m n) && r) e in
    let (c, d) = or_neither (name_before m n) (not (name_before n m) && q) f in
    (name_connected n m a c, rw c at b, rw a at d)

named_transitive : (n m o : Name) (r q p : Bool) → named n m r ≡ true → named m o q ≡ true → (r ≡ true → q ≡ true → p ≡ true) → named n o p ≡ true
named_transitive n m o r q p e f g = go (name_before n m) refl (name_before m o) refl e f
  where
    first : name_before n o ≡ true → named n o p ≡ true
    first = or_left (name_before n o) (not (name_before o n) && p)

    -- where neither is before the other the names are one
    go : (a : Bool) → name_before n m ≡ a → (b : Bool) → name_before m o ≡ b → a || (not (name_before m n) && r) ≡ true
        → b || (not (name_before o m) && q) ≡ true → named n o p ≡ true
    go true h true k e f = first (name_transitive n m o h k)
    go true h false k e f =
        let (x, y) = and_both (not (name_before o m)) q f in
        first (ap (name_before n) (sym (name_connected m o k (flip (name_before o m) x))) ∙ h)
    go false h true k e f =
        let (x, y) = and_both (not (name_before m n)) r e in
        first (ap (λ (l : Name). name_before l o) (name_connected n m h (flip (name_before m n) x)) ∙ k)
    go false h false k e f =
        let (x, y) = and_both (not (name_before m n)) r e in
        let (z, w) = and_both (not (name_before o m)) q f in
        let same : n ≡ m = name_connected n m h (flip (name_before m n) x) in
        or_right (name_before n o) (not (name_before o n) && p)
        (and_of (not (name_before o n)) p (ap (λ (l : Name). not (name_before o l)) same ∙ z) (g y w))

pub presence_order : Order presence_before
unfolding presence_before
presence_order = record {
  strict = λ x. by_strict x.sds (named_strict x.name (by_strict x.type (by_strict x.usage (number_order.strict x.definition))));
  connected = λ x y p q.
      let (a, p1, q1) = by_connected x.sds y.sds _ _ p q in
      let (b, p2, q2) = named_connected x.name y.name _ _ p1 q1 in
      let (c, p3, q3) = by_connected x.type y.type _ _ p2 q2 in
      let (d, p4, q4) = by_connected x.usage y.usage _ _ p3 q3 in
      λ i. record { sds = a i; name = b i; type = c i; usage = d i; definition = number_order.connected x.definition y.definition p4 q4 i };
  transitive = λ x y z p q.
      by_transitive x.sds y.sds z.sds _ _ _ p q (λ p1 q1.
      named_transitive x.name y.name z.name _ _ _ p1 q1 (λ p2 q2.
      by_transitive x.type y.type z.type _ _ _ p2 q2 (λ p3 q3.
      by_transitive x.usage y.usage z.usage _ _ _ p3 q3 (λ p4 q4.
      number_order.transitive x.definition y.definition z.definition p4 q4))));
}

-- ---- rising lists

module _ {A : Type 0} {before : A → A → Bool} (o : Order before) where
  pub put_rises : (a : A) (rs : List A) → rising before rs ≡ true → (a ∈ rs → ⊥) → rising before (put before a rs) ≡ true
  put_rises a rs r n = put_rising before a rs r (λ x i e. go x i e (before a x) refl)
    where
      go : (x : A) → x ∈ rs → before x a ≡ false → (t : Bool) → before a x ≡ t → before a x ≡ true
      go x i e true q = q
      go x i e false q = absurd (n (rw (o.connected a x q e) i))

  pub put_all_rises : (new rs : List A) → rising before rs ≡ true → Different new → ((y : A) → y ∈ new → y ∈ rs → ⊥)
      → rising before (put_all before new rs) ≡ true
  unfolding put_all
  put_all_rises [] rs r apart none = r
  put_all_rises (a ∷ new) rs r apart none =
      put_all_rises new (put before a rs) (put_rises a rs r (none a (Memᴰ.head refl))) apart.1 (λ y i j.
      ⊎_elim (λ e. apart.0 (subst (λ (x : A). x ∈ new) e i)) (none y (Memᴰ.tail i)) (put_in before a rs j))

  pub rising_all : (x : A) (rs : List A) → rising before (x ∷ rs) ≡ true → (y : A) → y ∈ rs → before x y ≡ true
  unfolding rising
  rising_all x [] r y i = absurd (Memᴰ.not-nil i)
  rising_all x (z ∷ rs) r y i =
      let (a, b) = and_both (before x z) (rising before (z ∷ rs)) r in
      ⊎_elim (λ h. rw h a) (λ m. o.transitive x z y a (rising_all z rs b y m)) (Memᴰ.cases_cons i)

  rising_onto : (x : A) (rs : List A) → rising before rs ≡ true → ((y : A) → y ∈ rs → before x y ≡ true) → rising before (x ∷ rs) ≡ true
  unfolding rising
  rising_onto x [] r f = refl
  rising_onto x (y ∷ rs) r f = and_of (before x y) (rising before (y ∷ rs)) (f y (Memᴰ.head refl)) r

  pub without_rises : (p : A → Bool) (rs : List A) → rising before rs ≡ true → rising before (without p rs) ≡ true
  unfolding without
  without_rises p [] r = r
  without_rises p (x ∷ rs) r = go (p x) (without_rises p rs (tail_rising before x rs r))
    where
      go : (t : Bool) → rising before (without p rs) ≡ true → rising before (cond t (without p rs) (x ∷ without p rs)) ≡ true
      go true ih = ih
      go false ih = rising_onto x (without p rs) ih (λ y i. rising_all x rs r y (without_in p rs i).0)

  pub rising_different : (rs : List A) → rising before rs ≡ true → Different rs
  rising_different [] r = tt
  rising_different (x ∷ rs) r =
      (λ i. true≢false (sym (rising_all x rs r x i) ∙ o.strict x), rising_different rs (tail_rising before x rs r))

  -- one behind the other, all of the first before all of the second
  pub rising_joined : (rs qs : List A) → rising before rs ≡ true → rising before qs ≡ true
      → ((x y : A) → x ∈ rs → y ∈ qs → before x y ≡ true) → rising before (rs ++ qs) ≡ true
  rising_joined [] qs r q f = q
  rising_joined (x ∷ rs) qs r q f =
      rising_onto x (rs ++ qs) (rising_joined rs qs (tail_rising before x rs r) q (λ y z i. f y z (Memᴰ.tail i)))
      (λ y i. ⊎_elim (rising_all x rs r y) (f x y (Memᴰ.head refl)) (Memᴰ.append_cases rs i))

  -- two in which the same stand are the same
  pub rising_same : (rs qs : List A) → rising before rs ≡ true → rising before qs ≡ true → ((x : A) → x ∈ rs → x ∈ qs)
      → ((x : A) → x ∈ qs → x ∈ rs) → rs ≡ qs
  rising_same [] [] r q f g = refl
  rising_same [] (y ∷ qs) r q f g = absurd (Memᴰ.not-nil (g y (Memᴰ.head refl)))
  rising_same (x ∷ rs) [] r q f g = absurd (Memᴰ.not-nil (f x (Memᴰ.head refl)))
  rising_same (x ∷ rs) (y ∷ qs) r q f g =
      let first : x ≡ y = ⊎_elim (λ e. e) (λ i. ⊎_elim sym (λ j. absurd (never x (o.transitive x y x (rising_all x rs r y j) (rising_all y qs q x i))))
      (Memᴰ.cases_cons (g y (Memᴰ.head refl)))) (Memᴰ.cases_cons (f x (Memᴰ.head refl))) in
      let rest = rising_same rs qs (tail_rising before x rs r) (tail_rising before y qs q)
      (λ z i. ⊎_elim (λ e. absurd (never x (rising_all x rs r x (subst (λ (u : A). u ∈ rs) (e ∙ sym first) i)))) (λ j. j) (Memᴰ.cases_cons (f z (Memᴰ.tail i))))
      (λ z i. ⊎_elim (λ e. absurd (never y (rising_all y qs q y (subst (λ (u : A). u ∈ qs) (e ∙ first) i)))) (λ j. j) (Memᴰ.cases_cons (g z (Memᴰ.tail i)))) in
      λ i. first i ∷ rest i
    where
      never : (z : A) → before z z ≡ true → ⊥
      never z e = true≢false (sym e ∙ o.strict z)

-- each made another, in another order
pub rising_mapped : {A B : Type 0} (before : A → A → Bool) (before' : B → B → Bool) (f : A → B) (l : List A)
    → ((x y : A) → x ∈ l → y ∈ l → before x y ≡ true → before' (f x) (f y) ≡ true) → rising before l ≡ true → rising before' (map f l) ≡ true
unfolding rising
rising_mapped before before' f [] h r = refl
rising_mapped before before' f (x ∷ []) h r = refl
rising_mapped before before' f (x ∷ y ∷ l) h r =
    let (a, b) = and_both (before x y) (rising before (y ∷ l)) r in
    and_of (before' (f x) (f y)) (rising before' (map f (y ∷ l))) (h x y (Memᴰ.head refl) (Memᴰ.tail (Memᴰ.head refl)) a)
    (rising_mapped before before' f (y ∷ l) (λ u v i j. h u v (Memᴰ.tail i) (Memᴰ.tail j)) b)
