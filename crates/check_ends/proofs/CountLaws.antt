-- Counts of the numbers that pass a test: one to one into those that pass another there are no more, and fewer where one is left over.
-- Assumes nothing.
use Prim.Native.Nat.{ℕ, zero, suc, ◌+◌, ◌≤◌, ◌<◌}
use native.Mathlib.Omega.{arith}
use mathlib.Core.Path.{◌≡◌, refl, sym, ap, ◌∙◌, subst}
use mathlib.Core.Bool.{Bool, true, false, cond, not, ◌&&◌, and-true, and-false}
use lib.Dec.{eqb, ltb}
use borrow.Author.Tests.{ltb-true, ltb-false, eq-eqb, ne_eqb}
use Rattle.check_ends.specs.Count.{count}

-- ---- at most all

pub count_most : (p : ℕ → Bool) (n : ℕ) → count p n ≤ n
unfolding count
count_most p zero = omega arith
count_most p (suc n) = go (p n) (count_most p n)
  where
    go : (t : Bool) → count p n ≤ n → count p n + cond t 1 0 ≤ suc n
    go true h = omega arith
    go false h = omega arith

-- ---- one number less

abbrev but : (ℕ → Bool) → ℕ → ℕ → Bool
but q j k = q k && not (eqb k j)

module _ (q : ℕ → Bool) (j : ℕ) where
  but_other : (k : ℕ) → (k ≡ j → ⊥) → but q j k ≡ q k
  but_other k n = rw (ne_eqb k j n) (and-true (q k))

  but_self : but q j j ≡ false
  but_self = rw (eq-eqb j j refl) (and-false (q j))

  -- below j nothing is missing
  but_below : (m : ℕ) → m ≤ j → count (but q j) m ≡ count q m
  unfolding count
  but_below zero h = refl
  but_below (suc m) h = λ i. but_below m (omega arith) i + cond (but_other m (λ e. omega arith) i) 1 0

  but_count : (m : ℕ) → j < m → q j ≡ true → count q m ≡ suc (count (but q j) m)
  unfolding count
  but_count zero h e = absurd (omega arith)
  but_count (suc m) h e = go (ltb j m) refl (λ l. but_count m l e)
    where
      go : (t : Bool) → ltb j m ≡ t → (j < m → count q m ≡ suc (count (but q j) m)) → count q (suc m) ≡ suc (count (but q j) (suc m))
      go true l ih =
          let less = ltb-true j m l in
          rw (but_other m (λ s. omega arith)) (omega (arith, ih less))
      go false l ih =
          let same : j ≡ m = omega (arith, ltb-false j m l) in
          let here : q m ≡ true = ap q (sym same) ∙ e in
          let gone : but q j m ≡ false = subst (λ (k : ℕ). but q j k ≡ false) same but_self in
          rw (gone, here) (omega (arith, but_below m (omega arith)))

-- ---- one to one

-- i has a partner below m that passes
pub record Partner (q : ℕ → Bool) (m : ℕ) (R : ℕ → ℕ → Type 0) (i : ℕ) : Type 0 where
  pub place : ℕ
  pub below : place < m
  pub passes : q place ≡ true
  pub is : R i place

module _ (p : ℕ → Bool) (m : ℕ) (R : ℕ → ℕ → Type 0) (alone : (i k j : ℕ) → R i j → R k j → i ≡ k) where
  pub count_le : (q : ℕ → Bool) (n : ℕ) → ((i : ℕ) → i < n → p i ≡ true → Partner q m R i) → count p n ≤ count q m
  unfolding count
  count_le q zero f = omega arith
  count_le q (suc n) f =
      go (p n) refl (λ q₁ g. count_le q₁ n g)
    where
      go : (t : Bool) → p n ≡ t → ((q₁ : ℕ → Bool) → ((i : ℕ) → i < n → p i ≡ true → Partner q₁ m R i) → count p n ≤ count q₁ m)
          → count p n + cond t 1 0 ≤ count q m
      go false e ih = omega (arith, ih q (λ i h u. f i (omega arith) u))
      go true e ih =
          let x = f n (omega arith) e in
          let rest = ih (but q x.place) (λ i h u.
          let y = f i (omega arith) u in
          let other : y.place ≡ x.place → ⊥
          = λ s. omega (arith, alone i n x.place (subst (R i) s y.is) x.is) in
          record {
            place = y.place;
            below = y.below;
            passes = but_other q x.place y.place other ∙ y.passes;
            is = y.is;
          }) in
          omega (arith, rest, but_count q x.place m x.below x.passes)

  -- one that is nobody's partner
  pub count_lt : (q : ℕ → Bool) (n j : ℕ) → ((i : ℕ) → i < n → p i ≡ true → Partner q m R i) → j < m → q j ≡ true
      → ((i : ℕ) → i < n → p i ≡ true → R i j → ⊥) → count p n < count q m
  count_lt q n j f h e left =
      let rest = count_le (but q j) n (λ i l u.
      let y = f i l u in
      record {
        place = y.place;
        below = y.below;
        passes = but_other q j y.place (λ s. left i l u (subst (R i) s y.is)) ∙ y.passes;
        is = y.is;
      }) in
      omega (arith, rest, but_count q j m h e)
