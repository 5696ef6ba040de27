-- Laws of the list of members: tests that agree have one list, a part has no more members, and one with as many is the whole. The ones
-- of a word of marks are as many as the numbers that it marks. Assumes nothing.
use Prim.Native.Nat.{ℕ, zero, suc, ◌+◌, ◌*◌, ◌≤◌, ◌<◌}
use native.Mathlib.Nat.{add-suc, add-zero, suc-add, zero-add}
use native.Mathlib.Omega.{arith}
use mathlib.Core.Path.{◌≡◌, refl, sym, ap, ap₂, ◌∙◌}
use mathlib.Core.Logic.{⊎_elim}
use mathlib.Core.List.Memᴰ
use mathlib.Core.List.{List, [], ◌∷◌, ◌++◌}
use mathlib.Core.Bool.{Bool, true, false, not, cond, ◌&&◌, and-true, false≢true}
use lib.Count.{ones, ones_cat}
use lib.Dec.{ltb, eqb, lit<}
use lib.ListN.{length, get_or, length-append}
use borrow.Author.Tests.{ltb-false, ltb-true, eqb-true, eqb-false, ne_eqb}
use Rattle.rules.specs.01-Lists.{◌∈◌, numbers}
use Rattle.rules.specs.05-Descent.{members}
use Rattle.rules.specs.11-Asks.{one_if, marks}
use Rattle.rules.proofs.01-Lists.{Different, at_place, numbers_alike}
use Rattle.rules.proofs.05-Descent.{members_in, members_once, members_at_most}

-- ---- two tests

-- members of two tests that agree on the types are the same list
pub members_alike : (p q : ℕ → Bool) → ((k : ℕ) → k < 128 → p k ≡ q k) → members p ≡ members q
unfolding members
members_alike p q h = numbers_alike p q 0 128 (λ k l u. h k (omega arith))

-- a list with no number at two places
once_different : (l : List ℕ) → ((i j : ℕ) → i < length l → j < length l → get_or l i 0 ≡ get_or l j 0 → i ≡ j) → Different l
once_different [] once = tt
once_different (x ∷ l) once = (
  (λ m. let (i, u, e) = at_place 0 m in omega (arith, once 0 (suc i) (omega arith) (omega arith) (sym e))),
  once_different l (λ i j u v e. omega (arith, once (suc i) (suc j) (omega arith) (omega arith) e)),
)

module _ (p q : ℕ → Bool) (part : (k : ℕ) → p k ≡ true → q k ≡ true) where
  different : Different (members p)
  different = once_different (members p) (members_once p)

  passes : (k : ℕ) → k ∈ members p → (k < 128) × (q k ≡ true)
  passes k i = let (u, e) = members_in p k i in (u, part k e)

  -- a part has no more members
  pub members_le : length (members p) ≤ length (members q)
  members_le = members_at_most q (members p) different passes

  -- and one with as many members is the whole: a type that it lacked would be one more
  pub members_same : length (members q) ≤ length (members p) → (k : ℕ) → k < 128 → q k ≡ true → p k ≡ true
  members_same le k u e = go (p k) refl
    where
      go : (b : Bool) → p k ≡ b → b ≡ true
      go true g = refl
      go false g =
          let new : k ∈ members p → ⊥ = λ i. false≢true (sym g ∙ (members_in p k i).1) in
          let more = members_at_most q (k ∷ members p) (new, different) (λ x i. ⊎_elim (λ s. rw s (u, e)) (passes x) (Memᴰ.cases_cons i)) in
          absurd (omega arith)

  -- so that one that lacks a type of the whole has fewer
  pub members_fewer : (k : ℕ) → k < 128 → p k ≡ false → q k ≡ true → length (members p) < length (members q)
  members_fewer k u out e = go (ltb (length (members p)) (length (members q))) refl
    where
      go : (b : Bool) → ltb (length (members p)) (length (members q)) ≡ b → length (members p) < length (members q)
      go true h = ltb-true (length (members p)) (length (members q)) h
      go false h = absurd (false≢true (sym out ∙ members_same (ltb-false (length (members p)) (length (members q)) h) k u e))

-- ---- the lowest of a set, and what is left without it

module _ (p q : ℕ → Bool) (n : ℕ) (e : p n ≡ true) (out : (k : ℕ) → q k ≡ p k && not (eqb k n)) where
  -- it comes first
  numbers_first_out : (a m : ℕ) → a ≤ n → n < a + m → ((k : ℕ) → k < n → p k ≡ false) → numbers a m p ≡ n ∷ numbers a m q
  unfolding numbers
  numbers_first_out a zero l u none = absurd (omega arith)
  numbers_first_out a (suc m) l u none = go (eqb a n) refl (λ h. numbers_first_out (suc a) m h (omega arith) none)
    where
      behind : (k : ℕ) → suc a ≤ k → a ≡ n → p k ≡ q k
      behind k h s = sym (out k ∙ ap (λ (x : Bool). p k && not x) (ne_eqb k n (λ z. omega arith)) ∙ and-true (p k))

      go : (b : Bool) → eqb a n ≡ b → (suc a ≤ n → numbers (suc a) m p ≡ n ∷ numbers (suc a) m q) → numbers a (suc m) p ≡ n ∷ numbers a (suc m) q
      go true g ih =
          let same : a ≡ n = eqb-true a n g in
          let taken : p a ≡ true = ap p same ∙ e in
          let gone : q a ≡ false = out a ∙ rw (taken, g) in
          rw (taken, gone) (λ i. same i ∷ numbers_alike p q (suc a) m (λ k h w. behind k h same) i)
      go false g ih =
          let passed : p a ≡ false = none a (omega (arith, eqb-false a n g)) in
          let gone : q a ≡ false = out a ∙ rw passed in
          rw (passed, gone) (ih (omega (arith, eqb-false a n g)))

  pub members_first : n < 128 → ((k : ℕ) → k < n → p k ≡ false) → members p ≡ n ∷ members q
  unfolding members
  members_first h none = numbers_first_out 0 128 (omega arith) (omega arith) none

-- ---- the count

-- the numbers of two stretches
pub numbers_add : (p : ℕ → Bool) (a m n : ℕ) → numbers a (m + n) p ≡ numbers a m p ++ numbers (a + m) n p
unfolding numbers
numbers_add p a zero n = rw (zero-add n, add-zero a)
numbers_add p a (suc m) n = rw (suc-add m n, numbers_add p (suc a) m n, suc-add a m, add-suc a m) (go (p a))
  where
    go : (b : Bool) → cond b (a ∷ (numbers (suc a) m p ++ numbers (suc (a + m)) n p)) (numbers (suc a) m p ++ numbers (suc (a + m)) n p)
        ≡ cond b (a ∷ numbers (suc a) m p) (numbers (suc a) m p) ++ numbers (suc (a + m)) n p
    go true = refl
    go false = refl

-- a word has as many ones as the numbers that it marks
ones_marks : (p : ℕ → Bool) (a n : ℕ) → ones (marks a n p) ≡ length (numbers a n p)
unfolding marks numbers ones
ones_marks p a zero = refl
ones_marks p a (suc n) = go (p a) (ones_marks p (suc a) n)
  where
    go : (b : Bool) → ones (marks (suc a) n p) ≡ length (numbers (suc a) n p)
        → ones (marks (suc a) n p * 2 + one_if b) ≡ length (cond b (a ∷ numbers (suc a) n p) (numbers (suc a) n p))
    go true h = omega (arith, ones_cat 1 (marks (suc a) n p) 1 (lit< tt))
    go false h = omega (arith, ones_cat 1 (marks (suc a) n p) 0 (lit< tt))

pub ones_members : (p : ℕ → Bool) → ones (marks 0 64 p) + ones (marks 64 64 p) ≡ length (members p)
unfolding members
ones_members p =
    ap₂ ◌+◌ (ones_marks p 0 64) (ones_marks p 64 64) ∙ sym (ap length (numbers_add p 0 64 64) ∙ length-append (numbers 0 64 p) (numbers 64 64 p))
