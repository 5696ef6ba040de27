-- Laws of a round: of the loop that makes one, of what it holds, and of a round that adds nothing. Assumes nothing.
use Prim.Native.Nat.{ℕ, ◌+◌, ◌<◌}
use native.Mathlib.Omega.{arith}
use mathlib.Core.Path.{◌≡◌, refl, sym, ap, ◌∙◌}
use mathlib.Core.Logic.{◌⊎◌, inl, inr, ⊎_elim}
use mathlib.Core.Bool.{Bool, true, false, ◌&&◌, ◌||◌, and-false, or-false}
use lib.Dec.{eqb, ltb}
use borrow.Author.Tests.{eqb-false, eqb-true, le-ltb, lt-ltb, ltb-false, ltb-true}
use Rattle.rules.proofs.Bools.{or_cases, or_right, and_both, and_of}
use Rattle.type_set.specs.Round.{grow_to, grow}

ltb_more : (k u : ℕ) → (k ≡ u → ⊥) → ltb k (u + 1) ≡ ltb k u
ltb_more k u h = go (ltb k u) refl
  where
    go : (x : Bool) → ltb k u ≡ x → ltb k (u + 1) ≡ x
    go true e = lt-ltb k (u + 1) (omega (arith, ltb-true k u e))
    go false e = le-ltb k (u + 1) (omega (arith, ltb-false k u e))

module _ (m p : ℕ → Bool) where
  -- ---- the loop: at its start, and past a number that is taken, or is not

  pub grow_none : (k : ℕ) → p k ≡ grow_to 0 m p k
  unfolding grow_to
  grow_none k = rw (le-ltb k 0 (omega arith)) (sym (or-false (p k)))

  pub grow_add : (u : ℕ) → m u ≡ true → (k : ℕ) → eqb k u || grow_to u m p k ≡ grow_to (u + 1) m p k
  unfolding grow_to
  grow_add u t k = go (eqb k u) refl
    where
      go : (x : Bool) → eqb k u ≡ x → x || (p k || (ltb k u && m k)) ≡ p k || (ltb k (u + 1) && m k)
      go true e =
          let same : k ≡ u = eqb-true k u e in
          sym (or_right (p k) (ltb k (u + 1) && m k) (and_of _ _ (lt-ltb k (u + 1) (omega arith)) (ap m same ∙ t)))
      go false e = rw (ltb_more k u (eqb-false k u e))

  pub grow_skip : (u : ℕ) → m u ≡ false → (k : ℕ) → grow_to u m p k ≡ grow_to (u + 1) m p k
  unfolding grow_to
  grow_skip u t k = go (eqb k u) refl
    where
      go : (x : Bool) → eqb k u ≡ x → p k || (ltb k u && m k) ≡ p k || (ltb k (u + 1) && m k)
      go true e = let none : m k ≡ false = ap m (eqb-true k u e) ∙ t in simp (none, and-false)
      go false e = rw (ltb_more k u (eqb-false k u e))

  -- ---- what a round holds

  pub grow_cases : (k : ℕ) → grow m p k ≡ true → (p k ≡ true) ⊎ ((k < 128) × (m k ≡ true))
  unfolding grow_to
  grow_cases k e = ⊎_elim inl (λ g. let (l, t) = and_both _ _ g in inr (ltb-true k 128 l, t)) (or_cases (p k) (ltb k 128 && m k) e)

  pub grow_taken : (k : ℕ) → k < 128 → m k ≡ true → grow m p k ≡ true
  unfolding grow_to
  grow_taken k l e = or_right (p k) (ltb k 128 && m k) (and_of _ _ (lt-ltb k 128 l) e)
