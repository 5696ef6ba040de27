-- What a function makes of each of some numbers, one behind another: the form in which a loop meets the entries of a section. Assumes nothing.
use Prim.Native.Nat.{ℕ, zero, suc, ◌+◌, ◌-◌, ◌≤◌, ◌<◌}
use native.Mathlib.Omega.{arith}
use mathlib.Core.Path.{◌≡◌, refl, sym, ap, ◌∙◌}
use mathlib.Core.List.{List, [], ◌∷◌, ◌++◌, map}
use mathlib.Core.Bool.{Bool, true, false, cond}
use Rattle.rules.specs.01-Lists.{numbers, joined}

-- f of each of m numbers from a on
unfoldable pub span : {A : Type 0} → (ℕ → List A) → ℕ → ℕ → List A
span f a zero = []
span f a (suc m) = f a ++ span f (suc a) m

module _ {A : Type 0} where
  -- those of the numbers that pass, where f has nothing for the others
  pub span_joined : (e f : ℕ → List A) (p : ℕ → Bool) → ((k : ℕ) → p k ≡ true → e k ≡ f k) → ((k : ℕ) → p k ≡ false → f k ≡ []) → (a m : ℕ)
      → joined (map e (numbers a m p)) ≡ span f a m
  unfolding span numbers joined
  span_joined e f p same none a zero = refl
  span_joined e f p same none a (suc m) = go (p a) refl (span_joined e f p same none (suc a) m)
    where
      go : (b : Bool) → p a ≡ b → joined (map e (numbers (suc a) m p)) ≡ span f (suc a) m
          → joined (map e (cond b (a ∷ numbers (suc a) m p) (numbers (suc a) m p))) ≡ f a ++ span f (suc a) m
      go true q h = λ i. same a q i ++ h i
      go false q h = h ∙ ap (λ (l : List A). l ++ span f (suc a) m) (sym (none a q))

  pub span_passed : (e : ℕ → List A) (p : ℕ → Bool) (a m : ℕ) → joined (map e (numbers a m p)) ≡ span (λ k. cond (p k) (e k) []) a m
  span_passed e p = span_joined e (λ k. cond (p k) (e k) []) p (λ k q. rw q) (λ k q. rw q)

  -- what is left of n numbers from k on
  pub span_next : (f : ℕ → List A) (n k : ℕ) → k < n → span f k (n - k) ≡ f k ++ span f (k + 1) (n - (k + 1))
  unfolding span
  span_next f n k h =
      let more : n - k ≡ suc (n - (k + 1)) = omega arith in
      let next : suc k ≡ k + 1 = omega arith in
      ap (λ (m : ℕ). span f k m) more ∙ ap (λ (j : ℕ). f k ++ span f j (n - (k + 1))) next

  pub span_past : (f : ℕ → List A) (n k : ℕ) → n ≤ k → span f k (n - k) ≡ []
  unfolding span
  span_past f n k h = let none : n - k ≡ 0 = omega arith in ap (λ (m : ℕ). span f k m) none
