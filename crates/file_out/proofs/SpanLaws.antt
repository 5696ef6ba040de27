-- Spans of entries, joined and counted. Assumes nothing.
use Prim.Native.Nat.{ℕ, zero, suc, ◌+◌, ◌-◌, ◌≤◌, ◌<◌}
use native.Mathlib.Omega.{arith}
use mathlib.Core.Path.{◌≡◌, refl, sym, ap, ◌∙◌}
use mathlib.Core.List.{List, [], ◌∷◌, ◌++◌, map}
use mathlib.Core.Bool.{Bool, cond}
use lib.ListN.{length, length-append}
use Rattle.rules.specs.01-Lists.{numbers, joined}
use Rattle.rules.proofs.Sections.{joined_append}
use Rattle.file_out_presences.proofs.SpanLaws.{span, span_passed, span_next, span_past}

pub joined_span : {A : Type 0} (h : ℕ → List (List A)) (a m : ℕ) → joined (span h a m) ≡ span (λ k. joined (h k)) a m
unfolding span joined
joined_span h a zero = refl
joined_span {A} h a (suc m) = joined_append (h a) (span h (suc a) m) ∙ ap (λ (l : List A). joined (h a) ++ l) (joined_span h (suc a) m)

-- the numbers that pass are such a span
pub numbers_span : (p : ℕ → Bool) (a m : ℕ) → numbers a m p ≡ span (λ k. cond (p k) (k ∷ []) []) a m
unfolding joined
numbers_span p a m = sym (one_by_one (numbers a m p)) ∙ span_passed (λ k. k ∷ []) p a m
  where
    one_by_one : (l : List ℕ) → joined (map (λ k. k ∷ []) l) ≡ l
    one_by_one [] = refl
    one_by_one (x ∷ l) = ap (λ (r : List ℕ). x ∷ r) (one_by_one l)

-- ---- a loop that counts: what it has counted, and what is left from k on

pub record Counting {A : Type 0} (f : ℕ → List A) (n k r : ℕ) : Type 0 where
  pub left : r + length (span f k (n - k)) ≡ length (span f 0 n)

module _ {A : Type 0} {f : ℕ → List A} {n : ℕ} where
  pub counting_more : {k r r' : ℕ} → Counting f n k r → k < n → r' ≡ r + length (f k) → Counting f n (k + 1) r'
  counting_more {k} {r} {r'} c h e =
      record { left = omega (arith, c.left, ap length (span_next f n k h), length-append (f k) (span f (k + 1) (n - (k + 1)))) }

  pub counting_done : {k r : ℕ} → Counting f n k r → n ≤ k → r ≡ length (span f 0 n)
  counting_done {k} {r} c h = omega (arith, c.left, ap length (span_past f n k h))
