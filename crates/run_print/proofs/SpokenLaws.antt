-- The number of an answer, and behind 0 its values. Assumes nothing.
use Prim.Native.Nat.{ℕ, ◌≤◌}
use native.Mathlib.Omega.{arith}
use mathlib.Core.Path.{◌≡◌, refl, sym, ap, ◌∙◌, subst}
use mathlib.Core.List.{List, [], ◌∷◌, ◌++◌, append_assoc}
use lib.ListN.{length, length-append}
use borrow.Author.Tests.{ne_eqb, eq-eqb}
use Rattle.rules.specs.14-Run.{decimal, printed}
use Rattle.run_print.specs.Print.{Printed, spaced, spoken}
use Rattle.run_print.proofs.PrintLaws.{printed_next, decimal_few, spaced_append, spaced_one, printed_spaced}

pub printed_one : (n : ℕ) → printed (n ∷ []) ≡ decimal 20 n
unfolding printed
printed_one n = refl

pub spoken_refused : (m : ℕ) (values : List ℕ) → (m ≡ 0 → ⊥) → spoken m values ≡ printed (m ∷ [])
unfolding spoken
spoken_refused m values h = rw (ne_eqb m 0 h)

spoken_done : (m : ℕ) (values : List ℕ) → m ≡ 0 → spoken m values ≡ decimal 20 m ++ spaced values
unfolding spoken
spoken_done m values z = rw (eq-eqb m 0 z) (printed_spaced 0 values ∙ ap (λ (n : ℕ). decimal 20 n ++ spaced values) (sym z))

-- a list behind the value
pub spoken_list : (value : ℕ) (list : List ℕ) → spoken 0 (value ∷ []) ++ spaced list ≡ printed (0 ∷ value ∷ list)
spoken_list value list =
    ap (λ (t : List ℕ). t ++ spaced list) (spoken_done 0 (value ∷ []) refl) ∙ append_assoc (decimal 20 0) (spaced (value ∷ [])) (spaced list)
    ∙ ap (λ (t : List ℕ). decimal 20 0 ++ t) (sym (spaced_append (value ∷ []) list)) ∙ sym (printed_spaced 0 (value ∷ list))

one_value : (m value : ℕ) → m ≡ 0 → spoken m (value ∷ []) ≡ decimal 20 m ++ (32 ∷ decimal 20 value)
one_value m value z = spoken_done m (value ∷ []) z ∙ ap (λ (t : List ℕ). decimal 20 m ++ t) (spaced_one value)

pub spoken_few : (m value : ℕ) → m ≡ 0 → length (spoken m (value ∷ [])) ≤ 41
spoken_few m value z =
    omega (
      arith,
      ap length (one_value m value z),
      length-append (decimal 20 m) (32 ∷ decimal 20 value),
      decimal_few 20 m,
      decimal_few 20 value,
    )

module _ {out out' : List ℕ} {m r : ℕ} (value : ℕ) where
  pub answer_refused : (m ≡ 0 → ⊥) → Printed out 0 (decimal 20 m) out' r → Printed out 0 (spoken m (value ∷ [])) out' r
  answer_refused h p = subst (λ (t : List ℕ). Printed out 0 t out' r) (sym (spoken_refused m (value ∷ []) h ∙ printed_one m)) p

  pub answer_done : {out'' : List ℕ} {r' : ℕ} → m ≡ 0 → Printed out 0 (decimal 20 m) out' r → Printed out' r (32 ∷ decimal 20 value) out'' r'
      → Printed out 0 (spoken m (value ∷ [])) out'' r'
  answer_done {out''} {r'} z p q = subst (λ (t : List ℕ). Printed out 0 t out'' r') (sym (one_value m value z)) (printed_next p q)
