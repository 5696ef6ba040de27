-- A word of SDSs, a bit each: one within another, one with no bit, and words of which one got a bit. Assumes nothing.
use Prim.Native.Nat.{ℕ, zero, suc, ◌*◌, ◌%◌, ◌^◌, ◌<◌}
use native.Mathlib.Omega.{arith}
use mathlib.Core.Path.{◌≡◌, refl, sym, ap, ◌∙◌}
use mathlib.Core.Logic.{◌⊎◌, inl, inr, ⊎_elim}
use mathlib.Core.List.{List}
use mathlib.Core.Bool.{Bool, true, false, ◌&&◌, ◌||◌, or_comm}
use lib.Bits.{bit_and, bit_or, and_le_l, or_lt}
use lib.Dec.{eqb}
use lib.ListN.{length, get_or}
use borrow.Author.Count.{below_more}
use borrow.Author.Tests.{eq-eqb, ne_eqb}
use Rattle.rules.proofs.Bools.{same_test, and_both, and_of}
use Rattle.rules.proofs.Edits.{set_either}
use Rattle.type_set.specs.Set.{bit}
use Rattle.type_set.proofs.Bit.{bit_zero, bit-and, bit_set, word_same}
use Rattle.check_held.specs.Held.{marked, Within}

-- ---- one word within another

pub within_of : (w v : ℕ) → bit_and w v ≡ w → Within w v
within_of w v e d h t = (and_both (bit w d) (bit v d) (sym (bit-and w v d) ∙ ap (λ (x : ℕ). bit x d) e ∙ t)).1

pub of_within : (w v : ℕ) → w < 65536 → Within w v → bit_and w v ≡ w
of_within w v h f =
    word_same 16 (bit_and w v) w (omega (arith, and_le_l w v)) h
    (λ d l.
    bit-and w v d ∙ same_test (bit w d && bit v d) (bit w d) (λ e. (and_both (bit w d) (bit v d) e).0) (λ e. and_of (bit w d) (bit v d) e (f d l e)))

-- ---- a word that is not 0 has a bit

one_below : (p : ℕ → Bool) (n : ℕ) → ((d : ℕ) × (d < n) × (p d ≡ true)) ⊎ ((d : ℕ) → d < n → p d ≡ false)
one_below p zero = inr (λ d h. absurd (omega arith))
one_below p (suc n) = go (one_below p n) (p n) refl
  where
    go : ((d : ℕ) × (d < n) × (p d ≡ true)) ⊎ ((d : ℕ) → d < n → p d ≡ false) → (t : Bool) → p n ≡ t
        → ((d : ℕ) × (d < suc n) × (p d ≡ true)) ⊎ ((d : ℕ) → d < suc n → p d ≡ false)
    go (inl (d, h, e)) t q = inl (d, omega arith, e)
    go (inr none) true q = inl (n, omega arith, q)
    go (inr none) false q = inr (λ d h. below_more (λ k. p k ≡ false) n none q d (omega arith))

pub some_bit : (w : ℕ) → w < 65536 → (w ≡ 0 → ⊥) → (d : ℕ) × (d < 16) × (bit w d ≡ true)
some_bit w h n = go (one_below (bit w) 16)
  where
    go : ((d : ℕ) × (d < 16) × (bit w d ≡ true)) ⊎ ((d : ℕ) → d < 16 → bit w d ≡ false) → (d : ℕ) × (d < 16) × (bit w d ≡ true)
    go (inl x) = x
    go (inr none) = absurd (n (word_same 16 w 0 h (omega arith) (λ d l. none d l ∙ sym (bit_zero d))))

-- ---- bit d of word t is set

module _ (held : List ℕ) (t d : ℕ) (room : t < length held) (small : d < 16) where
  pub marked_bit : (u e : ℕ) → bit (get_or (marked held t d) u 0) e ≡ (eqb u t && eqb e d) || bit (get_or held u 0) e
  marked_bit u e = ⊎_elim
      (λ x.
      ap (λ (w : ℕ). bit w e) x.1 ∙ bit_set 16 (get_or held t 0) d e small ∙ or_comm (bit (get_or held t 0) e) (eqb e d)
      ∙ sym (rw (eq-eqb u t x.0, x.0)))
      (λ x. ap (λ (w : ℕ). bit w e) x.1 ∙ sym (rw (ne_eqb u t x.0)))
      (set_either held t (bit_or (get_or held t 0) (1 * 2 ^ d % 2 ^ 16)) 0 room u)

  pub marked_small : (u : ℕ) → get_or held t 0 < 65536 → get_or held u 0 < 65536 → get_or (marked held t d) u 0 < 65536
  marked_small u h k =
      let mark : 1 * 2 ^ d % 2 ^ 16 < 65536 = omega arith in
      ⊎_elim
      (λ x. rw x.1 (or_lt 16 (get_or held t 0) (1 * 2 ^ d % 2 ^ 16) h mark))
      (λ x. rw x.1 k)
      (set_either held t (bit_or (get_or held t 0) (1 * 2 ^ d % 2 ^ 16)) 0 room u)
