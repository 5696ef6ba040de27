-- Bytes written over others: at the front, behind a run, before one, over a field of zeros, over a row of a table. Assumes nothing.
use Rattle.std.proofs.Common.{◌≡◌, ℕ, zero, suc, ◌+◌, ◌*◌, ◌<◌, ◌≤◌, List, [], ◌∷◌, ◌++◌, length, take, drop, set, replicate, sym, refl, ap}
use Rattle.std.proofs.Common.{◌∙◌, append_assoc, le_of_suc-le-suc, not-suc-le-zero, arith, length-append, take-add, drop_at}
use lib.Seq.{take-append-le, drop-append-le, take-append-add, drop-append-add}
use Rattle.rules.specs.07-Picture.{pad, table}
use Rattle.rules.proofs.07-Picture.{zeros_long}
use Rattle.rows.specs.Rows.{part}
use Rattle.rows.specs.Table.{written}

-- ---- bytes over others

zeros : (m j : ℕ) → m ≤ j → replicate {A = ℕ} m 0 ≡ take m (replicate j 0)
zeros zero j h = refl
zeros (suc m) zero h = absurd (not-suc-le-zero h)
zeros (suc m) (suc j) h = ap (λ (l : List ℕ). 0 ∷ l) (zeros m j (le_of_suc-le-suc h))

over_zeros : (n : List ℕ) (m j : ℕ) → length n ≤ m → m ≤ j → n ++ drop (length n) (replicate m 0) ≡ take m (n ++ replicate j 0)
over_zeros [] m j h l = zeros m j l
over_zeros (x ∷ xs) zero j h l = absurd (not-suc-le-zero h)
over_zeros (x ∷ xs) (suc m) j h l = ap (λ (r : List ℕ). x ∷ r) (over_zeros xs m j (le_of_suc-le-suc h) (omega arith))

-- at the front
pub written_first : (b r : List ℕ) → written b 0 r ≡ r ++ drop (length r) b
unfolding written
written_first b r = let none : 0 + length r ≡ length r = omega arith in rw none

-- behind p
pub written_past : (p q r : List ℕ) (at m : ℕ) → at ≡ length p + m → written (p ++ q) at r ≡ p ++ written q m r
unfolding written
written_past p q r at m e =
    let far : at + length r ≡ length p + (m + length r) = omega arith in
    rw (far, drop-append-add p q (m + length r), e, take-append-add p q m) (append_assoc p (take m q) (r ++ drop (m + length r) q))

-- over p
pub written_over : (p q r : List ℕ) → length p ≡ length r → written (p ++ q) 0 r ≡ r ++ q
written_over p q r e = written_first (p ++ q) r ∙ ap (λ (x : List ℕ). r ++ x) (drop_at p q (length r) e)

-- before q
pub written_before : (p q r : List ℕ) (m : ℕ) → m + length r ≤ length p → written (p ++ q) m r ≡ written p m r ++ q
unfolding written
written_before p q r m h =
    rw (take-append-le m p q (omega arith), drop-append-le (m + length r) p q h)
    (sym (append_assoc (take m p) (r ++ drop (m + length r) p) q ∙ ap (λ (x : List ℕ). take m p ++ x) (append_assoc r (drop (m + length r) p) q)))

-- behind bytes that stand there already
pub written_behind : (b p r : List ℕ) (at : ℕ) → part b at (length p) ≡ p → written b at (p ++ r) ≡ written b (at + length p) r
unfolding written
written_behind b p r at e =
    let far : at + length (p ++ r) ≡ at + length p + length r = omega (arith, length-append p r) in
    rw (far, take-add at (length p) b, e)
    (ap (λ (x : List ℕ). take at b ++ x) (append_assoc p r (drop (at + length p + length r) b))
    ∙ sym (append_assoc (take at b) p (r ++ drop (at + length p + length r) b)))

-- bytes over a field of zeros
pub field_written : (p q n : List ℕ) (w at : ℕ) → at ≡ length p → length n ≤ w → written (p ++ (replicate w 0 ++ q)) at n ≡ p ++ (pad w n ++ q)
unfolding pad
field_written p q n w at e h =
    let blank = replicate {A = ℕ} w 0 in
    written_past p (blank ++ q) n at 0 (omega arith)
    ∙ ap (λ (r : List ℕ). p ++ r) (written_before blank q n 0 (omega (arith, zeros_long w)))
    ∙ ap (λ (r : List ℕ). p ++ (r ++ q)) (written_first blank n ∙ over_zeros n w w h (omega arith))

-- ---- a row written over another

module _ {A : Type 0} (w : ℕ) (row : A → List ℕ) (wide : (a : A) → length (row a) ≡ w) where
  pub table_set : (n : ℕ) (rs : List A) (k : ℕ) (a : A) → k < length rs → length rs ≤ n
      → table w row n (set rs k a) ≡ written (table w row n rs) (k * w) (row a)
  unfolding table
  table_set n [] k a h l = absurd (not-suc-le-zero h)
  table_set zero (x ∷ rs) k a h l = absurd (not-suc-le-zero l)
  table_set (suc n) (x ∷ rs) zero a h l =
      let start : 0 * w ≡ 0 = omega arith in
      rw start (sym (written_over (row x) (table w row n rs) (row a) (wide x ∙ sym (wide a))))
  table_set (suc n) (x ∷ rs) (suc k) a h l =
      ap (λ (t : List ℕ). row x ++ t) (table_set n rs k a (le_of_suc-le-suc h) (le_of_suc-le-suc l))
      ∙ sym (written_past (row x) (table w row n rs) (row a) (suc k * w) (k * w) (omega (arith, wide x)))
